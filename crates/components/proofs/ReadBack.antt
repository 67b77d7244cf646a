-- Which components read back from their octets: those that are sound and not too long. Assumes nothing.
use Rattle.std.proofs.Common.{◌≡◌, ℕ, ◌+◌, ◌<◌, ◌≤◌, List, ◌++◌, length, ℤ, Some, None, Ok, Err, Option, sym, refl, ◌∙◌, arith, length-append}
use Rattle.components.specs.declared.component.Problem.{Problem}
use Rattle.components.specs.declared.component.Problem.TheVariants as problem
use Rattle.components.specs.declared.write.Refusal.{Refusal}
use Rattle.components.specs.declared.write.Refusal.TheVariants.{Unreadable, ShortMemory}
use Rattle.components.specs.Component.{Said, invoke, result, error, reject}
use Rattle.components.specs.Reading.{by_tag}
use Rattle.ber.specs.Structure.{bad_list, values}
use Rattle.components.specs.Writing.{component_tag, component_contents, encoded, placed, id_octets, problem_octets, Readable, One, Sound, Sized, Written}
use Rattle.components.specs.Message.{Composed}
use Rattle.components.proofs.Answering.{result_reads, result_fit, reject_reads}
use Rattle.components.proofs.Encoding.{reading_encoded}
use Rattle.ber.proofs.Nesting.{whole_parts}
use Rattle.components.proofs.Rereading.{head_parts, reads_parts, structured_parts}
use Rattle.components.proofs.Returning.{integer_long, two_reads, two_fit}
use Rattle.ber.proofs.Taking.{well_whole}

-- the contents are well structured, and say what the component says
abbrev Contents : Said → Type 0
Contents s = (bad_list 7 5 (component_contents s) ≡ None) × (by_tag (component_tag s) (5 + length (component_contents s)) (values 5 (component_contents s)) ≡ Ok (placed s))

-- by the four components
contents_read : (s : Said) → Sized s → Sound s → length (component_contents s) ≤ 127 → Contents s
contents_read (invoke id op o) fits sound few = two_reads invoke _ id op o fits.0 fits.1 sound
contents_read (result id o) fits sound few = result_reads _ id o fits.0 fits.1 few sound
contents_read (error id code o) fits sound few = two_reads error _ id code o fits.0 fits.1 sound
contents_read (reject id why) fits sound few = reject_reads _ id why fits

-- and the other way
contents_sound : (s : Said) → Sized s → length (component_contents s) ≤ 127 → Contents s → Sound s
contents_sound (invoke id op o) fits few is = two_fit invoke _ id op o fits.0 fits.1 (λ g h e. cc) is.0 is.1
contents_sound (result id o) fits few is = result_fit _ id o fits.0 few is.0 is.1
contents_sound (error id code o) fits few is = two_fit error _ id code o fits.0 fits.1 (λ g h e. cc) is.0 is.1
contents_sound (reject id why) fits few is = tt

-- what is written reads back
pub readable_from : (s : Said) → Sized s → Sound s → length (component_contents s) ≤ 127 → Readable s
readable_from s fits sound few =
    let is = contents_read s fits sound few in
    rw (reading_encoded s few, is.0) is.1

-- what reads back is sound, and not too long
pub readable_few : (s : Said) → Readable s → length (component_contents s) ≤ 127
readable_few s is = omega (arith, (head_parts (encoded s) (reads_parts (encoded s) (placed s) is).head).few)

pub readable_sound : (s : Said) → Sized s → Readable s → Sound s
readable_sound s fits is =
    let few = readable_few s is in
    contents_sound s fits few (structured_parts (bad_list 7 5 (component_contents s)) (by_tag (component_tag s) (5 + length (component_contents s)) (values 5 (component_contents s))) (placed s) (sym (reading_encoded s few) ∙ is))

-- a component that is not sound, or is too long, is refused
pub refused : (s : Said) (memory : List ℕ) (e : Refusal) → Sized s → (Sound s → 127 < length (component_contents s)) → e ≡ Unreadable → Written s memory memory (Err e)
refused s memory e fits long is =
    rw is (λ reads. omega (arith, readable_few s reads, long (readable_sound s fits reads)), refl)

-- one value has at most 129 octets
pub one_few : (n : ℕ) (xs : List ℕ) → One n xs → length xs ≤ 129
one_few n xs one = omega (arith, (whole_parts xs (well_whole n 0 xs one.well)).length_short, one.all)

-- a message is not refused where its component is sound and its octets are few
pub composed_fits : (head : List ℕ) (s : Said) (e : Refusal) → Sized s → Sound s → length (head ++ encoded s) ≤ 23 → Composed head s (Err e) → ⊥
composed_fits head s Unreadable fits sound few told = told (readable_from s fits sound (omega (arith, length-append head (encoded s))))
composed_fits head s ShortMemory fits sound few told = omega arith

-- a problem has three octets
problem_long : (why : Problem) → length (problem_octets why) ≡ 3
problem_long (problem.General code) = refl
problem_long (problem.Invoke code) = refl
problem_long (problem.ReturnResult code) = refl
problem_long (problem.ReturnError code) = refl

-- an id has at most four octets
id_long : (id : Option ℤ) → length (id_octets id) ≤ 4
id_long None = omega arith
id_long (Some n) = integer_long n

-- so that a reject has at most twelve
pub reject_long : (id : Option ℤ) (why : Problem) → length (encoded (reject id why)) ≤ 12
reject_long id why = omega (arith, length-append (id_octets id) (problem_octets why), problem_long why, id_long id)
