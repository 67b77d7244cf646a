-- An element that was read writes back. Assumes nothing.
use Rattle.std.proofs.Common.{◌≡◌, ℕ, ◌+◌, ◌≤◌, true, Bool, cond, List, [], ◌∷◌, length, get_or, drop, IfOk, None, Ok, Err, Option, Result, sym, refl, ap, ◌∙◌, subst, arith}
use Rattle.std.proofs.ByRecursion.{All-drop}
use Rattle.std.proofs.lemmas.Bool.{and_from, eq-eqb}
use Rattle.std.proofs.lemmas.Bool.Decides.{nat_tests}
use Rattle.components.specs.declared.fault.Cause.TheVariants.{Tag}
use Rattle.components.specs.declared.fault.Fault.{Fault}
use Rattle.components.specs.declared.component.Component.{Component}
use Rattle.components.specs.Component.{Said, said}
use Rattle.components.specs.Faults.{at}
use Rattle.components.specs.Reading.{is_component_tag, bad_component, by_tag, structured, head_fault, unless, reading_component, reading, read_as}
use Rattle.ber.specs.Structure.{values}
use Rattle.ber.specs.Value.{tagged, tag, size}
use Rattle.components.specs.Writing.{encoded, placed, component_contents}
use Rattle.components.proofs.Framing.{component_parts, component_contents_well}
use Rattle.ber.proofs.Lying.{values_lie}
use Rattle.ber.proofs.Numbers.{tagged_is}
use Rattle.components.proofs.Rewriting.{Octets, tag_rewrites}

-- the head of an element that reads
pub record Head (xs : List ℕ) : Type 0 where
  pub some : 3 ≤ length xs
  pub few : length xs ≤ 132
  pub identifier : get_or xs 0 0 ≡ 0x1c
  pub counted : get_or xs 1 0 + 2 ≡ length xs
  pub profile : get_or xs 2 0 ≡ 0x91

-- what the tests of the head say when they pass
pub head_parts : (xs : List ℕ) → head_fault xs ≡ None → Head xs
head_parts xs none = record { some = grind (arith, nat_tests); few = grind (arith, nat_tests); identifier = grind (arith, nat_tests); counted = grind (arith, nat_tests); profile = grind (arith, nat_tests) }

-- all that holds of an element that reads
pub record Reads (xs : List ℕ) (s : Said) : Type 0 where
  pub head : head_fault xs ≡ None
  pub known : is_component_tag (tag (drop 3 xs)) ≡ true
  pub well : bad_component (drop 3 xs) ≡ None
  pub typed : by_tag (tag (drop 3 xs)) (3 + length (drop 3 xs)) (values 5 (drop 2 (drop 3 xs))) ≡ Ok s

-- no fault, and what was read then
pub structured_parts : (o : Option ℕ) (r : Result Said Fault) (s : Said) → structured o r ≡ Ok s → (o ≡ None) × (r ≡ Ok s)
structured_parts o r s h = grind arith

read_parts : (head : Option Fault) (known : Bool) (o : Option ℕ) (r : Result Said Fault) (s : Said) → unless head (cond known (structured o r) (Err (at Tag 3))) ≡ Ok s
    → (head ≡ None) × (known ≡ true) × (structured o r ≡ Ok s)
read_parts head known o r s h = grind arith

-- reading, taken apart
pub reads_parts : (xs : List ℕ) (s : Said) → reading xs ≡ Ok s → Reads xs s
unfolding reading reading_component
reads_parts xs s is =
    let ys = drop 3 xs in
    let typed = by_tag (tag ys) (3 + length ys) (values 5 (drop 2 ys)) in
    let p = read_parts (head_fault xs) (is_component_tag (tag ys)) (bad_component ys) typed s is in
    let t = structured_parts (bad_component ys) typed s p.2 in
    record { head = p.0; known = p.1; well = t.0; typed = t.1 }

-- an element is its head and what stands behind it
head_is : (xs : List ℕ) → Head xs → xs ≡ tagged 0x1c (0x91 ∷ drop 3 xs)
head_is xs h =
    let some = h.some in
    let identifier = h.identifier in
    let counted = h.counted in
    let profile = h.profile in
    by xs some identifier counted profile
  where
    by : (xs : List ℕ) → 3 ≤ length xs → get_or xs 0 0 ≡ 0x1c → get_or xs 1 0 + 2 ≡ length xs → get_or xs 2 0 ≡ 0x91 → xs ≡ tagged 0x1c (0x91 ∷ drop 3 xs)
    by [] some identifier counted profile = grind arith
    by (a ∷ []) some identifier counted profile = grind arith
    by (a ∷ b ∷ []) some identifier counted profile = grind arith
    by (a ∷ b ∷ c ∷ xs) some identifier counted profile = grind arith

-- what was read has its octets again, and its parameter where it lay
pub read_writes : (xs : List ℕ) (s : Said) → Octets xs → reading xs ≡ Ok s → (encoded s ≡ xs) × (placed s ≡ s)
read_writes xs s all is =
    let r = reads_parts xs s is in
    let ys = drop 3 xs in
    let cs = drop 2 ys in
    let h = head_parts xs r.head in
    let lies = values_lie (length cs) 7 5 cs (omega arith) (component_contents_well ys r.well r.known) in
    let octets = subst Octets (sym lies.1) (All-drop _ 2 ys (All-drop _ 3 xs all)) in
    let t = tag_rewrites (tag ys) 7 (3 + length ys) (values 5 cs) s lies.0 octets r.known r.typed in
    let whole = tagged_is (tag ys) ys (and_from _ _ (eq-eqb (tag ys) (tag ys) refl) (eq-eqb (size ys) (length ys) (component_parts ys r.well).1)) in (
      ap (λ k. tagged 0x1c (0x91 ∷ tagged k (component_contents s))) t.0
          ∙ ap (λ l. tagged 0x1c (0x91 ∷ tagged (tag ys) l)) (t.1.contents ∙ lies.1)
          ∙ ap (λ l. tagged 0x1c (0x91 ∷ l)) (sym whole)
          ∙ sym (head_is xs h),
      t.1.same,
    )

-- the same of what a call answers
pub made_writes : (xs : List ℕ) (r : Result Component Fault) → Octets xs → read_as r ≡ reading xs → IfOk r (λ c. (encoded (said c) ≡ xs) × (placed (said c) ≡ said c))
made_writes xs (Ok c) all is = read_writes xs (said c) all (sym is)
made_writes xs (Err f) all is = tt
