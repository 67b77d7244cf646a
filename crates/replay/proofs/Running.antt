-- What an input comes to of which no more octets are read than tell what it is. Assumes nothing.
use Rattle.std.proofs.Common.{◌≡◌, ℕ, ◌<◌, ◌≤◌, inl, Bool, true, false, cond, not, ◌&&◌, ◌||◌, ltb, eqb, List, [], ◌++◌, length, take, length-append, length-take, Some, None, Option, IfSome, Ok, Err, Result, OnErr, is_ok, refl, ap, subst, sym, ◌∙◌, append-nil, arith}
use Rattle.std.proofs.lemmas.Bool.Decides.{nat_tests}
use Rattle.std.specs.Io.KnownBytes.{Appends, Consumes, IsAtEnd}
use Rattle.std.proofs.KnownBytes.{Appends-nil}
use Rattle.tables.specs.declared.level.Level.{Level}
use Rattle.reel.specs.declared.recorded.Recorded.{Recorded}
use Rattle.reel.specs.declared.refusal.Refusal.{Refusal}
use Rattle.reel.specs.declared.refusal.Refusal.TheVariants.{NotAReel}
use Rattle.reel.specs.Checking.{checked, count_in, counted, distance_in, is_marked, records_in, trailer_in, trailer_place}
use Rattle.reel.specs.Records.{calls_from}
use Rattle.replay.specs.Running.{BeginsReplay, BeginsTelling, fault_line, Replays}
use Rattle.replay.specs.Text.{blamed_in, calls_or_refusal, replay_text}

-- what is longer is refused
beyond : (n : ℕ) (b : Bool) (r : Result (List Recorded) Refusal) → 65536 < n → cond (not (ltb n 12 || ltb 65536 n) && b) r (Err NotAReel) ≡ Err NotAReel
beyond n b r more = grind (arith, nat_tests)

too_long : (xs : List ℕ) → 65536 < length xs → checked xs ≡ Err NotAReel
too_long xs more = beyond (length xs) (is_marked (trailer_in xs) && eqb (distance_in (trailer_in xs)) (trailer_place xs)) (counted (trailer_place xs) (count_in (trailer_in xs)) (calls_from 0 (records_in xs))) more

-- octets that are all of the input, or more than a reel has, are checked as the whole input is
same_checked : (octets behind : List ℕ) → (length octets < 65537 → behind ≡ []) → checked (octets ++ behind) ≡ checked octets
same_checked octets behind end = by_length (ltb (length octets) 65537) refl
  where
    by_length : (b : Bool) → ltb (length octets) 65537 ≡ b → checked (octets ++ behind) ≡ checked octets
    by_length true is = ap (λ l. checked (octets ++ l)) (end (grind (arith, nat_tests))) ∙ ap checked (append-nil octets)
    by_length false is =
        let long : 65536 < length octets = grind (arith, nat_tests) in
        too_long (octets ++ behind) (omega (arith, long, length-append octets behind)) ∙ sym (too_long octets long)

-- what is due to the octets that were read is due to the input
pub of_input : (P : Result (List Recorded) Refusal → Type 0) (input left : Option (List ℕ)) (octets : List ℕ) → Consumes input left octets → (length octets < 65537 → IsAtEnd left) → P (checked octets) → IfSome input (λ whole. P (checked whole))
of_input P None left octets consumes end p = tt
of_input P (Some xs) None octets consumes end p = absurd consumes
of_input P (Some xs) (Some ys) octets consumes end p = subst P (sym (ap checked consumes ∙ same_checked octets ys end)) p

-- all was written
pub replayed : (level : Level) (input left : Option (List ℕ)) (octets : List ℕ) (is : Bool) (output grown faults told : Option (List ℕ)) (text line : List ℕ) → Consumes input left octets → (length octets < 65537 → IsAtEnd left)
    → text ≡ replay_text level octets → line ≡ fault_line (blamed_in (checked octets)) → is ≡ is_ok (checked octets) → Appends output grown text → Appends faults told line → IfSome input (λ whole. Replays level whole is output grown faults told)
replayed level input left octets is output grown faults told text line consumes end text_is line_is reel written said =
    let all : (r : Result (List Recorded) Refusal) → Type 0 = λ r. Appends output grown (calls_or_refusal level r) × Appends faults told (fault_line (blamed_in r)) × (is ≡ is_ok r) in
    known input (of_input all input left octets consumes end (subst (Appends output grown) text_is written, subst (Appends faults told) line_is said, reel))
  where
    known : (i : Option (List ℕ)) → IfSome i (λ whole. Appends output grown (replay_text level whole) × Appends faults told (fault_line (blamed_in (checked whole))) × (is ≡ is_ok (checked whole))) → IfSome i (λ whole. Replays level whole is output grown faults told)
    known None p = tt
    known (Some xs) (text, fault, reel) = record { text = text; fault = fault; reel = reel }

-- some was
pub begun : (level : Level) (input left : Option (List ℕ)) (octets : List ℕ) (output grown faults told : Option (List ℕ)) (text line : List ℕ) → Consumes input left octets → (length octets < 65537 → IsAtEnd left)
    → text ≡ replay_text level octets → line ≡ fault_line (blamed_in (checked octets)) → BeginsTelling text line output grown faults told → IfSome input (λ whole. BeginsReplay level whole output grown faults told)
begun level input left octets output grown faults told text line consumes end text_is line_is some =
    of_input (λ r. BeginsTelling (calls_or_refusal level r) (fault_line (blamed_in r)) output grown faults told) input left octets consumes end
    (subst (λ l. BeginsTelling (replay_text level octets) l output grown faults told) line_is (subst (λ t. BeginsTelling t line output grown faults told) text_is some))

-- nothing was
pub nothing_told : (text line : List ℕ) (output faults : Option (List ℕ)) → BeginsTelling text line output output faults faults
nothing_told text line output faults = record { written = 0; said = 0; appends = Appends-nil output; tells = Appends-nil faults; order = inl refl }

pub text_begun : (text its line : List ℕ) (n : ℕ) (output grown faults : Option (List ℕ)) → its ≡ text → Appends output grown (take n its) → BeginsTelling text line output grown faults faults
text_begun text its line n output grown faults is some = record { written = n; said = 0; appends = subst (λ t. Appends output grown (take n t)) is some; tells = Appends-nil faults; order = inl refl }

pub nothing_begun : (level : Level) (input output faults : Option (List ℕ)) → IfSome input (λ whole. BeginsReplay level whole output output faults faults)
nothing_begun level None output faults = tt
nothing_begun level (Some xs) output faults = nothing_told _ _ output faults

-- no more is read than memory holds
pub few_read : (input left : Option (List ℕ)) (memory : List ℕ) (n : ℕ) → length memory ≡ 65537 → Consumes input left (take n memory) → (octets : List ℕ) × (length octets ≤ 65537) × Consumes input left octets
few_read input left memory n is consumes = (take n memory, omega (arith, length-take n memory, is), consumes)

-- and where it is not filled, the input is at its end
pub ends_below : (n : ℕ) (memory : List ℕ) (left : Option (List ℕ)) → length memory ≡ 65537 → n ≤ length memory → (n < length memory → IsAtEnd left) → length (take n memory) < 65537 → IsAtEnd left
ends_below n memory left is within end few = end (omega (arith, length-take n memory, is, within, few))

-- what holds anyway
pub on_err : {X Y : Type 0} {A : Type 0} (result : Result X Y) → A → OnErr result A
on_err (Ok x) a = tt
on_err (Err y) a = a
