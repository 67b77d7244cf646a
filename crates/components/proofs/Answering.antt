-- Results and rejects read back from their octets. Assumes nothing.
use Rattle.std.proofs.Common.{◌≡◌, ℕ, ◌+◌, ◌≤◌, List, [], ◌∷◌, ◌++◌, length, ℤ, Some, None, Ok, Option, sym, refl, ap, ◌∙◌, append-nil, arith, lit<, length-append, w16, SFits}
use Rattle.std.specs.Option.{option_map}
use Rattle.std.proofs.lemmas.List.{take_all}
use Rattle.std.proofs.lemmas.Bool.{cond-true, and_from, eq-eqb}
use Rattle.components.specs.declared.component.Problem.{Problem}
use Rattle.components.specs.Component.{result, reject}
use Rattle.ber.specs.Integer.{integer_octets}
use Rattle.ber.specs.Structure.{bad_value, bad_list, Part, values}
use Rattle.components.specs.Typed.{and_then, at_most_one, any, integer_or_null, as_problem, integer_and_value, an_answer, a_result, a_reject}
use Rattle.ber.specs.Value.{tagged}
use Rattle.components.specs.Writing.{id_octets, answer_octets, problem_octets, moved, answer_moved, Fit, Each}
use Rattle.ber.proofs.Appending.{Alone, joint_values, joint_list, alone_values, alone_list}
use Rattle.components.proofs.Encoding.{tagged_whole}
use Rattle.components.proofs.Inverting.{then_parts}
use Rattle.ber.proofs.Nesting.{value_nested, value_plain, no_values, empty_list}
use Rattle.ber.proofs.Numbers.{integer_reads}
use Rattle.components.proofs.Returning.{integer_alone, integer_well, one_values, one_list, fit_reads, reads_fit}
use Rattle.ber.proofs.Taking.{both_none}

-- a SEQUENCE of an operation and a value, at a place
module _ (p : ℕ) (op : ℤ) (xs : List ℕ) (few : length (integer_octets op ++ xs) ≤ 127) where
  -- its octets
  abbrev pub sequence_octets : List ℕ
  sequence_octets = tagged 0x30 (integer_octets op ++ xs)

  -- it is one value alone
  pub sequence_alone : Alone sequence_octets
  sequence_alone = record { whole = tagged_whole 0x30 (integer_octets op ++ xs) refl few; all = omega arith }

  -- it is as well as the value in it
  pub sequence_fault : bad_value 7 p sequence_octets ≡ bad_list 6 (p + 2 + length (integer_octets op)) xs
  sequence_fault =
      rw (value_nested 7 p sequence_octets (lit< tt) sequence_alone.whole refl, take_all (2 + length (integer_octets op ++ xs)) sequence_octets (omega arith)) (one_list (p + 2) 6 (lit< tt) op xs)

  -- and holds the operation and that value
  pub sequence_read : an_answer (record { octets = sequence_octets; place = p }) ≡ integer_and_value (record { octets = integer_octets op; place = p + 2 } ∷ values (p + 2 + length (integer_octets op)) xs)
  sequence_read =
      cond-true _ _ _ (and_from _ _ refl (eq-eqb (2 + length (integer_octets op ++ xs)) (length sequence_octets) (omega arith)))
      ∙ ap integer_and_value (one_values (p + 2) 6 (lit< tt) op xs)

-- the value behind an operation is the last
pair_last : (v : Part) (us : List Part) (a : ℤ × Part) → integer_and_value (v ∷ us) ≡ Some a → at_most_one any us ≡ Ok (Some a.1)
pair_last v [] a is = grind arith
pair_last v (w ∷ []) a is = grind arith
pair_last v (w ∷ u ∷ us) a is = grind arith

-- an operation and a last value
pair_made : (p : ℕ) (op : ℤ) (us : List Part) (w : Part) → SFits w16 op → us ≡ w ∷ [] → integer_and_value (record { octets = integer_octets op; place = p } ∷ us) ≡ Some (op, w)
pair_made p op us w fits is = rw (is, integer_reads op fits) refl

-- an answer with its value at the place where it lies in a SEQUENCE at p
abbrev pub answer_at : ℕ → ℤ × Part → ℤ × Part
answer_at p a = (a.0, moved (p + 2 + length (integer_octets a.0)) a.1)

-- the answer of a result whose value is one value reads as itself
answer_reads : (p : ℕ) (o : Option (ℤ × Part)) → Each (λ a. SFits w16 a.0) o → length (answer_octets o) ≤ 129 → Fit 6 (option_map (λ a. a.1) o)
    → (bad_list 7 p (answer_octets o) ≡ None) × (at_most_one an_answer (values p (answer_octets o)) ≡ Ok (option_map (answer_at p) o))
answer_reads p None fits few fit = (empty_list 7 p [] refl, rw (no_values p [] refl) refl)
answer_reads p (Some a) fits few fit =
    let xs = a.1.octets in
    let q = p + 2 + length (integer_octets a.0) in
    let short : length (integer_octets a.0 ++ xs) ≤ 127 = omega arith in
    let alone = sequence_alone p a.0 xs short in
    let r = fit_reads 6 q (Some a.1) fit in
    let last = one_last (values q xs) (moved q a.1) r.1 in
    let read = sequence_read p a.0 xs short ∙ pair_made (p + 2) a.0 (values q xs) (moved q a.1) fits last in
    let v : Part = record { octets = sequence_octets p a.0 xs short; place = p } in (
      alone_list 7 p (answer_octets (Some a)) alone (sequence_fault p a.0 xs short ∙ r.0),
      rw (alone_values p (answer_octets (Some a)) alone, read) refl,
    )
  where
    one_last : (us : List Part) (w : Part) → at_most_one any us ≡ Ok (Some w) → us ≡ w ∷ []
    one_last [] w is = cc
    one_last (u ∷ []) w is = cc
    one_last (u ∷ t ∷ ts) w is = cc

-- and one that reads as itself has one value
reads_answer : (p : ℕ) (o : Option (ℤ × Part)) → length (answer_octets o) ≤ 129 → bad_list 7 p (answer_octets o) ≡ None
    → at_most_one an_answer (values p (answer_octets o)) ≡ Ok (option_map (answer_at p) o) → Fit 6 (option_map (λ a. a.1) o)
reads_answer p None few well is = tt
reads_answer p (Some a) few well is =
    let xs = a.1.octets in
    let q = p + 2 + length (integer_octets a.0) in
    let short : length (integer_octets a.0 ++ xs) ≤ 127 = omega arith in
    let alone = sequence_alone p a.0 xs short in
    let v : Part = record { octets = sequence_octets p a.0 xs short; place = p } in
    let inside = both_none (bad_value 7 p (answer_octets (Some a))) (bad_list 7 (p + length (answer_octets (Some a))) []) (sym (ap (bad_list 7 p) (sym (append-nil (answer_octets (Some a)))) ∙ joint_list (answer_octets (Some a)) [] alone 7 p) ∙ well) in
    let read = only_answer v (answer_at p a) (sym (ap (at_most_one an_answer) (alone_values p (answer_octets (Some a)) alone)) ∙ is) in
    let last = pair_last (record { octets = integer_octets a.0; place = p + 2 }) (values q xs) (answer_at p a) (sym (sequence_read p a.0 xs short) ∙ read) in
    reads_fit 6 q (Some a.1) (sym (sequence_fault p a.0 xs short) ∙ inside.0) last
  where
    only_answer : (v : Part) (a : ℤ × Part) → at_most_one an_answer (v ∷ []) ≡ Ok (Some a) → an_answer v ≡ Some a
    only_answer v a is = grind arith

-- a result, read
module _ (end : ℕ) (id : ℤ) (o : Option (ℤ × Part)) (fits : SFits w16 id) where
  -- the id reads, and what comes behind it is left
  result_typed : a_result end (values 5 (integer_octets id ++ answer_octets o)) ≡ and_then (at_most_one an_answer (values (5 + length (integer_octets id)) (answer_octets o))) (λ g. Ok (result id g))
  result_typed =
      rw (one_values 5 7 (lit< tt) id (answer_octets o), integer_reads id fits) refl

  -- the value lies behind the id, the head of the SEQUENCE and the operation
  moved_there : option_map (answer_at (5 + length (integer_octets id))) o ≡ option_map (answer_moved id) o
  moved_there = grind arith

  -- what stands behind the id is not too long
  few_left : length (integer_octets id ++ answer_octets o) ≤ 127 → length (answer_octets o) ≤ 129
  few_left few = omega (arith, length-append (integer_octets id) (answer_octets o))

  -- with an answer of one value, or none, it reads as the result
  pub result_reads : Each (λ a. SFits w16 a.0) o → length (integer_octets id ++ answer_octets o) ≤ 127 → Fit 6 (option_map (λ a. a.1) o)
      → (bad_list 7 5 (integer_octets id ++ answer_octets o) ≡ None) × (a_result end (values 5 (integer_octets id ++ answer_octets o)) ≡ Ok (result id (option_map (answer_moved id) o)))
  result_reads each few fit =
      let r = answer_reads (5 + length (integer_octets id)) o each (few_left few) fit in
      (rw (one_list 5 7 (lit< tt) id (answer_octets o)) r.0, rw (result_typed, r.1, moved_there) refl)

  -- and if it reads as the result, the answer has one value
  pub result_fit : length (integer_octets id ++ answer_octets o) ≤ 127 → bad_list 7 5 (integer_octets id ++ answer_octets o) ≡ None
      → a_result end (values 5 (integer_octets id ++ answer_octets o)) ≡ Ok (result id (option_map (answer_moved id) o)) → Fit 6 (option_map (λ a. a.1) o)
  result_fit few well is =
      let t = then_parts (at_most_one an_answer (values (5 + length (integer_octets id)) (answer_octets o))) (λ g. Ok (result id g)) (result id (option_map (answer_moved id) o)) (sym result_typed ∙ is) in
      let same : t.0 ≡ option_map (answer_moved id) o = cc in
      reads_answer (5 + length (integer_octets id)) o (few_left few) (sym (one_list 5 7 (lit< tt) id (answer_octets o)) ∙ well) (t.1 ∙ ap Ok (same ∙ sym moved_there))

-- the id of a reject is one value, and reads as itself
id_alone : (id : Option ℤ) → Alone (id_octets id)
id_alone None = record { whole = refl; all = refl }
id_alone (Some n) = integer_alone n

-- it is well
id_well : (id : Option ℤ) → bad_value 7 5 (id_octets id) ≡ None
id_well None = value_plain 7 5 (tagged 5 []) (lit< tt) refl refl
id_well (Some n) = integer_well 7 5 n (lit< tt)

-- and reads as itself
id_reads : (id : Option ℤ) → Each (λ n. SFits w16 n) id → integer_or_null (record { octets = id_octets id; place = 5 }) ≡ Some id
id_reads id fits = grind (arith, integer_reads)

-- so does its problem
problem_alone : (why : Problem) → Alone (problem_octets why)
problem_alone why = record { whole = grind arith; all = grind arith }

-- it is well
problem_well : (p : ℕ) (why : Problem) → bad_value 7 p (problem_octets why) ≡ None
problem_well p why = value_plain 7 p (problem_octets why) (lit< tt) (problem_alone why).whole (grind arith)

-- and reads as itself
problem_reads : (why : Problem) → as_problem (problem_octets why) ≡ Some why
problem_reads why = grind arith

-- a reject, read
pub reject_reads : (end : ℕ) (id : Option ℤ) (why : Problem) → Each (λ n. SFits w16 n) id
    → (bad_list 7 5 (id_octets id ++ problem_octets why) ≡ None) × (a_reject end (values 5 (id_octets id ++ problem_octets why)) ≡ Ok (reject id why))
reject_reads end id why fits =
    let v : Part = record { octets = id_octets id; place = 5 } in
    let p = 5 + length (id_octets id) in
    let w : Part = record { octets = problem_octets why; place = p } in
    let all : values 5 (id_octets id ++ problem_octets why) ≡ v ∷ w ∷ [] = rw (joint_values (id_octets id) (problem_octets why) (id_alone id) 5, alone_values p (problem_octets why) (problem_alone why)) refl in (
      rw (joint_list (id_octets id) (problem_octets why) (id_alone id) 7 5, id_well id) (alone_list 7 p (problem_octets why) (problem_alone why) (problem_well p why)),
      rw (all, id_reads id fits, problem_reads why) refl,
    )
