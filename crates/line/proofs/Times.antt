-- How many times a leg stands in a list, and what it then hears.
use Rattle.std.proofs.Common.{◌≡◌, ℕ, ◌+◌, Bool, true, false, cond, eqb, fold, add_comm, zero-add, List, [], ◌∷◌, get_or, refl, sym, ◌∙◌, add-one, arith}
use Rattle.std.proofs.lemmas.Bool.{eq-eqb, ne_eqb}
use Rattle.std.proofs.lemmas.List.{get_or_default}
use Rattle.std.proofs.lemmas.List.Sums.{sum_by-cons, get_or-le-sum_by, sum_by-le}
use Rattle.line.specs.declared.notice.Notice.{Notice}
use Rattle.line.specs.declared.standing.Standing.{Standing}
use Rattle.line.specs.Meaning.{Standings}
use Rattle.line.specs.Notices.{after}
use Rattle.line.specs.Telling.{times, Distinct, repeated, Once}

-- the standing of a leg once a list was told, one after another
abbrev pub hearing : ℕ → Notice → List ℕ → Standing → Standing
hearing k notice legs s = fold (λ t leg. cond (eqb k leg) (after notice t) t) s legs

-- it hears the notice as many times as it stands in the list
pub hearing_times : (k : ℕ) (notice : Notice) (legs : List ℕ) (s : Standing) → hearing k notice legs s ≡ repeated (times k legs) notice s
hearing_times k notice [] s = refl
hearing_times k notice (leg ∷ legs) s =
    hearing_times k notice legs _ ∙ rw (sum_by-cons (λ x. cond (eqb k x) 1 0) leg legs) (either (eqb k leg))
  where
    either : (b : Bool) → repeated (times k legs) notice (cond b (after notice s) s) ≡ repeated (cond b 1 0 + times k legs) notice s
    either true = rw (add_comm 1 (times k legs), add-one) refl
    either false = rw zero-add refl

-- where no leg stands in the list twice, each in it hears the notice once, and no other leg anything
pub told_once : (legs : List ℕ) (notice : Notice) (s s' : Standings) → ((k : ℕ) → s' k ≡ hearing k notice legs (s k)) → Distinct legs → Once legs notice s s'
told_once legs notice s s' heard distinct = record {
  listed = λ k has.
      let some = rw (eq-eqb k (get_or legs has.0 k) (sym has.2)) at (get_or-le-sum_by (λ leg. cond (eqb k leg) 1 0) legs has.0 k has.1) in
      let one : times k legs ≡ 1 = omega (arith, distinct k) in
      heard k ∙ hearing_times k notice legs (s k) ∙ rw one refl;
  unlisted = λ k hasn't.
      let none = sum_by-le (λ leg. cond (eqb k leg) 1 0) 0 legs (λ i d lt. rw (ne_eqb k (get_or legs i d) (λ e. hasn't (i, lt, get_or_default legs i k d lt ∙ sym e))) (omega arith)) in
      let never : times k legs ≡ 0 = omega arith in
      heard k ∙ hearing_times k notice legs (s k) ∙ rw never refl;
}
