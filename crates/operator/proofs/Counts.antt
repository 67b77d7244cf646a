-- How counts of legs change.
use Rattle.std.proofs.Common.{◌≡◌, ℕ, ◌+◌, ◌≤◌, ◌<◌, ◌≢◌, zero, suc, Bool, false, cond, eqb, not, ◌&&◌, refl, ap, inl, inr, arith}
use Rattle.std.proofs.lemmas.Bool.{cases_eq, ne_eqb, eq-eqb}
use Rattle.std.proofs.lemmas.Bool.Decides.{nat_tests}
use Rattle.line.specs.Meaning.{Leg}
use Rattle.operator.specs.Roster.{Entry, count_below, count, ups, members, others_in, is_up, is_in}

-- 1 for what passes
abbrev pub one : Bool → ℕ
one b = cond b 1 0

-- tests that agree on the legs below n count the same
below_same : (p q : ℕ → Bool) (n : ℕ) → ((k : ℕ) → k < n → p k ≡ q k) → count_below p n ≡ count_below q n
below_same p q zero same = refl
below_same p q (suc n) same =
    let here : p n ≡ q n = same n (omega arith) in
    let rest = below_same p q n (λ k lt. same k (omega arith)) in
    rw (rest, here)

-- tests that agree but at one leg differ there alone
below_but : (p q : ℕ → Bool) (l n : ℕ) → ((k : ℕ) → k ≢ l → p k ≡ q k) → l < n → count_below p n + one (q l) ≡ count_below q n + one (p l)
below_but p q l zero same lt = absurd (omega arith)
below_but p q l (suc n) same lt = elim (cases_eq n l) [
  | inl e ↦
      let rest : count_below p n ≡ count_below q n = below_same p q n (λ k lt. same k (omega arith)) in
      let p_is = ap p e in
      let q_is = ap q e in
      rw (rest, p_is, q_is) (omega arith)
  | inr ne ↦
      let rest = below_but p q l n same (omega arith) in
      let here : p n ≡ q n = same n ne in
      rw here (omega (arith, rest))
]

-- no count is above the number of legs counted
below_most : (p : ℕ → Bool) (n : ℕ) → count_below p n ≤ n
below_most p zero = omega arith
below_most p (suc n) = let rest = below_most p n in grind (arith, nat_tests)

-- two counts with nothing in common add up to a third
below_both : (p q o : ℕ → Bool) (n : ℕ) → ((k : ℕ) → one (p k) + one (q k) ≡ one (o k)) → count_below p n + count_below q n ≡ count_below o n
below_both p q o zero each = refl
below_both p q o (suc n) each = let here = each n in let rest = below_both p q o n each in omega arith

-- where nothing passes, nothing counts
below_none : (p : ℕ → Bool) (n : ℕ) → ((k : ℕ) → p k ≡ false) → count_below p n ≡ 0
below_none p zero none = refl
below_none p (suc n) none = let here = none n in let rest = below_none p n none in rw (rest, here)

-- the same of counts of all legs
pub count_same : (p q : ℕ → Bool) → ((k : ℕ) → p k ≡ q k) → count p ≡ count q
unfolding count
count_same p q same = below_same p q 65 (λ k lt. same k)

-- tests that agree but at one leg
pub count_but : (p q : ℕ → Bool) (l : ℕ) → ((k : ℕ) → k ≢ l → p k ≡ q k) → l < 65 → count p + one (q l) ≡ count q + one (p l)
unfolding count
count_but p q l same lt = below_but p q l 65 same lt

-- there are 65 numbers to count, with 0
pub count_most : (p : ℕ → Bool) → count p ≤ 65
unfolding count
count_most p = below_most p 65

-- two counts that make up a third
pub count_both : (p q o : ℕ → Bool) → ((k : ℕ) → one (p k) + one (q k) ≡ one (o k)) → count p + count q ≡ count o
unfolding count
count_both p q o each = below_both p q o 65 each

-- nothing that passes
pub count_none : (p : ℕ → Bool) → ((k : ℕ) → p k ≡ false) → count p ≡ 0
unfolding count
count_none p none = below_none p 65 none

-- a leg is among those counted
pub below : {k : ℕ} → Leg k → k < 65
below leg = let most = leg.most in omega arith

-- the entries are the same but for one leg's, which is now another
pub record Changed (l : ℕ) (e : Entry) (legs legs' : ℕ → Entry) : Type 0 where
  pub leg : Leg l
  pub here : legs' l ≡ e
  pub others : (k : ℕ) → k ≢ l → legs' k ≡ legs k

-- what holds of the changed entry, and of the others as they were, holds of each
pub by_leg : {l : ℕ} {e : Entry} {legs legs' : ℕ → Entry} (P : ℕ → Entry → Type 0) → Changed l e legs legs' → P l e → ((k : ℕ) → k ≢ l → P k (legs k)) → (k : ℕ) → P k (legs' k)
by_leg {l} P ch here others k = elim (cases_eq k l) [ inl is ↦ rw (is, ch.here) here | inr ne ↦ rw (ch.others k ne) (others k ne) ]

-- how many are up then
pub ups_changed : {l : ℕ} {e : Entry} {legs legs' : ℕ → Entry} → Changed l e legs legs' → ups legs' + one (is_up (legs l)) ≡ ups legs + one (is_up e)
ups_changed {l} {e} {legs} {legs'} c = rw (← c.here) (count_but (λ k. is_up (legs' k)) (λ k. is_up (legs k)) l (λ k ne. ap is_up (c.others k ne)) (below c.leg))

-- how many are in a conference then
pub members_changed : {l : ℕ} {e : Entry} {legs legs' : ℕ → Entry} (m : ℕ) → Changed l e legs legs' → members m legs' + one (is_in m (legs l)) ≡ members m legs + one (is_in m e)
members_changed {l} {e} {legs} {legs'} m c = rw (← c.here) (count_but (λ k. is_in m (legs' k)) (λ k. is_in m (legs k)) l (λ k ne. ap (is_in m) (c.others k ne)) (below c.leg))

-- seen from another leg, and from the leg itself
pub others_changed : {l : ℕ} {e : Entry} {legs legs' : ℕ → Entry} (m k : ℕ) → l ≢ k → Changed l e legs legs' → others_in m k legs' + one (is_in m (legs l)) ≡ others_in m k legs + one (is_in m e)
others_changed {l} {e} {legs} {legs'} m k ne c =
    let all = count_but (λ j. not (eqb j k) && is_in m (legs' j)) (λ j. not (eqb j k) && is_in m (legs j)) l (λ j ne. ap (λ x. not (eqb j k) && is_in m x) (c.others j ne)) (below c.leg) in
    rw (← c.here) (rw (ne_eqb l k ne) at all)

-- the others of the leg itself stay
pub others_own : {l : ℕ} {e : Entry} {legs legs' : ℕ → Entry} (m : ℕ) → Changed l e legs legs' → others_in m l legs' ≡ others_in m l legs
others_own {l} {e} {legs} {legs'} m c = count_same (λ j. not (eqb j l) && is_in m (legs' j)) (λ j. not (eqb j l) && is_in m (legs j)) (λ j. elim (cases_eq j l) [ inl is ↦ rw (eq-eqb j l is) | inr ne ↦ rw (c.others j ne) ])
