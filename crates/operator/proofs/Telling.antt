-- What each leg hears when one leg joins, leaves or is marked, and that it was told right then.
use Rattle.std.proofs.Common.{◌≡◌, ℕ, ℤ, pos, ◌+ℤ◌, ◌+◌, ◌≤◌, Bool, true, false, eqb, not, ◌&&◌, List, [], ◌∷◌, map, refl, ap, ◌∙◌, sym, inl, inr, arith}
use Rattle.std.specs.List.{filter}
use Rattle.std.proofs.lemmas.Bool.{cases_Bool, cases_eq, ne_eqb, eq-eqb}
use Rattle.std.proofs.lemmas.Int.{ints, clamps}
use Rattle.line.specs.declared.notice.Notice.{Notice}
use Rattle.line.specs.declared.notice.Notice.TheVariants.{OtherAdded, OtherDisconnected}
use Rattle.line.specs.declared.standing.Standing.{Standing}
use Rattle.line.specs.Acts.{notices_to, heard}
use Rattle.line.specs.Meaning.{Standings}
use Rattle.line.specs.Notices.{after, raised, lowered}
use Rattle.tables.specs.declared.conference.Party.{Party}
use Rattle.controller.specs.Steps.{each}
use Rattle.operator.specs.Roster.{Entry, down, on, party, is_in, is_party, others_in}
use Rattle.operator.proofs.Counts.{one, count_most}
use Rattle.operator.proofs.Holding.{as_parties, Right, RightAt, Parties}
use Rattle.operator.proofs.Lists.{filter_swap, told_each}

-- sums that are well below 127 rise and fall by one
raised_one : (z : ℤ) (j n : ℕ) → z +ℤ pos j ≡ pos n → n ≤ 65 → raised z +ℤ pos j ≡ pos (n + 1)
raised_one z j n is few = omega (arith, ints, clamps)

-- and they fall by one
lowered_one : (z : ℤ) (j n : ℕ) → z +ℤ pos j ≡ pos (n + 1) → j ≤ 65 → lowered z +ℤ pos j ≡ pos n
lowered_one z j n is few = omega (arith, ints, clamps)

-- nobody has more others than there are legs
pub others_most : (c k : ℕ) (legs : ℕ → Entry) → others_in c k legs ≤ 65
others_most c k legs = count_most (λ j. not (eqb j k) && is_in c (legs j))

-- of the parties that pass a test, a leg hears a notice as its entry says
pub hears : (legs : ℕ → Entry) (ps : List Party) → Parties legs ps → (test : Party → Bool) (k : ℕ) (n : Notice) → notices_to k (each n (filter test ps)) ≡ map (λ p. n) (filter test (as_parties k (legs k)))
hears legs ps ok test k n = told_each k n (filter test ps) ∙ ap (map (λ p. n)) (filter_swap (λ p. eqb k p.leg) test ps ∙ ap (filter test) (ok k))

-- the same where the parties passed one test before
pub hears_others : (legs : ℕ → Entry) (ps : List Party) → Parties legs ps → (test among : Party → Bool) (k : ℕ) (n : Notice) → notices_to k (each n (filter test (filter among ps))) ≡ map (λ p. n) (filter test (filter among (as_parties k (legs k))))
hears_others legs ps ok test among k n =
    told_each k n (filter test (filter among ps)) ∙ ap (map (λ p. n)) (filter_swap (λ p. eqb k p.leg) test (filter among ps) ∙ ap (filter test) (filter_swap (λ p. eqb k p.leg) among ps ∙ ap (filter among) (ok k)))

-- one who hears that another joined, was split off or was disconnected is told right where the count of its others moves alike
added_right : (k m j : ℕ) (b : Bool) (legs legs' : ℕ → Entry) (s s' : Standings) → others_in m k legs' ≡ others_in m k legs + 1 → s' k ≡ after OtherAdded (s k) → Right k m j b legs s → Right k m j b legs' s'
added_right k m j b legs legs' s s' count heard right = record {
  company = rw (count, heard) (raised_one (s k).heard j (others_in m k legs) right.company (others_most m k legs));
  few = right.few;
  isolation = rw heard right.isolation;
}

-- one who hears that another is gone
gone_right : (k m j : ℕ) (b : Bool) (legs legs' : ℕ → Entry) (s s' : Standings) → others_in m k legs' + 1 ≡ others_in m k legs → s' k ≡ after OtherDisconnected (s k) → Right k m j b legs s → Right k m j b legs' s'
gone_right k m j b legs legs' s s' count heard right = record {
  company = rw heard (lowered_one (s k).heard j (others_in m k legs') (right.company ∙ ap pos (sym count)) right.few);
  few = right.few;
  isolation = rw heard right.isolation;
}

-- one who hears nothing, of whose others none came or went
same_right : (k m j : ℕ) (b : Bool) (legs legs' : ℕ → Entry) (s s' : Standings) → others_in m k legs' ≡ others_in m k legs → s' k ≡ s k → Right k m j b legs s → Right k m j b legs' s'
same_right k m j b legs legs' s s' count heard right = record {
  company = rw (count, heard) right.company;
  few = right.few;
  isolation = rw heard right.isolation;
}

-- a leg that hears nothing is told right still where the count of its others stays
pub quiet_at : (k : ℕ) (e : Entry) (legs legs' : ℕ → Entry) (s s' : Standings) → ((m : ℕ) → is_in m e ≡ true → others_in m k legs' ≡ others_in m k legs) → s' k ≡ s k → RightAt k e legs s → RightAt k e legs' s'
quiet_at k down legs legs' s s' count heard right = tt
quiet_at k (on r) legs legs' s s' count heard right = tt
quiet_at k (party m p j b) legs legs' s s' count heard right = same_right k m j b legs legs' s s' (count m (eq-eqb m m refl)) heard right

-- a leg in a conference that another joins hears that one was added
pub joined_at : (k c : ℕ) (e : Entry) (legs legs' : ℕ → Entry) (s s' : Standings)
    → ((m : ℕ) → others_in m k legs' ≡ others_in m k legs + one (eqb c m))
    → s' k ≡ heard (map (λ p. OtherAdded) (filter (λ p. eqb p.conference c) (as_parties k e))) (s k)
    → RightAt k e legs s → RightAt k e legs' s'
joined_at k c down legs legs' s s' count hears right = tt
joined_at k c (on r) legs legs' s s' count hears right = tt
joined_at k c (party m p j b) legs legs' s s' count hears right = elim (cases_eq m c) [
  | inl is ↦
      let here = eq-eqb m c is in
      let there = eq-eqb c m (sym is) in
      added_right k m j b legs legs' s s' (rw there at (count m)) (rw here at hears) right
  | inr ne ↦
      let here = ne_eqb m c ne in
      let there = ne_eqb c m (λ is. ne (sym is)) in
      same_right k m j b legs legs' s s' (rw there at (count m) ∙ omega arith) (rw here at hears) right
]

-- a leg in a conference that another leaves hears that one is gone
pub left_at : (k c q : ℕ) (n : Notice) (e : Entry) (legs legs' : ℕ → Entry) (s s' : Standings)
    → ((z : Standing) → after n z ≡ after OtherDisconnected z)
    → is_party c q e ≡ false
    → ((m : ℕ) → others_in m k legs' + one (eqb c m) ≡ others_in m k legs)
    → s' k ≡ heard (map (λ p. n) (filter (λ p. not (eqb p.id q)) (filter (λ p. eqb p.conference c) (as_parties k e)))) (s k)
    → RightAt k e legs s → RightAt k e legs' s'
left_at k c q n down legs legs' s s' gone apart count hears right = tt
left_at k c q n (on r) legs legs' s s' gone apart count hears right = tt
left_at k c q n (party m p j b) legs legs' s s' gone apart count hears right = elim (cases_eq m c) [
  | inl is ↦
      let here = eq-eqb m c is in
      let there = eq-eqb c m (sym is) in
      let other : eqb p q ≡ false = rw here at apart in
      gone_right k m j b legs legs' s s' (rw there at (count m)) ((rw (here, other) at hears) ∙ gone (s k)) right
  | inr ne ↦
      let here = ne_eqb m c ne in
      let there = ne_eqb c m (λ is. ne (sym is)) in
      same_right k m j b legs legs' s s' (omega (arith, rw there at (count m))) (rw here at hears) right
]

-- notices that change no sum and no latest one leave a leg as it was
pub unmoved_at : (n : Notice) (test : Party → Bool) (ps : List Party) (z : Standing) → ((z : Standing) → after n z ≡ z) → heard (map (λ p. n) (filter test ps)) z ≡ z
unmoved_at n test [] z unmoved = refl
unmoved_at n test (p ∷ ps) z unmoved =
    let rest = unmoved_at n test ps z unmoved in
    let here = unmoved z in
    elim (cases_Bool (test p)) [ inl a ↦ rw a (ap (heard (map (λ p. n) (filter test ps))) here ∙ rest) | inr a ↦ rw a rest ]
