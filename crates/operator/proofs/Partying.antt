-- The parties of each leg after an edit.
use Rattle.std.proofs.Common.{arith, ◌≡◌, ℕ, ◌≢◌, Bool, false, cond, eqb, not, ◌&&◌, List, [], ◌∷◌, ◌++◌, map, refl, ap, ◌∙◌, sym, inl, inr}
use Rattle.std.specs.List.{filter}
use Rattle.std.proofs.lemmas.Bool.{cases_eq, ne_eqb, eq-eqb}
use Rattle.std.proofs.lemmas.List.{append-nil}
use Rattle.std.proofs.lemmas.List.Elements.{filter-append}
use Rattle.tables.specs.declared.conference.Mark.TheVariants.{Joined}
use Rattle.tables.specs.declared.conference.Party.{Party}
use Rattle.tables.specs.Edits.{marked}
use Rattle.operator.specs.Roster.{Entry, down, party, is_in, is_party}
use Rattle.operator.proofs.Counts.{Changed}
use Rattle.operator.proofs.Holding.{as_parties, mark_of, Parties}
use Rattle.operator.proofs.Lists.{filter_swap, filter_map_kept}

-- one that is no party by its entry is none by any filter or marking
not_here : (k c p : ℕ) (e : Entry) → is_party c p e ≡ false → filter (λ q. not (eqb q.conference c && eqb q.id p)) (as_parties k e) ≡ as_parties k e
not_here k c p e apart = grind arith

-- nor is it one by any marking
not_marked : (k c p : ℕ) (b : Bool) (e : Entry) → is_party c p e ≡ false → map (marked c p (mark_of b)) (as_parties k e) ≡ as_parties k e
not_marked k c p b e apart = grind arith

-- a marking keeps the leg
leg_kept : (f : ℕ → Bool) (c p : ℕ) (b : Bool) (q : Party) → f (marked c p (mark_of b) q).leg ≡ f q.leg
leg_kept f c p b q = grind arith

-- a leg that is no party joins
pub parties_joined : (l c p j : ℕ) (legs legs' : ℕ → Entry) (ps : List Party) → Changed l (party c p j false) legs legs' → as_parties l (legs l) ≡ [] → Parties legs ps
    → Parties legs' (ps ++ (record { conference = c; id = p; leg = l; mark = Joined } ∷ []))
parties_joined l c p j legs legs' ps ch none ok k = elim (cases_eq k l) [
  | inl is ↦
      let at_l : filter (λ p. eqb l p.leg) ps ≡ [] = ok l ∙ none in
      let same = eq-eqb l l refl in
      rw is (filter-append _ ps _ ∙ rw (at_l, same, ch.here))
  | inr ne ↦
      let other = ne_eqb k l ne in
      filter-append _ ps _ ∙ rw (ok k, other, ch.others k ne) (append-nil _)
]

-- a party leaves, and is no party then
pub parties_left : (l c p j : ℕ) (b : Bool) (e : Entry) (legs legs' : ℕ → Entry) (ps : List Party) → Changed l e legs legs' → as_parties l e ≡ [] → legs l ≡ party c p j b
    → ((k : ℕ) → k ≢ l → is_party c p (legs k) ≡ false) → Parties legs ps
    → Parties legs' (filter (λ q. not (eqb q.conference c && eqb q.id p)) ps)
parties_left l c p j b e legs legs' ps ch none was apart ok k =
    let same_c = eq-eqb c c refl in
    let same_p = eq-eqb p p refl in
    filter_swap (λ q. eqb k q.leg) (λ q. not (eqb q.conference c && eqb q.id p)) ps ∙ ap (filter (λ q. not (eqb q.conference c && eqb q.id p))) (ok k) ∙ elim (cases_eq k l) [
      | inl is ↦ rw (is, was, ch.here, same_c, same_p) (sym none)
      | inr ne ↦ rw (ch.others k ne) (not_here k c p (legs k) (apart k ne))
    ]

-- a party is marked
pub parties_marked : (l c p j : ℕ) (b b' : Bool) (legs legs' : ℕ → Entry) (ps : List Party) → Changed l (party c p j b') legs legs' → legs l ≡ party c p j b
    → ((k : ℕ) → k ≢ l → is_party c p (legs k) ≡ false) → Parties legs ps
    → Parties legs' (map (marked c p (mark_of b')) ps)
parties_marked l c p j b b' legs legs' ps ch was apart ok k =
    let same_c = eq-eqb c c refl in
    let same_p = eq-eqb p p refl in
    filter_map_kept (λ q. eqb k q.leg) (marked c p (mark_of b')) (λ q. leg_kept (eqb k) c p b' q) ps ∙ ap (map (marked c p (mark_of b'))) (ok k) ∙ elim (cases_eq k l) [
      | inl is ↦ rw (is, was, ch.here, same_c, same_p)
      | inr ne ↦ rw (ch.others k ne) (not_marked k c p b' (legs k) (apart k ne))
    ]

-- all parties of a conference leave
none_in : (k c : ℕ) (e : Entry) → filter (λ q. not (eqb q.conference c)) (as_parties k e) ≡ as_parties k (cond (is_in c e) down e)
none_in k c e = grind arith

-- the parties of each leg once a conference has ended
pub parties_ended : (c : ℕ) (legs : ℕ → Entry) (ps : List Party) → Parties legs ps → Parties (λ k. cond (is_in c (legs k)) down (legs k)) (filter (λ q. not (eqb q.conference c)) ps)
parties_ended c legs ps ok k = filter_swap (λ q. eqb k q.leg) (λ q. not (eqb q.conference c)) ps ∙ ap (filter (λ q. not (eqb q.conference c))) (ok k) ∙ none_in k c (legs k)

-- a leg that is no party before and after changes no parties
pub parties_same : (l : ℕ) (e : Entry) (legs legs' : ℕ → Entry) (ps : List Party) → Changed l e legs legs' → as_parties l (legs l) ≡ [] → as_parties l e ≡ [] → Parties legs ps → Parties legs' ps
parties_same l e legs legs' ps ch none none' ok k = ok k ∙ elim (cases_eq k l) [
  | inl is ↦ rw (is, ch.here, none, none')
  | inr ne ↦ rw (ch.others k ne)
]
