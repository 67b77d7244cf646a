-- What holds of the entries alone, after one of them changes.
use Rattle.std.proofs.Common.{eq-eqb, ◌≡◌, ap, ℕ, ◌≤◌, ◌<◌, ◌≢◌, Bool, true, false, Some, Option, ◌∙◌, refl, sym, inl, inr, arith}
use Rattle.std.proofs.lemmas.Bool.{cases_Bool, cases_eq}
use Rattle.tables.specs.declared.conference.Conference.{Conference}
use Rattle.operator.specs.Roster.{Entry, party, is_up, is_in, is_party, members}
use Rattle.operator.proofs.Counts.{one, Changed, members_changed}
use Rattle.operator.proofs.Holding.{Ranged, OneLegEach, Housed, Sized}

-- who is up then is on a leg that there is
pub ranged_changed : {l : ℕ} {e : Entry} {legs legs' : ℕ → Entry} → Changed l e legs legs' → Ranged legs → Ranged legs'
ranged_changed {l} ch ranged k up = elim (cases_eq k l) [ inl is ↦ rw is ch.leg | inr ne ↦ ranged k (sym (ap is_up (ch.others k ne)) ∙ up) ]

-- the new entry has a PartyId that no other leg has, or none
pub one_leg_changed : {l : ℕ} {e : Entry} {legs legs' : ℕ → Entry} → Changed l e legs legs' → ((k c p : ℕ) → k ≢ l → is_party c p e ≡ true → is_party c p (legs k) ≡ true → ⊥) → OneLegEach legs → OneLegEach legs'
one_leg_changed {l} {e} {legs} {legs'} ch fresh each k j c p is_k is_j = elim (cases_eq k l) [
  | inl a ↦ elim (cases_eq j l) [
    | inl b ↦ a ∙ sym b
    | inr b ↦ absurd (fresh j c p b (rw (a, ch.here) at is_k) (rw (ch.others j b) at is_j))
  ]
  | inr a ↦ elim (cases_eq j l) [
    | inl b ↦ absurd (fresh k c p a (rw (b, ch.here) at is_j) (rw (ch.others k a) at is_k))
    | inr b ↦ each k j c p (rw (ch.others k a) at is_k) (rw (ch.others j b) at is_j)
  ]
]

-- a party is itself
pub itself : (l c p j : ℕ) (b : Bool) (legs : ℕ → Entry) → legs l ≡ party c p j b → is_party c p (legs l) ≡ true
itself l c p j b legs was = rw (was, eq-eqb c c refl, eq-eqb p p refl)

-- and no other leg is
pub no_other_leg : (l c p j : ℕ) (b : Bool) (legs : ℕ → Entry) → OneLegEach legs → legs l ≡ party c p j b → (k : ℕ) → k ≢ l → is_party c p (legs k) ≡ false
no_other_leg l c p j b legs each was k ne = elim (cases_Bool (is_party c p (legs k))) [
  | inl has ↦ absurd (ne (each k l c p has (itself l c p j b legs was)))
  | inr hasn't ↦ hasn't
]

-- who is in a conference then is in one that is linked
pub housed_changed : {l : ℕ} {e : Entry} {legs legs' : ℕ → Entry} {links links' : ℕ → Option ℕ} → Changed l e legs legs' → ((c : ℕ) → is_in c e ≡ true → (ref : ℕ) × (links' ref ≡ Some c))
    → ((ref c : ℕ) → links ref ≡ Some c → links' ref ≡ Some c) → Housed legs links → Housed legs' links'
housed_changed {l} {e} {legs} {legs'} ch new kept housed k c is = elim (cases_eq k l) [
  | inl a ↦ new c (rw (a, ch.here) at is)
  | inr a ↦ let was = housed k c (rw (ch.others k a) at is) in (was.0, kept was.0 c was.1)
]

-- conferences that nobody joins have no more members
pub sized_changed : {l : ℕ} {e : Entry} {legs legs' : ℕ → Entry} (c : Conference) → Changed l e legs legs' → is_in c.id e ≡ false → Sized legs c → Sized legs' c
sized_changed {l} {e} {legs} {legs'} c ch out sized = record {
  members = let m = sized.members in let count = rw out at (members_changed c.id ch) in omega arith;
  most = sized.most;
}

-- one that was not full has room for one member more
pub sized_joined : {l : ℕ} {e : Entry} {legs legs' : ℕ → Entry} (c : Conference) → Changed l e legs legs' → members c.id legs < c.size → Sized legs c → Sized legs' c
sized_joined {l} {e} {legs} {legs'} c ch some sized = record {
  members = let count = members_changed c.id ch in let most = one_most (is_in c.id e) in omega arith;
  most = sized.most;
}
  where
    one_most : (b : Bool) → one b ≤ 1
    one_most true = omega arith
    one_most false = omega arith
