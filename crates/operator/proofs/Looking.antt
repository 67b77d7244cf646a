-- What is found in the tables is what the roster says.
use Rattle.std.proofs.Common.{◌≡◌, ℕ, zero, suc, Bool, true, false, eqb, List, [], ◌∷◌, length, map, get_or, Some, None, Option, refl, subst, ap, ◌∙◌, sym, inl, inr, arith}
use Rattle.std.specs.List.{filter, list_any}
use Rattle.std.specs.Option.{option_to_list}
use Rattle.std.proofs.lemmas.Bool.{cases_Bool, cases_lt, eq-eqb, eqb-true, true≢false, or_parts, or_right}
use Rattle.line.specs.Meaning.{Leg}
use Rattle.tables.specs.declared.conference.Conference.{Conference}
use Rattle.tables.specs.declared.conference.Party.{Party}
use Rattle.std.proofs.lemmas.List.{get_or_past}
use Rattle.std.proofs.lemmas.List.Folds.{list_any_at}
use Rattle.tables.specs.Calls.{absent}
use Rattle.tables.specs.Table.{Table}
use Rattle.controller.specs.Steps.{leads_to_leg, is_up as is_up_now}
use Rattle.operator.specs.Roster.{Entry, down, on, party, is_in, is_on, is_up, count, count_below, members}
use Rattle.operator.proofs.Conferring.{there_linked}
use Rattle.operator.proofs.Counts.{one, below}
use Rattle.operator.proofs.Holding.{as_parties, mark_of, Parties, Ranged, Linked, Once, Calls}
use Rattle.operator.proofs.Lists.{In, in_filter, in_filtered, by_legs, sum_below}

-- a party of the table is one of the roster
pub record Known (legs : ℕ → Entry) (q : Party) : Type 0 where
  pub joined : ℕ
  pub isolated : Bool
  pub entry : legs q.leg ≡ party q.conference q.id joined isolated
  pub mark : q.mark ≡ mark_of isolated

-- whoever stands in the tables as a party is in the roster as that party
pub known : (legs : ℕ → Entry) (ps : List Party) (q : Party) → Parties legs ps → In q ps → Known legs q
known legs ps q ok is = go (legs q.leg) refl (subst (λ l. In q l) (ok q.leg) (in_filter (λ p. eqb q.leg p.leg) q ps is (eq-eqb q.leg q.leg refl)))
  where
    go : (e : Entry) → legs q.leg ≡ e → In q (as_parties q.leg e) → Known legs q
    go down is at = absurd at
    go (on r) is at = absurd at
    go (party c p j b) is (inl at) = record {
      joined = j;
      isolated = b;
      entry = is ∙ ap (λ x. party x.conference x.id j b) (sym at);
      mark = ap (λ x. x.mark) at;
    }
    go (party c p j b) is (inr at) = absurd at

-- a party has a leg that there is
leg_of : (legs : ℕ → Entry) (ps : List Party) (q : Party) → Ranged legs → Parties legs ps → In q ps → Leg q.leg
leg_of legs ps q ranged ok is = let k = known legs ps q ok is in ranged q.leg (ap is_up k.entry)

-- a sum of ones is a count
sum_count : (f : ℕ → ℕ) (p : ℕ → Bool) (n : ℕ) → ((k : ℕ) → f k ≡ one (p k)) → sum_below f n ≡ count_below p n
sum_count f p zero each = refl
sum_count f p (suc n) each = let here = each n in let rest = sum_count f p n each in omega arith

-- the parties of a conference are as many as its members in the roster
one_or_none : (k c : ℕ) (e : Entry) → length (filter (λ q. eqb q.conference c) (as_parties k e)) ≡ one (is_in c e)
one_or_none k c e = grind arith

-- so a conference has as many parties as members
pub parties_counted : (legs : ℕ → Entry) (ps : List Party) (c : ℕ) → Ranged legs → Parties legs ps → length (filter (λ q. eqb q.conference c) ps) ≡ members c legs
unfolding count
parties_counted legs ps c ranged ok =
    by_legs (λ q. eqb q.conference c) 65 ps (λ q is. below (leg_of legs ps q ranged ok is))
    ∙ sum_count (λ k. length (filter (λ q. eqb q.conference c) (filter (λ p. eqb k p.leg) ps))) (λ k. is_in c (legs k)) 65
    (λ k. ap (λ l. length (filter (λ q. eqb q.conference c) l)) (ok k) ∙ one_or_none k c (legs k))

-- a list of one conference, or of none, has one at most
lone : (cs : List Conference) (c d : Conference) (o : Option ℕ) → map (λ c. c.id) cs ≡ option_to_list o → In c cs → In d cs → c ≡ d
lone [] c d o is in_c in_d = absurd in_c
lone (e ∷ []) c d o is (inl a) (inl b) = a ∙ sym b
lone (e ∷ []) c d o is (inr a) b = absurd a
lone (e ∷ []) c d o is (inl a) (inr b) = absurd b
lone (e ∷ (f ∷ cs)) c d None is in_c in_d = cc
lone (e ∷ (f ∷ cs)) c d (Some y) is in_c in_d = cc

-- two conferences of one id are one
pub one_conference : (links : ℕ → Option ℕ) (cs : List Conference) (c d : Conference) → Linked links cs → Once links → In c cs → In d cs → c.id ≡ d.id → c ≡ d
one_conference links cs c d linked once in_c in_d same =
    let link_same : c.link ≡ d.link = once c.link d.link d.id (there_linked links cs c linked in_c ∙ ap (λ x. Some x) same) (there_linked links cs d linked in_d) in
    lone (filter (λ x. eqb x.link d.link) cs) c d (links d.link) (linked d.link)
    (in_filter (λ x. eqb x.link d.link) c cs in_c (eq-eqb c.link d.link link_same))
    (in_filter (λ x. eqb x.link d.link) d cs in_d (eq-eqb d.link d.link refl))

-- nobody is in a conference that is not linked
pub nobody_in : (legs : ℕ → Entry) (links : ℕ → Option ℕ) (c : ℕ) → ((ref : ℕ) → links ref ≡ Some c → ⊥) → ((k c : ℕ) → is_in c (legs k) ≡ true → (ref : ℕ) × (links ref ≡ Some c)) → (k : ℕ) → is_in c (legs k) ≡ false
nobody_in legs links c none housed k = elim (cases_Bool (is_in c (legs k))) [
  | inl has ↦ let there = housed k c has in absurd (none there.0 there.1)
  | inr hasn't ↦ hasn't
]

-- whoever is not up in the tables is down
any_in : {X : Type 0} (p : X → Bool) (x : X) (xs : List X) → In x xs → p x ≡ true → list_any p xs ≡ true
any_in p x [] is passes = absurd is
any_in p x (y ∷ ys) (inl is) passes = let here : p y ≡ true = ap p (sym is) ∙ passes in rw here
any_in p x (y ∷ ys) (inr is) passes = or_right (p y) (list_any p ys) (any_in p x ys is passes)

-- who is not up in the tables is down in the roster
pub not_up : (legs : ℕ → Entry) (links : ℕ → Option ℕ) (t : Table) (k : ℕ) → Calls legs links t.calls → Parties legs t.parties → is_up_now k t ≡ false → legs k ≡ down
not_up legs links t k calls ok none = go (legs k) refl
  where
    parts : (list_any (λ c. leads_to_leg k c.state) t.calls ≡ false) × (list_any (λ p. eqb p.leg k) t.parties ≡ false)
    parts = or_parts _ _ none

    leads : (r : ℕ) → leads_to_leg k (get_or t.calls r absent).state ≡ true → ⊥
    leads r is = elim (cases_lt r (length t.calls)) [
      | inl lt ↦ true≢false (sym (list_any_at (λ c. leads_to_leg k c.state) t.calls r absent lt is) ∙ parts.0)
      | inr past ↦ true≢false (sym is ∙ ap (λ c. leads_to_leg k c.state) (get_or_past t.calls r absent past))
    ]

    there : (q : Party) → In q (filter (λ p. eqb k p.leg) t.parties) → ⊥
    there q is =
        let was = in_filtered (λ p. eqb k p.leg) q t.parties is in
        true≢false (sym (any_in (λ p. eqb p.leg k) q t.parties was.0 (eq-eqb q.leg k (sym (eqb-true k q.leg was.1)))) ∙ parts.1)

    go : (e : Entry) → legs k ≡ e → legs k ≡ down
    go down is = is
    go (on r) is = absurd (leads r (calls.led_to k r ∙ ap (is_on r) is ∙ eq-eqb r r refl))
    go (party c p j b) is = absurd (there (record { conference = c; id = p; leg = k; mark = mark_of b }) (subst (λ l. In (record { conference = c; id = p; leg = k; mark = mark_of b }) l) (sym (ok k ∙ ap (as_parties k) is)) (inl refl)))
