-- Roster, table and standings go on fitting when a leg joins, splits off or is marked, and when a conference begins.
use Rattle.std.proofs.Common.{◌≡◌, ℕ, ◌≤◌, ◌<◌, ◌≢◌, Bool, true, false, cond, eqb, not, List, [], ◌∷◌, ◌++◌, map, set, Some, None, Option, refl, subst, ap, ◌∙◌, sym, ◌⊎◌, inl, inr, arith}
use Rattle.std.specs.List.{filter, find}
use Rattle.std.specs.Option.{is_some}
use Rattle.std.proofs.lemmas.Bool.{cases_Bool, cases_eq, ne_eqb, eq-eqb}
use Rattle.line.specs.Acts.{heard, notices_to}
use Rattle.line.specs.Meaning.{Standings}
use Rattle.line.specs.Notices.{after}
use Rattle.line.specs.declared.notice.Notice.{Notice}
use Rattle.line.specs.declared.notice.Notice.TheVariants.{Established, Disconnected, OtherAdded, OtherSplit, OtherDisconnected}
use Rattle.line.specs.declared.standing.Standing.{Standing}
use Rattle.tables.specs.declared.call.Call.{Call}
use Rattle.tables.specs.declared.call.End.TheVariants as end
use Rattle.tables.specs.declared.call.State.TheVariants.{Idle, Clearing}
use Rattle.tables.specs.declared.conference.Conference.{Conference}
use Rattle.tables.specs.declared.conference.Party.{Party}
use Rattle.tables.specs.Edits.{with_call, with_joined, with_begun, with_left, with_marked, given}
use Rattle.tables.specs.Table.{Table, call_at, parties_of, party_with}
use Rattle.controller.specs.Steps.{leads_to_leg, each, others}
use Rattle.operator.specs.Company.{is_isolated}
use Rattle.operator.specs.Roster.{Entry, down, on, party, is_up, is_in, is_on, is_party, Roster, members, others_in, counted, changed, joins, isolated_as, linked}
use Rattle.operator.proofs.Calling.{calls_changed, calls_set}
use Rattle.operator.proofs.Conferring.{there_linked, linked_begun, once_begun, linked_map}
use Rattle.operator.proofs.Counts.{Changed, ups_changed, count_none}
use Rattle.operator.proofs.Entries.{itself, sized_changed, sized_joined, no_other_leg}
use Rattle.operator.proofs.Holding.{Kept, Led, Calls, Parties, Sized, as_parties, mark_of}
use Rattle.operator.proofs.Keeping.{with_legs, changed_at, alone_on, counted_none, kept_gone}
use Rattle.operator.proofs.Lists.{In, in_filter, in_filtered, none_found, in_append, in_map}
use Rattle.operator.proofs.Looking.{nobody_in, one_conference}
use Rattle.operator.proofs.Moves.{joined, left, remarked, begun, sized_same}
use Rattle.operator.proofs.Telling.{hears, hears_others, unmoved_at}

-- of what is told to a leg first and to others then, the leg hears the first, and nobody else
pub first_told : (k l : ℕ) (n : Notice) (rest : List (ℕ × Notice)) → k ≡ l → notices_to k ((l, n) ∷ rest) ≡ n ∷ notices_to k rest
first_told k l n rest is = rw (eq-eqb k l is)

-- another leg does not hear the first
pub first_unheard : (k l : ℕ) (n : Notice) (rest : List (ℕ × Notice)) → k ≢ l → notices_to k ((l, n) ∷ rest) ≡ notices_to k rest
first_unheard k l n rest ne = rw (ne_eqb k l ne)

-- one on a call is none of the parties told
hears_nothing : (legs : ℕ → Entry) (ps : List Party) → Parties legs ps → (test : Party → Bool) (l ref : ℕ) (n : Notice) → legs l ≡ on ref → notices_to l (each n (filter test ps)) ≡ []
hears_nothing legs ps ok test l ref n was =
    let none : map (λ p. n) (filter test (as_parties l (legs l))) ≡ [] = rw was in
    hears legs ps ok test l n ∙ none

-- what is not there is none
pub none_there : {X : Type 0} (o : Option X) → is_some o ≡ false → o ≡ None
none_there o is = grind arith

-- a PartyId that no party has is free in the roster
pub free_party : (legs : ℕ → Entry) (ps : List Party) (id p : ℕ) → Parties legs ps → find (λ q. eqb q.id p) (filter (λ q. eqb q.conference id) ps) ≡ None → (k : ℕ) → is_party id p (legs k) ≡ false
free_party legs ps id p ok none k = go (legs k) refl
  where
    there : (q : Party) → In q (filter (λ p. eqb k p.leg) ps) → eqb q.conference id ≡ true → eqb q.id p ≡ false
    there q is here = none_found (λ q. eqb q.id p) q (filter (λ q. eqb q.conference id) ps) none (in_filter (λ q. eqb q.conference id) q ps (in_filtered (λ p. eqb k p.leg) q ps is).0 here)

    go : (e : Entry) → legs k ≡ e → is_party id p (legs k) ≡ false
    go down is = rw is
    go (on r) is = rw is
    go (party c q j b) is =
        let me : Party = record { conference = c; id = q; leg = k; mark = mark_of b } in
        let in_all : In me (filter (λ p. eqb k p.leg) ps) = subst (λ l. In me l) (sym (ok k ∙ ap (as_parties k) is)) (inl refl) in
        rw is (elim (cases_Bool (eqb c id)) [ inl a ↦ rw (a, there me in_all a) | inr a ↦ rw a ])

-- giving a PartyId changes no id, no link and no size of a conference
given_id : (id p : ℕ) (c : Conference) → (given id p c).id ≡ c.id
given_id id p c = grind arith

given_link : (id p : ℕ) (c : Conference) → (given id p c).link ≡ c.link
given_link id p c = grind arith

given_size : (id p : ℕ) (c : Conference) → (given id p c).size ≡ c.size
given_size id p c = grind arith

-- the roster when a leg on a reference joins
abbrev joined_legs : ℕ → ℕ → ℕ → (ℕ → Entry) → ℕ → Entry
joined_legs ref id p legs k = cond (is_on ref (legs k)) (joins id p legs k (legs k)) (legs k)

-- it is one leg that joins
joins_at : {r : Roster} {t : Table} {s : Standings} (l ref id p : ℕ) → r.legs l ≡ on ref → Kept r t s → Changed l (party id p (others_in id l r.legs) false) r.legs (joined_legs ref id p r.legs)
joins_at {r} {t} {s} l ref id p was kept =
    let here : is_on ref (r.legs l) ≡ true = rw was (eq-eqb ref ref refl) in
    changed_at (is_on ref) (joins id p r.legs) l r.legs (kept.holds.ranged l (ap is_up was)) here (alone_on r.legs r.links t.calls l ref kept.holds.calls_fit here)

-- and the calls fit then
joined_calls : {r : Roster} {t : Table} {s : Standings} (l ref id p : ℕ) (c : Call) (links' : ℕ → Option ℕ) → ref < 128 → r.legs l ≡ on ref → Kept r t s → ((k : ℕ) → leads_to_leg k c.state ≡ false) → Led c.state (links' ref) → ((q : ℕ) → q ≢ ref → links' q ≡ r.links q)
    → Calls (joined_legs ref id p r.legs) links' (set t.calls ref c)
joined_calls {r} {t} {s} l ref id p c links' lt was kept leads led same =
    let ch = joins_at l ref id p was kept in
    let here : is_on ref (r.legs l) ≡ true = rw was (eq-eqb ref ref refl) in
    calls_changed ref c r.links links' t.calls lt kept.holds.calls_fit ch (leads l)
    (λ k ne. leads k ∙ sym (alone_on r.legs r.links t.calls l ref kept.holds.calls_fit here k ne))
    (λ q ne. rw was (sym (ne_eqb ref q (λ e. ne (sym e)))))
    led same

-- a leg on a call is added to a conference that is there and not full
pub kept_added : {r : Roster} {t : Table} {s : Standings} (s' : Standings) (l ref p : ℕ) (d : Conference) (c : Call) → ref < 128 → r.legs l ≡ on ref → In d t.conferences → members d.id r.legs < d.size → party_with t d.id p ≡ None → c.state ≡ Clearing
    → ((k : ℕ) → s' k ≡ heard (notices_to k ((l, Established) ∷ each OtherAdded (parties_of t d.id))) (s k)) → Kept r t s
    → Kept (counted 0 0 (changed (is_on ref) (joins d.id p r.legs) r)) (with_joined d.id p l (with_call ref c t)) s'
kept_added {r} {t} {s} s' l ref p d c lt was there some fresh state tells kept = record {
  holds = joined l d.id p r.legs (joined_legs ref d.id p r.legs) r.links r.links t.calls (set t.calls ref c) t.conferences (map (given d.id p) t.conferences) t.parties s s' ch (rw was) (λ m. rw was)
      (free_party r.legs t.parties d.id p kept.holds.parties_fit fresh)
      (joined_calls l ref d.id p c r.links lt was kept (λ k. rw state) (rw state tt) (λ q ne. refl))
      (linked_map r.links (given d.id p) t.conferences (given_id d.id p) (given_link d.id p) kept.holds.linked) kept.holds.once (λ q m is. is) (d.link, there_linked r.links t.conferences d kept.holds.linked there)
      (λ e is. let old = in_map (given d.id p) e t.conferences is in sized_same _ e old.0 (ap (λ x. x.id) old.2 ∙ given_id d.id p old.0) (ap (λ x. x.size) old.2 ∙ given_size d.id p old.0) (sized old.0 old.1))
      (tells l ∙ ap (λ ns. heard ns (s l)) (first_told l l Established _ refl ∙ ap (λ ns. Established ∷ ns) (hears_nothing r.legs t.parties kept.holds.parties_fit (λ q. eqb q.conference d.id) l ref OtherAdded was)))
      (λ k ne. tells k ∙ ap (λ ns. heard ns (s k)) (first_unheard k l Established _ ne ∙ hears r.legs t.parties kept.holds.parties_fit (λ q. eqb q.conference d.id) k OtherAdded))
      kept.holds;
  number = let n = kept.number in let count = rw was at (ups_changed ch) in omega arith;
}
  where
    ch : Changed l (party d.id p (others_in d.id l r.legs) false) r.legs (joined_legs ref d.id p r.legs)
    ch = joins_at l ref d.id p was kept

    sized : (e : Conference) → In e t.conferences → Sized (joined_legs ref d.id p r.legs) e
    sized e is = elim (cases_eq e.id d.id) [
      | inl same ↦ let one = one_conference r.links t.conferences e d kept.holds.linked kept.holds.once is there same in
          subst (λ x. Sized (joined_legs ref d.id p r.legs) x) (sym one) (sized_joined d ch some (kept.holds.sized d there))
      | inr other ↦ sized_changed e ch (ne_eqb d.id e.id (λ x. other (sym x))) (kept.holds.sized e is)
    ]

-- a conference begins on a call whose leg is its first party
pub kept_begun_on : {r : Roster} {t : Table} {s : Standings} (s' : Standings) (l : ℕ) (d : Conference) (c : Call) → d.link < 128 → r.legs l ≡ on d.link → r.links d.link ≡ None → ((q : ℕ) → r.links q ≡ Some d.id → ⊥) → 1 ≤ d.size → d.size ≤ 30
    → ((k : ℕ) → leads_to_leg k c.state ≡ false) → Led c.state (Some d.id)
    → ((k : ℕ) → s' k ≡ heard (notices_to k ((l, Established) ∷ [])) (s k)) → Kept r t s
    → Kept (counted 0 0 (linked d.link (Some d.id) (changed (is_on d.link) (joins d.id 0 r.legs) r))) (with_joined d.id 0 l (with_begun d (with_call d.link c t))) s'
kept_begun_on {r} {t} {s} s' l d c lt was none fresh some most leads led tells kept = record {
  holds = joined l d.id 0 r.legs (joined_legs d.link d.id 0 r.legs) r.links (λ q. cond (eqb q d.link) (Some d.id) (r.links q)) t.calls (set t.calls d.link c) t.conferences (map (given d.id 0) (t.conferences ++ (d ∷ []))) t.parties s s' ch (rw was) (λ m. rw was)
      (λ k. no_party d.id 0 (r.legs k) (nobody k))
      (joined_calls l d.link d.id 0 c (λ q. cond (eqb q d.link) (Some d.id) (r.links q)) lt was kept leads (rw (eq-eqb d.link d.link refl) led) (λ q ne. rw (ne_eqb q d.link ne)))
      (linked_map (λ q. cond (eqb q d.link) (Some d.id) (r.links q)) (given d.id 0) (t.conferences ++ (d ∷ [])) (given_id d.id 0) (given_link d.id 0) (linked_begun r.links t.conferences d none kept.holds.linked))
      (once_begun r.links d.link d.id fresh kept.holds.once) links_kept (d.link, rw (eq-eqb d.link d.link refl))
      (λ e is. let old = in_map (given d.id 0) e (t.conferences ++ (d ∷ [])) is in sized_same _ e old.0 (ap (λ x. x.id) old.2 ∙ given_id d.id 0 old.0) (ap (λ x. x.size) old.2 ∙ given_size d.id 0 old.0) (sized old.0 (in_append old.0 t.conferences (d ∷ []) old.1)))
      (tells l ∙ ap (λ ns. heard ns (s l)) (first_told l l Established [] refl))
      (λ k ne. tells k ∙ ap (λ ns. heard ns (s k)) (first_unheard k l Established [] ne ∙ sym (told_nobody k (r.legs k) (nobody k))))
      kept.holds;
  number = let n = kept.number in let count = rw was at (ups_changed ch) in omega arith;
}
  where
    ch : Changed l (party d.id 0 (others_in d.id l r.legs) false) r.legs (joined_legs d.link d.id 0 r.legs)
    ch = joins_at l d.link d.id 0 was kept

    nobody : (k : ℕ) → is_in d.id (r.legs k) ≡ false
    nobody = nobody_in r.legs r.links d.id fresh kept.holds.housed

    no_party : (id p : ℕ) (e : Entry) → is_in id e ≡ false → is_party id p e ≡ false
    no_party id p e out = grind arith

    told_nobody : (k : ℕ) (e : Entry) → is_in d.id e ≡ false → map (λ p. OtherAdded) (filter (λ q. eqb q.conference d.id) (as_parties k e)) ≡ []
    told_nobody k e out = grind arith

    links_kept : (q m : ℕ) → r.links q ≡ Some m → cond (eqb q d.link) (Some d.id) (r.links q) ≡ Some m
    links_kept q m is = elim (cases_eq q d.link) [
      | inl e ↦ let no_link : r.links q ≡ None = ap r.links e ∙ none in cc
      | inr ne ↦ rw (ne_eqb q d.link ne) is
    ]

    empty : Sized r.legs d
    empty = record { members = let count = count_none (λ k. is_in d.id (r.legs k)) nobody in omega arith; most = most }

    sized : (e : Conference) → (In e t.conferences) ⊎ (In e (d ∷ [])) → Sized (joined_legs d.link d.id 0 r.legs) e
    sized e (inl is) =
        let other : e.id ≢ d.id = λ same. fresh e.link (there_linked r.links t.conferences e kept.holds.linked is ∙ ap (λ x. Some x) same) in
        sized_changed e ch (ne_eqb d.id e.id (λ x. other (sym x))) (kept.holds.sized e is)
    sized e (inr (inl is)) =
        let count = count_none (λ k. is_in d.id (r.legs k)) nobody in
        subst (λ x. Sized (joined_legs d.link d.id 0 r.legs) x) (sym is) (sized_joined d ch (omega arith) empty)
    sized e (inr (inr is)) = absurd is

-- a conference begins without parties
pub kept_begun : {r : Roster} {t : Table} {s : Standings} (s' : Standings) (d : Conference) (c : Call) → d.link < 128 → r.links d.link ≡ None → ((q : ℕ) → r.links q ≡ Some d.id → ⊥) → d.size ≤ 30
    → ((k : ℕ) → leads_to_leg k c.state ≡ leads_to_leg k (call_at t d.link).state) → Led c.state (Some d.id)
    → ((k : ℕ) → s' k ≡ s k) → Kept r t s → Kept (counted 0 0 (linked d.link (Some d.id) r)) (with_begun d (with_call d.link c t)) s'
kept_begun {r} {t} {s} s' d c lt none fresh most leads led same kept = record {
  holds = begun d r.legs r.links t.calls (set t.calls d.link c) t.conferences t.parties s s' none fresh most
      (calls_set d.link c r.legs r.legs r.links (λ q. cond (eqb q d.link) (Some d.id) (r.links q)) t.calls lt kept.holds.calls_fit (λ k. leads k ∙ kept.holds.calls_fit.led_to k d.link) (λ k q ne. refl) (rw (eq-eqb d.link d.link refl) led) (λ q ne. rw (ne_eqb q d.link ne)))
      same kept.holds;
  number = let n = kept.number in omega arith;
}

-- an entry written for a PartyId is written at one leg
party_changed : {r : Roster} {t : Table} {s : Standings} (l id p j : ℕ) (b : Bool) (new : ℕ → Entry → Entry) → r.legs l ≡ party id p j b → Kept r t s
    → Changed l (new l (r.legs l)) r.legs (λ k. cond (is_party id p (r.legs k)) (new k (r.legs k)) (r.legs k))
party_changed {r} l id p j b new was kept =
    changed_at (is_party id p) new l r.legs (kept.holds.ranged l (ap is_up was)) (itself l id p j b r.legs was) (no_other_leg l id p j b r.legs kept.holds.one_leg_each was)

-- a party is split off: it is on a call of its own
pub kept_split : {r : Roster} {t : Table} {s : Standings} (s' : Standings) (l ref id p j : ℕ) (b : Bool) (c : Call) → ref < 128 → r.legs l ≡ party id p j b → r.links ref ≡ None → ((k : ℕ) → leads_to_leg k (call_at t ref).state ≡ false) → c.state ≡ Idle (end.Leg l)
    → ((k : ℕ) → s' k ≡ heard (notices_to k ((l, Disconnected) ∷ each OtherSplit (others t id p))) (s k)) → Kept r t s
    → Kept (counted 0 0 (changed (is_party id p) (λ k e. on ref) r)) (with_left id p (with_call ref c t)) s'
kept_split {r} {t} {s} s' l ref id p j b c lt was none leads state tells kept = record {
  holds = left l id p j b (on ref) OtherSplit r.legs legs' r.links t.calls (set t.calls ref c) t.conferences t.parties s s' ch was refl (λ m. refl) (λ m q. refl) tt fit (λ z. refl)
      (λ k ne. tells k ∙ ap (λ ns. heard ns (s k)) (first_unheard k l Disconnected _ ne ∙ hears_others r.legs t.parties kept.holds.parties_fit (λ q. not (eqb q.id p)) (λ q. eqb q.conference id) k OtherSplit)) kept.holds;
  number = let n = kept.number in let count = rw was at (ups_changed ch) in omega arith;
}
  where
    legs' : ℕ → Entry
    legs' = λ k. cond (is_party id p (r.legs k)) (on ref) (r.legs k)

    ch : Changed l (on ref) r.legs legs'
    ch = party_changed l id p j b (λ k e. on ref) was kept

    fit : Calls legs' r.links (set t.calls ref c)
    fit = calls_changed ref c r.links r.links t.calls lt kept.holds.calls_fit ch
        (rw state (eq-eqb l l refl ∙ sym (eq-eqb ref ref refl)))
        (λ k ne. rw state (ne_eqb l k (λ e. ne (sym e)) ∙ (sym (leads k) ∙ kept.holds.calls_fit.led_to k ref)))
        (λ q ne. rw was (ne_eqb ref q (λ e. ne (sym e))))
        (rw (state, none)) (λ q ne. refl)

-- a party is marked: it hears so, and the others hear what moves nothing
pub kept_marked : {r : Roster} {t : Table} {s : Standings} (s' : Standings) (l id p j : ℕ) (b b' : Bool) (own other : Notice) → r.legs l ≡ party id p j b
    → ((z : Standing) → (after own z).heard ≡ z.heard) → ((z : Standing) → is_isolated (after own z).latest ≡ b') → ((z : Standing) → after other z ≡ z)
    → ((k : ℕ) → s' k ≡ heard (notices_to k ((l, own) ∷ each other (others t id p))) (s k)) → Kept r t s
    → Kept (counted 0 0 (changed (is_party id p) (λ k e. isolated_as b' e) r)) (with_marked id p (mark_of b') t) s'
kept_marked {r} {t} {s} s' l id p j b b' own other was sum latest unmoved tells kept = record {
  holds = remarked l id p j b b' r.legs legs' r.links t.calls t.conferences t.parties s s' ch was (ap (λ z. z.heard) own_is ∙ sum (s l)) (ap (λ z. is_isolated z.latest) own_is ∙ latest (s l))
      (λ k ne. tells k ∙ ap (λ ns. heard ns (s k)) (first_unheard k l own _ ne ∙ told k) ∙ unmoved_at other _ (filter (λ q. eqb q.conference id) (as_parties k (r.legs k))) (s k) unmoved) kept.holds;
  number = let n = kept.number in let count = rw was at (ups_changed ch) in omega arith;
}
  where
    legs' : ℕ → Entry
    legs' = λ k. cond (is_party id p (r.legs k)) (isolated_as b' (r.legs k)) (r.legs k)

    written : Changed l (isolated_as b' (r.legs l)) r.legs legs'
    written = party_changed l id p j b (λ k e. isolated_as b' e) was kept

    ch : Changed l (party id p j b') r.legs legs'
    ch = subst (λ e. Changed l e r.legs legs') (ap (isolated_as b') was) written

    told : (k : ℕ) → notices_to k (each other (others t id p)) ≡ map (λ q. other) (filter (λ q. not (eqb q.id p)) (filter (λ q. eqb q.conference id) (as_parties k (r.legs k))))
    told k = hears_others r.legs t.parties kept.holds.parties_fit (λ q. not (eqb q.id p)) (λ q. eqb q.conference id) k other

    own_is : s' l ≡ after own (s l)
    own_is = tells l ∙ ap (λ ns. heard ns (s l)) (first_told l l own _ refl ∙ ap (λ ns. own ∷ ns) (told l)) ∙ unmoved_at other (λ q. not (eqb q.id p)) (filter (λ q. eqb q.conference id) (as_parties l (r.legs l))) (after own (s l)) unmoved

-- one who is marked so already stays so
pub kept_marked_so : {r : Roster} {t : Table} {s : Standings} (l id p j : ℕ) (b : Bool) → r.legs l ≡ party id p j b → Kept r t s → Kept (counted 0 0 (changed (is_party id p) (λ k e. isolated_as b e) r)) t s
kept_marked_so {r} {t} {s} l id p j b was kept = subst (λ ls. Kept (counted 0 0 (with_legs ls r)) t s) (λ i k. sym (same k) i) (counted_none kept)
  where
    same : (k : ℕ) → cond (is_party id p (r.legs k)) (isolated_as b (r.legs k)) (r.legs k) ≡ r.legs k
    same k = elim (cases_eq k l) [
      | inl is ↦ rw (is, itself l id p j b r.legs was, was)
      | inr ne ↦ rw (no_other_leg l id p j b r.legs kept.holds.one_leg_each was k ne)
    ]

-- a party dropped goes down
pub kept_dropped : {r : Roster} {t : Table} {s : Standings} (s' : Standings) (l id p j : ℕ) (b : Bool) → r.legs l ≡ party id p j b
    → ((k : ℕ) → s' k ≡ heard (notices_to k (each OtherDisconnected (others t id p))) (s k)) → Kept r t s → Kept (counted 0 1 (changed (is_party id p) (λ k e. down) r)) (with_left id p t) s'
kept_dropped {r} {t} {s} s' l id p j b was tells kept =
    kept_gone s' l id p j b (λ k. cond (is_party id p (r.legs k)) down (r.legs k)) was
    (party_changed l id p j b (λ k e. down) was kept) tells kept
