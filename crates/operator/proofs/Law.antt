-- The company law follows from what holds.
use Rattle.std.proofs.Common.{◌≡◌, ℕ, ◌+◌, ◌≤◌, ◌<◌, ◌≢◌, zero, suc, Bool, true, false, eqb, List, [], ◌∷◌, ◌++◌, length, map, get_or, Some, None, Option, is_some, refl, ap, ◌∙◌, subst, sym, inl, inr, arith}
use Rattle.std.specs.List.{filter, find, range_with_len}
use Rattle.std.specs.Option.{option_to_list}
use Rattle.std.proofs.lemmas.Bool.{cases_Bool, cases_eq, cases_lt, ne_eqb, eq-eqb, eqb-true, true≢false}
use Rattle.std.proofs.lemmas.Int.{ints}
use Rattle.std.proofs.lemmas.List.{get_or_past, length-map}
use Rattle.std.proofs.lemmas.List.Elements.{filter_agree}
use Rattle.std.proofs.lemmas.List.Sums.{length-filter}
use Rattle.line.specs.Meaning.{Standings}
use Rattle.tables.specs.declared.call.Call.{Call}
use Rattle.tables.specs.declared.conference.Conference.{Conference}
use Rattle.tables.specs.declared.conference.Party.{Party}
use Rattle.tables.specs.Calls.{absent}
use Rattle.tables.specs.Table.{Table, call_at}
use Rattle.controller.specs.Steps.{leads_to_leg}
use Rattle.operator.specs.Company.{Company, call, conference, place, places, ToldRight}
use Rattle.operator.specs.Roster.{Entry, down, on, party, is_in, is_on, Roster}
use Rattle.operator.proofs.Conferring.{linked_there, there_linked}
use Rattle.operator.proofs.Holding.{Kept, Calls, Housed, Linked, Once, Parties, RightAt, as_parties}
use Rattle.operator.proofs.Lists.{In, in_at, in_filtered, none_found}
use Rattle.operator.proofs.Looking.{known, parties_counted}

-- the sum is the others now less those when it joined
told_right : (k : ℕ) (e : Entry) (legs : ℕ → Entry) (s : Standings) → RightAt k e legs s → ToldRight k e legs s
told_right k e legs s right = grind (arith, ints)

-- of the numbers in a row, one that is among them passes once
none_at : (r a n : ℕ) → r < a → filter (λ i. eqb r i) (range_with_len a n) ≡ []
none_at r a zero past = refl
none_at r a (suc n) past =
    let other : r ≢ a = omega arith in
    let rest = none_at r (a + 1) n (omega arith) in
    rw (ne_eqb r a other) rest

-- one that is among them passes once
one_at : (r a n : ℕ) → a ≤ r → r < a + n → filter (λ i. eqb r i) (range_with_len a n) ≡ r ∷ []
one_at r a zero low high = absurd (omega arith)
one_at r a (suc n) low high = elim (cases_eq r a) [
  | inl is ↦ rw (eq-eqb r a is, none_at r (a + 1) n (omega arith)) (ap (λ x. x ∷ []) (sym is))
  | inr ne ↦ rw (ne_eqb r a ne) (one_at r (a + 1) n (omega arith) (omega arith))
]

-- where nothing passes, nothing is left
none_below : (test : ℕ → Bool) (a n : ℕ) → ((i : ℕ) → test i ≡ false) → filter test (range_with_len a n) ≡ []
none_below test a zero none = refl
none_below test a (suc n) none = rw (none a) (none_below test (a + 1) n none)

-- the references that lead to a leg are its own, if it has one
abbrev references : Entry → List ℕ
references (on r) = r ∷ []
references _ = []

-- as the calls that lead to a leg are tested, its references are left
references_at : (test : ℕ → Bool) (n : ℕ) (e : Entry) → ((r : ℕ) → test r ≡ is_on r e) → ((r : ℕ) → test r ≡ true → r < n) → filter test (range_with_len 0 n) ≡ references e
references_at test n down same below = none_below test 0 n same
references_at test n (party c p j b) same below = none_below test 0 n same
references_at test n (on r) same below =
    let lt : r < n = below r (same r ∙ eq-eqb r r refl) in
    filter_agree test (λ i. eqb r i) same (range_with_len 0 n) ∙ one_at r 0 n (omega arith) (omega arith)

-- past the last call no call leads to a leg
within_calls : (cs : List Call) (k r n : ℕ) → length cs ≡ n → leads_to_leg k (get_or cs r absent).state ≡ true → r < n
within_calls cs k r n long leads = elim (cases_lt r n) [
  | inl lt ↦ lt
  | inr past ↦
      let there : length cs ≤ r = omega arith in
      absurd (true≢false (sym leads ∙ ap (λ c. leads_to_leg k c.state) (get_or_past cs r absent there)))
]

-- its places are its references and its parties
places_joined : (k : ℕ) (e : Entry) → map (λ r. call r) (references e) ++ map (λ p. conference p.conference p.id) (as_parties k e) ≡ place e
places_joined k e = grind arith

-- all places of a leg in the table are its place in the roster
places_right : (k : ℕ) (legs : ℕ → Entry) (links : ℕ → Option ℕ) (t : Table) → Calls legs links t.calls → Parties legs t.parties → places k t ≡ place (legs k)
places_right k legs links t calls parties =
    let at_calls = references_at (λ r. leads_to_leg k (call_at t r).state) 128 (legs k) (calls.led_to k) (λ r leads. within_calls t.calls k r 128 calls.long leads) in
    ap (λ rs. map (λ r. call r) rs ++ map (λ p. conference p.conference p.id) (filter (λ p. eqb k p.leg) t.parties)) at_calls
    ∙ ap (λ ps. map (λ r. call r) (references (legs k)) ++ map (λ p. conference p.conference p.id) ps) (parties k)
    ∙ places_joined k (legs k)

-- what passes one test passes another
filter_within : {X : Type 0} (p q : X → Bool) (xs : List X) → ((x : X) → In x xs → p x ≡ true → q x ≡ true) → length (filter p xs) ≤ length (filter q xs)
filter_within p q [] within = omega arith
filter_within p q (x ∷ xs) within =
    let rest = filter_within p q xs (λ y is. within y (inr is)) in
    elim (cases_Bool (p x)) [
      | inl passes ↦ rw (passes, within x (inl refl) passes) (omega arith)
      | inr not ↦ elim (cases_Bool (q x)) [ inl e ↦ rw (not, e) (omega arith) | inr e ↦ rw (not, e) rest ]
    ]

-- a party's conference is linked, so it is there
home : (legs : ℕ → Entry) (links : ℕ → Option ℕ) (cs : List Conference) (ps : List Party) (p : Party) → Parties legs ps → Linked links cs → Housed legs links → In p ps → is_some (find (λ c. eqb c.id p.conference) cs) ≡ true
home legs links cs ps p parties linked housed is =
    let k = known legs ps p parties is in
    let house = housed p.leg p.conference (ap (is_in p.conference) k.entry ∙ eq-eqb p.conference p.conference refl) in
    let c = linked_there links cs house.0 p.conference linked house.1 in
    go c.0 (find (λ d. eqb d.id p.conference) cs) refl c.1 c.3
  where
    go : (c : Conference) (o : Option Conference) → find (λ d. eqb d.id p.conference) cs ≡ o → In c cs → c.id ≡ p.conference → is_some o ≡ true
    go c (Some d) e there same = refl
    go c None e there same = absurd (true≢false (sym (eq-eqb c.id p.conference same) ∙ none_found (λ d. eqb d.id p.conference) c cs e there))

-- two conferences with one id would be linked by one reference, which links one
id_once : (links : ℕ → Option ℕ) (cs : List Conference) (id : ℕ) → Linked links cs → Once links → length (filter (λ c. eqb c.id id) cs) ≤ 1
id_once links cs id linked once = go (filter (λ c. eqb c.id id) cs) refl
  where
    linked_so : (c : Conference) → In c cs → eqb c.id id ≡ true → links c.link ≡ Some id
    linked_so c is same = there_linked links cs c linked is ∙ ap (λ i. Some i) (eqb-true c.id id same)

    go : (l : List Conference) → filter (λ c. eqb c.id id) cs ≡ l → length (filter (λ c. eqb c.id id) cs) ≤ 1
    go [] e = rw e (omega arith)
    go (x ∷ l) e =
        let there = in_filtered (λ c. eqb c.id id) x cs (subst (λ m. In x m) (sym e) (inl refl)) in
        let at = linked_so x there.0 there.1 in
        let more = filter_within (λ c. eqb c.id id) (λ c. eqb c.link x.link) cs (λ c is same. eq-eqb c.link x.link (once c.link x.link id (linked_so c is same) at)) in
        let one : length (filter (λ c. eqb c.link x.link) cs) ≡ 1 = sym (length-map (filter (λ c. eqb c.link x.link) cs) (λ c. c.id)) ∙ ap length (linked x.link) ∙ ap (λ o. length (option_to_list o)) at in
        omega arith

-- so the law holds
pub company : (r : Roster) (t : Table) (s : Standings) → Kept r t s → Company r t s
company r t s kept = record {
  told = λ k. told_right k (r.legs k) r.legs s (kept.holds.told k);
  legs = kept.holds.ranged;
  places = λ k. places_right k r.legs r.links t kept.holds.calls_fit kept.holds.parties_fit;
  number = kept.number;
  sizes = λ i d lt.
      let c = get_or t.conferences i d in
      let sized = kept.holds.sized c (in_at t.conferences i d lt) in
      let count = parties_counted r.legs t.parties c.id kept.holds.ranged kept.holds.parties_fit in
      rw count sized.members;
  homes = λ i d lt. home r.legs r.links t.conferences t.parties (get_or t.parties i d) kept.holds.parties_fit kept.holds.linked kept.holds.housed (in_at t.parties i d lt);
  ids = λ id. rw (← length-filter (λ c. eqb c.id id) t.conferences) (id_once r.links t.conferences id kept.holds.linked kept.holds.once);
}
