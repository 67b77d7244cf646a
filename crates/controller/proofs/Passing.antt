-- What is granted passed every test, and what it needs was found.
use Rattle.std.proofs.Common.{◌≡◌, ℕ, ◌≤◌, ◌<◌, ◌==◌, Bool, true, false, cond, not, ◌||◌, length, Some, None, Ok, Err, Option, IfOk, nat_le, nat_lt, refl, arith}
use Rattle.std.proofs.lemmas.Bool.{eqb-true, leb-false, ltb-false, or_parts}
use Rattle.std.proofs.lemmas.Bool.Decides.{nat_tests}
use Rattle.std.proofs.lemmas.Result.{IfOk-at_ok}
use Rattle.facility.specs.declared.request.Request.{Request}
use Rattle.facility.specs.declared.request.Request.TheVariants as request
use Rattle.tables.specs.declared.conference.Conference.{Conference}
use Rattle.tables.specs.declared.conference.Mark.TheVariants as mark
use Rattle.tables.specs.declared.conference.Party.{Party}
use Rattle.tables.specs.declared.level.Level.{Level}
use Rattle.tables.specs.Calls.{own_leg}
use Rattle.tables.specs.Table.{Table, call_at, conference_with, next_conference, next_party, parties_of, party_with}
use Rattle.controller.specs.declared.carrier.Carrier.{Carrier}
use Rattle.controller.specs.declared.carrier.Carrier.TheVariants.{Facility, Setup}
use Rattle.controller.specs.declared.deed.Deed.{Deed}
use Rattle.controller.specs.declared.deed.Deed.TheVariants.{BeginBySetup, BeginOnCall, Add, Split, Drop, Remark}
use Rattle.components.specs.declared.problem.InvokeProblem.TheVariants.{UnrecognizedOperation, ResourceLimitation}
use Rattle.controller.specs.declared.verdict.OperationError.TheVariants.{NotSubscribed, NotAvailable, InvalidCallState, ResourceUnavailable, IllConferenceId, IllPartyId, NumberOfPartiesExceeded, NotActive, NotAllowed}
use Rattle.controller.specs.declared.verdict.Wrong.{Wrong}
use Rattle.controller.specs.declared.verdict.Wrong.TheVariants.{Failed, Rejected}
use Rattle.controller.specs.Judging.{Verdict, asked_size, carries, control_of, control_party, in_progress, in_use, is_full, judged, needed, opened, operation_verdict, verdict, with_found, with_room}
use Rattle.controller.proofs.Finding.{found}

-- what holds of a deed once a test has failed
test_so : (P : Deed → Type 0) (test : Bool) (why : Wrong) (rest : Verdict) → (test ≡ false → IfOk rest P) → IfOk (cond test (Err why) rest) P
test_so P true why rest so = tt
test_so P false why rest so = so refl

-- and once something was found
with_found_so : {X : Type 0} (P : Deed → Type 0) (o : Option X) (why : Wrong) (go : X → Verdict) → ((x : X) → o ≡ Some x → IfOk (go x) P) → IfOk (with_found o why go) P
with_found_so P None why go so = tt
with_found_so P (Some x) why go so = so x refl

-- a conference that is open is there
opened_there : (o : Option Conference) (c : Conference) → opened o ≡ Some c → o ≡ Some c
opened_there None c is = cc
opened_there (Some d) c is = grind arith

-- a conference is found by its id
conference_id : (t : Table) (id : ℕ) (c : Conference) → conference_with t id ≡ Some c → c.id ≡ id
conference_id t id c is = eqb-true c.id id (found (λ d. d.id == id) c t.conferences is).1

-- a party by its PartyId
pub party_id : (t : Table) (id p : ℕ) (q : Party) → party_with t id p ≡ Some q → q.id ≡ p
party_id t id p q is = eqb-true q.id p (found (λ x. x.id == p) q (parties_of t id) is).1

-- a conference that there is, with its id
pub record There (t : Table) (id : ℕ) (c : Conference) : Type 0 where
  pub found : conference_with t id ≡ Some c
  pub named : c.id ≡ id

-- a conference that begins: there is room for it, and it is 30 parties at most
pub record Begins (t : Table) (size : ℕ) : Type 0 where
  pub room : length t.conferences < 8
  pub most : size ≤ 30

-- which request comes to which deed, and what is there then
pub data Grants (level : Level) (t : Table) : Carrier → Request → Deed → Type 0 where
  begin_by_setup : (r : ℕ) (speech : Bool) (size : Option ℕ) → Begins t (asked_size level size)
      → Grants level t (Setup r speech) (request.Begin size) (BeginBySetup (next_conference t) (asked_size level size) r)
  begin_on_call : (r : ℕ) (size : Option ℕ) (leg : ℕ) → Begins t (asked_size level size) → 1 ≤ asked_size level size → own_leg (call_at t r).state ≡ Some leg
      → Grants level t (Facility r) (request.Begin size) (BeginOnCall (next_conference t) (asked_size level size) r leg)
  add : (r id leg : ℕ) (c : Conference) → There t id c → length (parties_of t c.id) < c.size → own_leg (call_at t r).state ≡ Some leg
      → Grants level t (Facility r) (request.Add id) (Add c.id (next_party t c) r leg)
  split : (r : ℕ) (speech : Bool) (id p : ℕ) (c : Conference) (q : Party) → There t id c → party_with t c.id p ≡ Some q
      → Grants level t (Setup r speech) (request.Split id p) (Split c.id q r)
  drop : (r p : ℕ) (c : Conference) (q : Party) → control_of t r ≡ Some c → party_with t c.id p ≡ Some q
      → Grants level t (Facility r) (request.Drop p) (Drop c.id q)
  isolate : (r p : ℕ) (c : Conference) (q : Party) → control_of t r ≡ Some c → party_with t c.id p ≡ Some q
      → Grants level t (Facility r) (request.Isolate p) (Remark c.id q mark.Isolated)
  reattach : (r p : ℕ) (c : Conference) (q : Party) → control_of t r ≡ Some c → party_with t c.id p ≡ Some q
      → Grants level t (Facility r) (request.Reattach p) (Remark c.id q mark.Joined)

-- a conference has room where the level has
begins : (level : Level) (t : Table) (size : ℕ) → nat_lt level.size size ≡ false → nat_le level.conferences (length t.conferences) ≡ false → Begins t size
begins level t size small few = record {
  room = let most = level.lawful.most_conferences in let lt = leb-false level.conferences (length t.conferences) few in omega arith;
  most = let most = level.lawful.most_parties in let le = ltb-false level.size size small in omega arith;
}

-- a party of a conference that is controlled
controls : (P : Deed → Type 0) (t : Table) (r p : ℕ) (deed : ℕ → Party → Deed) → ((c : Conference) (q : Party) → control_of t r ≡ Some c → party_with t c.id p ≡ Some q → P (deed c.id q)) → IfOk (control_party t r p deed) P
controls P t r p deed so =
    with_found_so P (opened (control_of t r)) (Failed NotActive) _ (λ c is.
    with_found_so P (party_with t c.id p) (Failed IllPartyId) _ (λ q there. so c q (opened_there (control_of t r) c is) there))

-- so it is with whatever an operation comes to
grants : (level : Level) (t : Table) (carrier : Carrier) (q : Request) → IfOk (operation_verdict level t carrier q) (Grants level t carrier q)
grants level t (Setup r speech) (request.Begin size) =
    let n = asked_size level size in
    test_so _ (not level.subscribed) (Failed NotSubscribed) _ (λ _.
    test_so _ (nat_lt level.size n) (Failed NumberOfPartiesExceeded) _ (λ small.
    test_so _ (nat_le level.conferences (length t.conferences)) (Failed ResourceUnavailable) _ (λ few.
    test_so _ (not speech) (Failed NotAvailable) _ (λ _.
    begin_by_setup r speech size (begins level t n small few)))))
grants level t (Facility r) (request.Begin size) =
    let n = asked_size level size in
    test_so _ (not level.subscribed) (Failed NotSubscribed) _ (λ _.
    test_so _ (n == 0 || nat_lt level.size n) (Failed NumberOfPartiesExceeded) _ (λ sizes.
    test_so _ (nat_le level.conferences (length t.conferences)) (Failed ResourceUnavailable) _ (λ few.
    test_so _ (not (in_progress (call_at t r).state)) (Failed InvalidCallState) _ (λ _.
    test_so _ (not (call_at t r).speech || not level.active) (Failed NotAvailable) _ (λ _.
    with_found_so _ (own_leg (call_at t r).state) (Failed NotAvailable) _ (λ leg own.
    let both = or_parts (n == 0) (nat_lt level.size n) sizes in
    begin_on_call r size leg (begins level t n both.1 few) (some n both.0) own))))))
  where
    some : (n : ℕ) → (n == 0) ≡ false → 1 ≤ n
    some n is = grind (arith, nat_tests)
grants level t (Facility r) (request.Add id) =
    with_found_so _ (opened (conference_with t id)) (Failed IllConferenceId) _ (λ c is.
    let there = opened_there (conference_with t id) c is in
    test_so _ (is_full t c) (Failed NumberOfPartiesExceeded) _ (λ few.
    test_so _ (not (in_progress (call_at t r).state)) (Failed InvalidCallState) _ (λ _.
    test_so _ (not (call_at t r).speech) (Failed NotAllowed) _ (λ _.
    with_found_so _ (own_leg (call_at t r).state) (Failed NotAllowed) _ (λ leg own.
    add r id leg c (record { found = there; named = conference_id t id c there }) (leb-false c.size (length (parties_of t c.id)) few) own)))))
grants level t (Setup r speech) (request.Split id p) =
    with_found_so _ (opened (conference_with t id)) (Failed IllConferenceId) _ (λ c is.
    let there = opened_there (conference_with t id) c is in
    with_found_so _ (party_with t c.id p) (Failed IllPartyId) _ (λ q has.
    test_so _ (not speech) (Rejected ResourceLimitation) _ (λ _.
    split r speech id p c q (record { found = there; named = conference_id t id c there }) has)))
grants level t (Facility r) (request.Drop p) = controls _ t r p (λ c q. Drop c q) (λ c q is there. drop r p c q is there)
grants level t (Facility r) (request.Isolate p) = controls _ t r p (λ c q. Remark c q mark.Isolated) (λ c q is there. isolate r p c q is there)
grants level t (Facility r) (request.Reattach p) = controls _ t r p (λ c q. Remark c q mark.Joined) (λ c q is there. reattach r p c q is there)
grants level t (Facility r) (request.Split id p) = tt
grants level t (Setup r speech) (request.Add id) = tt
grants level t (Setup r speech) (request.Drop p) = tt
grants level t (Setup r speech) (request.Isolate p) = tt
grants level t (Setup r speech) (request.Reattach p) = tt

-- what is known of a deed that is granted: its request's reference was free for it, it comes of the request, and there is room
pub record Granted (level : Level) (t : Table) (room : ℕ) (carrier : Carrier) (q : Request) (deed : Deed) : Type 0 where
  pub free : in_use carrier t ≡ false
  pub comes : Grants level t carrier q deed
  pub roomy : needed t deed ≤ room

-- a deed for which there is room
roomy_so : (P Q : Deed → Type 0) (room : ℕ) (t : Table) (v : Verdict) → IfOk v P → ((d : Deed) → P d → needed t d ≤ room → Q d) → IfOk (with_room room t v) Q
roomy_so P Q room t (Ok d) holds so = test_so Q (nat_lt room (needed t d)) (Rejected ResourceLimitation) (Ok d) (λ few. so d holds (ltb-false room (needed t d) few))
roomy_so P Q room t (Err why) holds so = tt

-- so it is with every deed that is granted
pub granted : (level : Level) (t : Table) (room : ℕ) (carrier : Carrier) (q : Request) (d : Deed) → verdict level t room carrier q ≡ Ok d → Granted level t room carrier q d
granted level t room carrier q d is =
    IfOk-at_ok (Granted level t room carrier q) is
    (roomy_so (λ d. (in_use carrier t ≡ false) × Grants level t carrier q d) (Granted level t room carrier q) room t (judged level t carrier q)
    (test_so _ (not (carries carrier q)) (Rejected UnrecognizedOperation) _ (λ _.
    test_so _ (in_use carrier t) (Rejected ResourceLimitation) _ (λ free. both (operation_verdict level t carrier q) free (grants level t carrier q))))
    (λ d holds roomy. record { free = holds.0; comes = holds.1; roomy = roomy }))
  where
    both : (v : Verdict) → in_use carrier t ≡ false → IfOk v (Grants level t carrier q) → IfOk v (λ d. (in_use carrier t ≡ false) × Grants level t carrier q d)
    both (Ok d) free comes = (free, comes)
    both (Err why) free comes = tt
