-- What a step tells can be told, where legs are apart: it goes to legs that there are, and has room.
use Rattle.std.proofs.Common.{◌≡◌, ◌==◌, ◌&&◌, not, ℕ, ◌≤◌, All, IfOk, Bool, true, false, cond, List, [], ◌∷◌, length, get_or, Some, None, Ok, Option, refl, eq-eqb, arith}
use Rattle.std.proofs.lemmas.Bool.{leb-true}
use Rattle.std.proofs.lemmas.List.{length-map}
use Rattle.std.proofs.lemmas.List.Elements.{All-cons, All-contains, All-filter, All-map, All-nil}
use Rattle.std.proofs.lemmas.List.Sums.{get_or-le-sum_by}
use Rattle.std.proofs.lemmas.Result.{IfOk-at_ok}
use Rattle.facility.specs.declared.request.Request.{Request}
use Rattle.line.specs.declared.notice.Notice.{Notice}
use Rattle.line.specs.declared.notice.Notice.TheVariants.{OtherDisconnected}
use Rattle.line.specs.Order.{Telling}
use Rattle.line.specs.Meaning.{Leg}
use Rattle.tables.specs.declared.call.Call.{Call}
use Rattle.tables.specs.declared.call.Event.TheVariants as event
use Rattle.tables.specs.declared.conference.Conference.{Conference}
use Rattle.tables.specs.declared.conference.Mark.{Mark}
use Rattle.tables.specs.declared.conference.Party.{Party}
use Rattle.tables.specs.declared.level.Level.{Level}
use Rattle.tables.specs.declared.refusal.Refusal.TheVariants.{OutOfRange, WrongLeg, NoRoom}
use Rattle.tables.specs.Calls.{next_call, own_leg}
use Rattle.tables.specs.Edits.{with_call}
use Rattle.tables.specs.Table.{Table, call_at, call_to, is_up, linked_to, parties_of, party_on, party_with}
use Rattle.controller.specs.declared.carrier.Carrier.{Carrier}
use Rattle.controller.specs.declared.deed.Deed.{Deed}
use Rattle.controller.specs.declared.report.Report.{Report}
use Rattle.controller.specs.declared.report.Report.TheVariants as report
use Rattle.controller.specs.Apart.{Apart, times_up}
use Rattle.controller.specs.Deeds.{deed_effect}
use Rattle.controller.specs.Granting.{remarked, same_mark}
use Rattle.controller.specs.Judging.{verdict}
use Rattle.controller.specs.Reports.{Accepted, by_event, disconnected, leg_cleared, leg_gone, party_cleared, quiet, released, reported, unless}
use Rattle.controller.specs.Steps.{Effect, each, is_leg, is_reference, others}
use Rattle.controller.specs.Telling.{Tellable}
use Rattle.controller.proofs.Finding.{found}
use Rattle.controller.proofs.Passing.{Grants, begin_by_setup, begin_on_call, add, split, drop, isolate, reattach, granted}
use Rattle.controller.proofs.Reported.{event_so, unless_so}
use Rattle.controller.proofs.Room.{own_up}

-- who is told is a leg
abbrev Legs : List Telling → Type 0
Legs told = All (λ telling. Leg telling.0) told

-- who takes part is on a leg
abbrev OnLegs : List Party → Type 0
OnLegs ps = All (λ p. Leg p.leg) ps

-- a leg that is up is one
up_leg : (t : Table) (k : ℕ) → Apart t → 1 ≤ times_up t k → Leg k
up_leg t k apart up = let range = apart.legs k up in record { least = range.0; most = range.1 }

-- so each party is on one
parties_on_legs : (t : Table) → Apart t → OnLegs t.parties
parties_on_legs t apart k d lt =
    let l = (get_or t.parties k d).leg in
    let here = rw (eq-eqb l l refl) at (get_or-le-sum_by (λ p. cond (p.leg == l) 1 0) t.parties k d lt) in
    up_leg t l apart (omega arith)

-- those of a conference, too
conference_on_legs : (t : Table) (id : ℕ) → Apart t → OnLegs (parties_of t id)
conference_on_legs t id apart = All-filter (λ p. p.conference == id) (λ p. Leg p.leg) t.parties (parties_on_legs t apart)

-- and all of them but one
others_on_legs : (t : Table) (id p : ℕ) → Apart t → OnLegs (others t id p)
others_on_legs t id p apart = All-filter (λ q. not (q.id == p)) (λ q. Leg q.leg) (parties_of t id) (conference_on_legs t id apart)

-- so is a party that is found
party_leg : (t : Table) (id p : ℕ) (q : Party) → Apart t → party_with t id p ≡ Some q → Leg q.leg
party_leg t id p q apart is = All-contains (λ q. Leg q.leg) (parties_of t id) q (conference_on_legs t id apart) (found (λ q. q.id == p) q (parties_of t id) is).0

-- a call's own leg is a leg as well
call_leg : (t : Table) (r l : ℕ) → Apart t → own_leg (call_at t r).state ≡ Some l → Leg l
call_leg t r l apart own = let on_call = own_up t r l own in up_leg t l apart (omega arith)

-- a notice for each of some parties
each_legs : (n : Notice) (ps : List Party) → OnLegs ps → Legs (each n ps)
each_legs n ps on = All-map (λ telling. Leg telling.0) (λ p. (p.leg, n)) ps on

-- behind one for a leg
first_legs : (l : ℕ) (n : Notice) (rest : List Telling) → Leg l → Legs rest → Legs ((l, n) ∷ rest)
first_legs l n rest leg more = All-cons (λ telling. Leg telling.0) (l, n) rest leg more

-- none at all
none_legs : Legs []
none_legs = All-nil (λ telling. Leg telling.0)

-- of two effects, whichever it is
either_legs : (b : Bool) (e f : Effect) → Legs e.told → Legs f.told → Legs (cond b e f).told
either_legs true e f this other = this
either_legs false e f this other = other

-- a party that is marked
remarked_legs : (m : Mark) (own other : Notice) (id : ℕ) (p : Party) (t : Table) → Apart t → Leg p.leg → Legs (remarked m own other id p t).told
remarked_legs m own other id p t apart leg = either_legs (same_mark p.mark m) _ _ none_legs (first_legs p.leg own _ leg (each_legs other _ (others_on_legs t id p.id apart)))

-- whatever is granted
granted_legs : (level : Level) (t : Table) {carrier : Carrier} {asked : Request} {d : Deed} → Grants level t carrier asked d → Apart t → Legs (deed_effect t d).told
granted_legs level t (begin_by_setup r speech size begins) apart = none_legs
granted_legs level t (begin_on_call r size l begins some own) apart = first_legs l _ [] (call_leg t r l apart own) none_legs
granted_legs level t (add r id l c there few own) apart = first_legs l _ _ (call_leg t r l apart own) (each_legs _ _ (conference_on_legs t c.id apart))
granted_legs level t (split r speech id p c q there has) apart = first_legs q.leg _ _ (party_leg t c.id p q apart has) (each_legs _ _ (others_on_legs t c.id q.id apart))
granted_legs level t (drop r p c q is has) apart = each_legs _ _ (others_on_legs t c.id q.id apart)
granted_legs level t (isolate r p c q is has) apart = remarked_legs _ _ _ c.id q t apart (party_leg t c.id p q apart has)
granted_legs level t (reattach r p c q is has) apart = remarked_legs _ _ _ c.id q t apart (party_leg t c.id p q apart has)

-- all that a granted request tells can be told
pub granted_tellable : (level : Level) (t : Table) (room : ℕ) (carrier : Carrier) (asked : Request) (d : Deed) → verdict level t room carrier asked ≡ Ok d → Apart t → Tellable (deed_effect t d).told room
granted_tellable level t room carrier asked d is apart =
    let known = granted level t room carrier asked d is in
    record { roomy = known.roomy; legs = granted_legs level t known.comes apart }

-- to tell nobody needs no room
none_tellable : (room : ℕ) → Tellable [] room
none_tellable room = record { roomy = omega arith; legs = none_legs }

-- what an accepted report tells can be told
abbrev CanTell : ℕ → Accepted → Type 0
CanTell room a = Tellable a.effect.told room

-- a party that clears was checked for room
cleared_tellable : (room : ℕ) (t : Table) (p : Party) → length (others t p.conference p.id) ≤ room → Apart t → CanTell room (party_cleared t p)
cleared_tellable room t p few apart = record { roomy = rw length-map few; legs = each_legs OtherDisconnected _ (others_on_legs t p.conference p.id apart) }

-- the remote user of a leg clears
clearing_tellable : (room : ℕ) (t : Table) (r : Option ℕ) (p : Option Party) → Apart t → IfOk (leg_cleared room t r p) (CanTell room)
clearing_tellable room t (Some r) p apart = event_so (CanTell room) (next_call event.RemoteClearing (call_at t r)) _ (λ c is. none_tellable room)
clearing_tellable room t None (Some p) apart =
    unless_so (CanTell room) _ NoRoom _ (λ roomy. cleared_tellable room t p (leb-true (length (others t p.conference p.id)) room roomy) apart)
clearing_tellable room t None None apart = tt

-- an event of a call tells nobody
event_tellable : (room r : ℕ) (o : Option Call) (to : Call → Accepted) → ((c : Call) → (to c).effect.told ≡ []) → IfOk (unless (is_reference r) OutOfRange (by_event o (λ c. Ok (to c)))) (CanTell room)
event_tellable room r o to nobody = unless_so (CanTell room) (is_reference r) OutOfRange _ (λ _. event_so (CanTell room) o _ (λ c is. rw (nobody c) (none_tellable room)))

-- each report
accepted_tellable : (room : ℕ) (asked : Report) (t : Table) → Apart t → IfOk (reported room asked t) (CanTell room)
accepted_tellable room (report.Calling r) t apart = event_tellable room r _ (λ c. quiet (with_call r c t) 0) (λ c. refl)
accepted_tellable room (report.Hold r) t apart = event_tellable room r _ (λ c. quiet (with_call r c t) 0) (λ c. refl)
accepted_tellable room (report.Retrieve r) t apart = event_tellable room r _ (λ c. quiet (with_call r c t) 0) (λ c. refl)
accepted_tellable room (report.Answer r leg speech) t apart =
    unless_so (CanTell room) (is_reference r && is_leg leg) OutOfRange _
    (λ _. event_so (CanTell room) (next_call (event.Answer leg speech) (call_at t r)) _
    (λ c is. unless_so (CanTell room) (not (is_up leg t)) WrongLeg _ (λ _. none_tellable room)))
accepted_tellable room (report.RemoteClearing leg) t apart =
    unless_so (CanTell room) (is_leg leg) OutOfRange _ (λ _. clearing_tellable room t (call_to t leg) (party_on t leg) apart)
accepted_tellable room (report.Disconnect r) t apart =
    event_tellable room r _ (λ c. quiet (disconnected (call_at t r).state (with_call r c t)) (leg_gone (call_at t r).state)) (λ c. refl)
accepted_tellable room (report.Released r) t apart = event_tellable room r _ (λ c. released (linked_to t r) (with_call r c t)) (λ c. nobody (linked_to t r) c)
  where
    nobody : (o : Option Conference) (c : Call) → (released o (with_call r c t)).effect.told ≡ []
    nobody None c = refl
    nobody (Some d) c = refl

-- all that an accepted report tells can be told
pub reported_tellable : (room : ℕ) (asked : Report) (t : Table) → Apart t → (a : Accepted) → reported room asked t ≡ Ok a → Tellable a.effect.told room
reported_tellable room asked t apart a is = IfOk-at_ok (CanTell room) is (accepted_tellable room asked t apart)
