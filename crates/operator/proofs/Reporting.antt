-- Roster, table and standings go on fitting after a report.
use Rattle.std.proofs.Common.{◌≡◌, ℕ, ◌<◌, Bool, true, false, cond, eqb, leb, not, ◌&&◌, length, Some, None, Ok, Err, Result, Option, refl, subst, ap, ◌∙◌, sym, arith}
use Rattle.std.specs.List.{find, position}
use Rattle.std.proofs.lemmas.Bool.{eq-eqb, eqb-true, leb-true, and_parts, not-true}
use Rattle.std.proofs.lemmas.List.Quantifiers.{position-Some}
use Rattle.line.specs.Meaning.{Leg, Standings}
use Rattle.tables.specs.declared.call.Call.{Call}
use Rattle.tables.specs.declared.call.End.TheVariants as end
use Rattle.tables.specs.declared.call.Event.TheVariants as event
use Rattle.tables.specs.declared.call.State.{State}
use Rattle.tables.specs.declared.call.State.TheVariants.{Absent, Calling, Idle, Held, Clearing}
use Rattle.tables.specs.declared.conference.Conference.{Conference}
use Rattle.tables.specs.declared.conference.Phase.TheVariants.{Ending}
use Rattle.tables.specs.declared.conference.Party.{Party}
use Rattle.tables.specs.declared.refusal.Refusal.{Refusal}
use Rattle.tables.specs.declared.refusal.Refusal.TheVariants.{OutOfRange, WrongState, WrongLeg, NoRoom}
use Rattle.tables.specs.Calls.{absent, next_state, with_state}
use Rattle.tables.specs.Edits.{with_call, with_ended}
use Rattle.tables.specs.Table.{Table, call_at, linked_to, conference_with, parties_of}
use Rattle.controller.specs.Reports.{Accepted, quiet, unless, by_event, reported, disconnected, leg_gone, released, leg_cleared, party_cleared, disc_for, with_sent}
use Rattle.controller.specs.declared.disc.Disc.{Disc}
use Rattle.controller.specs.Steps.{is_reference, is_leg, is_up, leads_to_leg, others}
use Rattle.controller.specs.Telling.{Heard}
use Rattle.controller.specs.declared.report.Report.{Report}
use Rattle.controller.specs.declared.report.Report.TheVariants as report
use Rattle.operator.specs.declared.steps.Step.TheVariants as step
use Rattle.operator.specs.Roster.{down, party, is_on, is_up as is_up', Roster, written, counted, struck, ended}
use Rattle.operator.specs.Turns.{report_turn}
use Rattle.operator.proofs.Holding.{Kept}
use Rattle.operator.proofs.Keeping.{counted_none, kept_same, kept_call, kept_up, kept_down, kept_phase, kept_gone, kept_ended, with_legs, changed_at, placed_at, changed_nowhere, leads_on, alone_on}
use Rattle.operator.proofs.Conferring.{found_linked, none_linked}
use Rattle.operator.proofs.Lists.{In, in_found}
use Rattle.operator.proofs.Looking.{not_up, known}

-- whatever fitted before a report fits after it, if this is what becomes of it
abbrev pub Fits : Report → Roster → Table → Standings → Standings → Result Accepted Refusal → Type 0
Fits r roster t s s' what = Heard (report_turn what t).effect.told s s' → Kept (written (step.Reported r) (report_turn what t).answer roster) (report_turn what t).effect.table s'

-- a refusal changes nothing
refused_fits : (rep : Report) (r : Roster) (t : Table) (s s' : Standings) (why : Refusal) → Kept r t s → Fits rep r t s s' (Err why)
refused_fits rep r t s s' why kept heard = counted_none (kept_same s' heard kept)

-- a test stands before what becomes of it
unless_fits : (rep : Report) (r : Roster) (t : Table) (s s' : Standings) (b : Bool) (why : Refusal) (what : Result Accepted Refusal) → Kept r t s → (b ≡ true → Fits rep r t s s' what) → Fits rep r t s s' (unless b why what)
unless_fits rep r t s s' true why what kept go = go refl
unless_fits rep r t s s' false why what kept go = refused_fits rep r t s s' why kept

-- a reference in range is that of a call
pub reference_below : (ref : ℕ) → is_reference ref ≡ true → ref < 128
reference_below ref is = let both = and_parts (leb 1 ref) (leb ref 127) is in let most = leb-true ref 127 both.1 in omega arith

-- a leg in range is a leg
a_leg : (k : ℕ) → is_leg k ≡ true → Leg k
a_leg k is = let both = and_parts (leb 1 k) (leb k 64) is in record { least = leb-true 1 k both.0; most = leb-true k 64 both.1 }

-- calling, hold and retrieve, by the state of the call
calling_fits : (r : Roster) (t : Table) (s s' : Standings) (ref : ℕ) (st : State) → ref < 128 → (call_at t ref).state ≡ st → Kept r t s
    → Fits (report.Calling ref) r t s s' (by_event (with_state (call_at t ref) event.Calling (next_state event.Calling st)) (λ c. Ok (quiet (with_call ref c t) 0)))
calling_fits r t s s' ref Absent lt is kept = λ heard. counted_none (kept_call s' ref _ lt (λ k. rw is) (rw is at (kept.holds.calls_fit.led ref)) heard kept)
calling_fits r t s s' ref st lt is kept = refused_fits (report.Calling ref) r t s s' WrongState kept

-- hold
hold_fits : (r : Roster) (t : Table) (s s' : Standings) (ref : ℕ) (st : State) → ref < 128 → (call_at t ref).state ≡ st → Kept r t s
    → Fits (report.Hold ref) r t s s' (by_event (with_state (call_at t ref) event.Hold (next_state event.Hold st)) (λ c. Ok (quiet (with_call ref c t) 0)))
hold_fits r t s s' ref (Idle (end.Leg k)) lt is kept = λ heard. counted_none (kept_call s' ref _ lt (λ k. rw is) (rw is at (kept.holds.calls_fit.led ref)) heard kept)
hold_fits r t s s' ref (Idle (end.Conference k)) lt is kept = λ heard. counted_none (kept_call s' ref _ lt (λ k. rw is) (rw is at (kept.holds.calls_fit.led ref)) heard kept)
hold_fits r t s s' ref st lt is kept = refused_fits (report.Hold ref) r t s s' WrongState kept

-- retrieve
retrieve_fits : (r : Roster) (t : Table) (s s' : Standings) (ref : ℕ) (st : State) → ref < 128 → (call_at t ref).state ≡ st → Kept r t s
    → Fits (report.Retrieve ref) r t s s' (by_event (with_state (call_at t ref) event.Retrieve (next_state event.Retrieve st)) (λ c. Ok (quiet (with_call ref c t) 0)))
retrieve_fits r t s s' ref (Held (end.Leg k)) lt is kept = λ heard. counted_none (kept_call s' ref _ lt (λ k. rw is) (rw is at (kept.holds.calls_fit.led ref)) heard kept)
retrieve_fits r t s s' ref (Held (end.Conference k)) lt is kept = λ heard. counted_none (kept_call s' ref _ lt (λ k. rw is) (rw is at (kept.holds.calls_fit.led ref)) heard kept)
retrieve_fits r t s s' ref st lt is kept = refused_fits (report.Retrieve ref) r t s s' WrongState kept

-- answer: a leg that was down comes up
answer_fits : (r : Roster) (t : Table) (s s' : Standings) (ref leg : ℕ) (speech : Bool) (st : State) → ref < 128 → Leg leg → (call_at t ref).state ≡ st → Kept r t s
    → Fits (report.Answer ref leg speech) r t s s' (by_event (with_state (call_at t ref) (event.Answer leg speech) (next_state (event.Answer leg speech) st)) (λ c. unless (not (is_up leg t)) WrongLeg (Ok (quiet (with_call ref c t) 0))))
answer_fits r t s s' ref leg speech Calling lt below is kept =
    unless_fits (report.Answer ref leg speech) r t s s' (not (is_up leg t)) WrongLeg _ kept (λ up heard.
    kept_up s' leg ref _ lt below (not_up r.legs r.links t leg kept.holds.calls_fit kept.holds.parties_fit (not-true (is_up leg t) up)) refl (rw is at (kept.holds.calls_fit.led ref)) (λ k. rw is) heard kept)
answer_fits r t s s' ref leg speech st lt below is kept = refused_fits (report.Answer ref leg speech) r t s s' WrongState kept

-- disconnect: the call's own leg goes down; a conference linked is then ending
nobody_on : (r : Roster) (t : Table) (s : Standings) (ref : ℕ) → Kept r t s → ((k : ℕ) → leads_to_leg k (call_at t ref).state ≡ false) → (λ k. cond (is_on ref (r.legs k)) down (r.legs k)) ≡ r.legs
nobody_on r t s ref kept none = changed_nowhere (is_on ref) (λ k e. down) r.legs (λ k. sym (kept.holds.calls_fit.led_to k ref) ∙ none k)

-- so nothing is written where the call leads to no leg
struck_none : (r : Roster) (t t' : Table) (s s' : Standings) (ref : ℕ) → Kept r t s → ((k : ℕ) → leads_to_leg k (call_at t ref).state ≡ false) → Kept r t' s' → Kept (counted 0 0 (struck (is_on ref) r)) t' s'
struck_none r t t' s s' ref kept none kept' = subst (λ l. Kept (counted 0 0 (with_legs l r)) t' s') (sym (nobody_on r t s ref kept none)) (counted_none kept')

-- the leg that the call leads to goes down
struck_leg : (r : Roster) (t : Table) (s s' : Standings) (ref k : ℕ) (c : Call) → ref < 128 → leads_to_leg k (call_at t ref).state ≡ true → c.state ≡ Clearing → ((k : ℕ) → s' k ≡ s k) → Kept r t s → Kept (counted 0 1 (struck (is_on ref) r)) (with_call ref c t) s'
struck_leg r t s s' ref k c lt leads state same kept =
    let calls = kept.holds.calls_fit in
    let was = leads_on r.legs r.links t.calls k ref calls leads in
    let here : is_on ref (r.legs k) ≡ true = sym (calls.led_to k ref) ∙ leads in
    let ch = changed_at (is_on ref) (λ k e. down) k r.legs (kept.holds.ranged k (ap is_up' was)) here (alone_on r.legs r.links t.calls k ref calls here) in
    kept_down s' k ref c (λ k. cond (is_on ref (r.legs k)) down (r.legs k)) lt was ch state same kept

-- disconnect, by the state of the call
disconnect_fits : (r : Roster) (t : Table) (s s' : Standings) (ref : ℕ) (st : State) → ref < 128 → (call_at t ref).state ≡ st → Kept r t s
    → Fits (report.Disconnect ref) r t s s' (by_event (with_state (call_at t ref) event.Disconnect (next_state event.Disconnect st)) (λ c. Ok (quiet (disconnected st (with_call ref c t)) (leg_gone st))))
disconnect_fits r t s s' ref Calling lt is kept = λ heard. struck_none r t _ s s' ref kept (λ k. rw is) (kept_call s' ref _ lt (λ k. rw is) tt heard kept)
disconnect_fits r t s s' ref (Idle (end.Leg k)) lt is kept = λ heard. struck_leg r t s s' ref k _ lt (rw is (eq-eqb k k refl)) refl heard kept
disconnect_fits r t s s' ref (Held (end.Leg k)) lt is kept = λ heard. struck_leg r t s s' ref k _ lt (rw is (eq-eqb k k refl)) refl heard kept
disconnect_fits r t s s' ref (Idle (end.Conference id)) lt is kept = λ heard. struck_none r t _ s s' ref kept (λ k. rw is) (kept_phase id Ending (kept_call s' ref _ lt (λ k. rw is) tt heard kept))
disconnect_fits r t s s' ref (Held (end.Conference id)) lt is kept = λ heard. struck_none r t _ s s' ref kept (λ k. rw is) (kept_phase id Ending (kept_call s' ref _ lt (λ k. rw is) tt heard kept))
disconnect_fits r t s s' ref st lt is kept = refused_fits (report.Disconnect ref) r t s s' WrongState kept

-- released: the conference linked ends
released_none : (r : Roster) (t : Table) (s s' : Standings) (ref : ℕ) (c : Call) (o : Option ℕ) → r.links ref ≡ o → o ≡ None → ref < 128 → c.state ≡ Absent → ((k : ℕ) → leads_to_leg k (call_at t ref).state ≡ false) → ((k : ℕ) → s' k ≡ s k) → Kept r t s
    → Kept (counted 0 0 (ended ref o r)) (with_call ref c t) s'
released_none r t s s' ref c None is none lt state leads same kept = counted_none (kept_call s' ref c lt (λ k. rw state (sym (leads k))) (rw state is) same kept)
released_none r t s s' ref c (Some m) is none lt state leads same kept = cc

-- and so it is with the conference that is linked
released_some : (r : Roster) (t : Table) (s s' : Standings) (ref m : ℕ) (c : Call) (o : Option ℕ) → r.links ref ≡ o → o ≡ Some m → ref < 128 → c.state ≡ Absent → ((k : ℕ) → leads_to_leg k (call_at t ref).state ≡ false) → ((k : ℕ) → s' k ≡ s k) → Kept r t s
    → Kept (counted 0 (length (parties_of t m)) (ended ref o r)) (with_ended m (with_call ref c t)) s'
released_some r t s s' ref m c None is some lt state leads same kept = cc
released_some r t s s' ref m c (Some n) is some lt state leads same kept =
    let one : n ≡ m = cc in
    rw one (kept_ended s' ref m c lt (is ∙ some) state leads same kept)

-- released, by what is linked
released_at : (r : Roster) (t : Table) (s s' : Standings) (ref : ℕ) (c : Call) (o : Option Conference) → linked_to t ref ≡ o → ref < 128 → c.state ≡ Absent → ((k : ℕ) → leads_to_leg k (call_at t ref).state ≡ false) → Kept r t s
    → Fits (report.Released ref) r t s s' (Ok (released o (with_call ref c t)))
released_at r t s s' ref c None is lt state leads kept = λ heard. released_none r t s s' ref c (r.links ref) refl (none_linked r.links t.conferences ref kept.holds.linked is) lt state leads heard kept
released_at r t s s' ref c (Some d) is lt state leads kept = λ heard. released_some r t s s' ref d.id c (r.links ref) refl (found_linked r.links t.conferences ref d kept.holds.linked is) lt state leads heard kept

-- released, by the state of the call
released_fits : (r : Roster) (t : Table) (s s' : Standings) (ref : ℕ) (st : State) → ref < 128 → (call_at t ref).state ≡ st → Kept r t s
    → Fits (report.Released ref) r t s s' (by_event (with_state (call_at t ref) event.Released (next_state event.Released st)) (λ c. Ok (released (linked_to t ref) (with_call ref c t))))
released_fits r t s s' ref Clearing lt is kept = released_at r t s s' ref _ (linked_to t ref) refl lt refl (λ k. rw is) kept
released_fits r t s s' ref st lt is kept = refused_fits (report.Released ref) r t s s' WrongState kept

-- remote clearing of a leg on a call
clears_call : (r : Roster) (t : Table) (s s' : Standings) (leg ref : ℕ) (st : State) → ref < 128 → Leg leg → (call_at t ref).state ≡ st → leads_to_leg leg st ≡ true → Kept r t s
    → Fits (report.RemoteClearing leg) r t s s' (by_event (with_state (call_at t ref) event.RemoteClearing (next_state event.RemoteClearing st)) (λ c. Ok (quiet (with_call ref c t) 1)))
clears_call r t s s' leg ref (Idle (end.Leg k)) lt below is leads kept = λ heard. kept_down s' leg ref _ _ lt (leads_on r.legs r.links t.calls leg ref kept.holds.calls_fit (rw is leads)) (placed_at leg down r.legs below) refl heard kept
clears_call r t s s' leg ref (Held (end.Leg k)) lt below is leads kept = λ heard. kept_down s' leg ref _ _ lt (leads_on r.legs r.links t.calls leg ref kept.holds.calls_fit (rw is leads)) (placed_at leg down r.legs below) refl heard kept
clears_call r t s s' leg ref st lt below is leads kept = refused_fits (report.RemoteClearing leg) r t s s' WrongState kept

-- remote clearing of a party
clears_party : (r : Roster) (t : Table) (s s' : Standings) (leg : ℕ) (q : Party) → Leg leg → In q t.parties → q.leg ≡ leg → Kept r t s
    → Fits (report.RemoteClearing leg) r t s s' (Ok (party_cleared t q))
clears_party r t s s' leg q below there is kept =
    let k = known r.legs t.parties q kept.holds.parties_fit there in
    let was : r.legs leg ≡ party q.conference q.id k.joined k.isolated = ap r.legs (sym is) ∙ k.entry in
    λ heard. sent_kept (disc_for t q (conference_with t q.conference)) (kept_gone s' leg q.conference q.id k.joined k.isolated _ was (placed_at leg down r.legs below) heard kept)
  where
    sent_kept : {r : Roster} {t : Table} {s : Standings} (d : Option Disc) → Kept r t s → Kept r (with_sent d t) s
    sent_kept None kept = kept
    sent_kept (Some d) kept = record { holds = kept.holds; number = kept.number }

-- remote clearing, by where the leg is
clearing_fits : (r : Roster) (t : Table) (s s' : Standings) (room leg : ℕ) (o : Option ℕ) (q : Option Party) → Leg leg → position (λ c. leads_to_leg leg c.state) t.calls ≡ o → find (λ p. eqb p.leg leg) t.parties ≡ q → Kept r t s
    → Fits (report.RemoteClearing leg) r t s s' (leg_cleared room t o q)
clearing_fits r t s s' room leg (Some ref) q below at_call at_party kept =
    let found = position-Some (λ c. leads_to_leg leg c.state) t.calls ref absent at_call in
    let long = kept.holds.calls_fit.long in
    clears_call r t s s' leg ref (call_at t ref).state (omega (arith, found.0)) below refl found.1 kept
clearing_fits r t s s' room leg None (Some p) below at_call at_party kept =
    let found = in_found (λ p. eqb p.leg leg) p t.parties at_party in
    unless_fits (report.RemoteClearing leg) r t s s' (leb (length (others t p.conference p.id)) room) NoRoom (Ok (party_cleared t p)) kept (λ roomy. clears_party r t s s' leg p below found.0 (eqb-true p.leg leg found.1) kept)
clearing_fits r t s s' room leg None None below at_call at_party kept = refused_fits (report.RemoteClearing leg) r t s s' WrongLeg kept

-- whatever is reported, the company is kept
pub report_kept : (r : Roster) (t : Table) (s s' : Standings) (room : ℕ) (rep : Report) → Kept r t s → Fits rep r t s s' (reported room rep t)
report_kept r t s s' room (report.Calling ref) kept =
    unless_fits (report.Calling ref) r t s s' (is_reference ref) OutOfRange _ kept (λ is. calling_fits r t s s' ref (call_at t ref).state (reference_below ref is) refl kept)
report_kept r t s s' room (report.Answer ref leg speech) kept =
    unless_fits (report.Answer ref leg speech) r t s s' (is_reference ref && is_leg leg) OutOfRange _ kept (λ is. let both = and_parts (is_reference ref) (is_leg leg) is in answer_fits r t s s' ref leg speech (call_at t ref).state (reference_below ref both.0) (a_leg leg both.1) refl kept)
report_kept r t s s' room (report.Hold ref) kept =
    unless_fits (report.Hold ref) r t s s' (is_reference ref) OutOfRange _ kept (λ is. hold_fits r t s s' ref (call_at t ref).state (reference_below ref is) refl kept)
report_kept r t s s' room (report.Retrieve ref) kept =
    unless_fits (report.Retrieve ref) r t s s' (is_reference ref) OutOfRange _ kept (λ is. retrieve_fits r t s s' ref (call_at t ref).state (reference_below ref is) refl kept)
report_kept r t s s' room (report.RemoteClearing leg) kept =
    unless_fits (report.RemoteClearing leg) r t s s' (is_leg leg) OutOfRange _ kept (λ is. clearing_fits r t s s' room leg (position (λ c. leads_to_leg leg c.state) t.calls) (find (λ p. eqb p.leg leg) t.parties) (a_leg leg is) refl refl kept)
report_kept r t s s' room (report.Disconnect ref) kept =
    unless_fits (report.Disconnect ref) r t s s' (is_reference ref) OutOfRange _ kept (λ is. disconnect_fits r t s s' ref (call_at t ref).state (reference_below ref is) refl kept)
report_kept r t s s' room (report.Released ref) kept =
    unless_fits (report.Released ref) r t s s' (is_reference ref) OutOfRange _ kept (λ is. released_fits r t s s' ref (call_at t ref).state (reference_below ref is) refl kept)
