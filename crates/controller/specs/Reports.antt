-- What each report does, or why it is refused. Assumes nothing.
use Rattle.std.specs.Prelude.{ℕ, Bool, cond, not, ◌&&◌, List, [], length, Some, None, Ok, Err, Option, Result, nat_le}
use Rattle.line.specs.declared.notice.Notice.{Notice}
use Rattle.line.specs.declared.notice.Notice.TheVariants.{OtherDisconnected}
use Rattle.tables.specs.declared.call.Call.{Call}
use Rattle.tables.specs.declared.call.End.TheVariants as end
use Rattle.tables.specs.declared.call.Event.TheVariants as event
use Rattle.tables.specs.declared.call.State.{State}
use Rattle.tables.specs.declared.call.State.TheVariants.{Idle, Held}
use Rattle.tables.specs.declared.conference.Conference.{Conference}
use Rattle.tables.specs.declared.conference.Party.{Party}
use Rattle.tables.specs.declared.conference.Phase.{Phase}
use Rattle.tables.specs.declared.conference.Phase.TheVariants.{Open, Ending}
use Rattle.tables.specs.declared.refusal.Refusal.{Refusal}
use Rattle.tables.specs.declared.refusal.Refusal.TheVariants.{OutOfRange, WrongState, WrongLeg, NoRoom}
use Rattle.tables.specs.Calls.{next_call}
use Rattle.tables.specs.Edits.{with_call, with_left, with_phase, with_ended, with_disc}
use Rattle.tables.specs.Table.{Table, call_at, call_to, conference_with, is_up, linked_to, next_disc, parties_of, party_on}
use Rattle.controller.specs.Steps.{Effect, is_reference, is_leg, each, others}
pub use Rattle.controller.specs.declared.disc.Disc.{Disc}
use Rattle.controller.specs.declared.report.Report.{Report}
use Rattle.controller.specs.declared.report.Report.TheVariants as report

-- what an accepted report does, and the PartyDISC that it sends, if any
pub record Accepted : Type 0 where
  pub effect : Effect
  pub disc : Option Disc

abbrev pub quiet : Table → ℕ → Accepted
quiet t gone = record { effect = record { table = t; told = []; gone = gone }; disc = None }

-- refused unless the test holds
abbrev pub unless : Bool → Refusal → Result Accepted Refusal → Result Accepted Refusal
unless ok why go = cond ok go (Err why)

-- an event of the call at a reference, and what more is done then
abbrev pub by_event : Option Call → (Call → Result Accepted Refusal) → Result Accepted Refusal
by_event None more = Err WrongState
by_event (Some c) more = more c

-- how many legs are gone when a call is disconnected: its own leg
abbrev pub leg_gone : State → ℕ
leg_gone (Idle (end.Leg k)) = 1
leg_gone (Held (end.Leg k)) = 1
leg_gone _ = 0

-- a call that is disconnected; the conference of a link is then Ending
abbrev pub disconnected : State → Table → Table
disconnected (Idle (end.Conference id)) t = with_phase id Ending t
disconnected (Held (end.Conference id)) t = with_phase id Ending t
disconnected _ t = t

-- a call that is released; the conference of a link ends, with all its parties
abbrev pub released : Option Conference → Table → Accepted
released None t = quiet t 0
released (Some c) t = quiet (with_ended c.id t) (length (parties_of t c.id))

-- the PartyDISC for a party: only the link of an Open conference is sent it
abbrev pub disc_for : Table → Party → Option Conference → Option Disc
disc_for t p None = None
disc_for t p (Some c) = by_phase c.phase
  where
    by_phase : Phase → Option Disc
    by_phase Open = Some (record { link = c.link; party = p.id; id = next_disc t })
    by_phase Ending = None

-- an invoke id that was given is then the last given
abbrev pub with_sent : Option Disc → Table → Table
with_sent None t = t
with_sent (Some d) t = with_disc d.id t

-- a party clears: it leaves its conference, and the others hear of it
abbrev pub party_cleared : Table → Party → Accepted
party_cleared t p =
    let disc = disc_for t p (conference_with t p.conference) in
    record {
      effect = record {
        table = with_sent disc (with_left p.conference p.id t);
        told = each OtherDisconnected (others t p.conference p.id);
        gone = 1;
      };
      disc = disc;
    }

-- the remote user of a leg clears: a party whose others there is no room to tell is refused
abbrev pub leg_cleared : ℕ → Table → Option ℕ → Option Party → Result Accepted Refusal
leg_cleared room t (Some r) q = by_event (next_call event.RemoteClearing (call_at t r)) (λ c. Ok (quiet (with_call r c t) 1))
leg_cleared room t None (Some p) = unless (nat_le (length (others t p.conference p.id)) room) NoRoom (Ok (party_cleared t p))
leg_cleared room t None None = Err WrongLeg

-- what a report tells
abbrev pub told_in : Result Accepted Refusal → List (ℕ × Notice)
told_in (Ok a) = a.effect.told
told_in (Err why) = []

-- the reference and the leg that a report names are in range
abbrev pub in_range : Report → Bool
in_range (report.Calling r) = is_reference r
in_range (report.Answer r leg speech) = is_reference r && is_leg leg
in_range (report.Hold r) = is_reference r
in_range (report.Retrieve r) = is_reference r
in_range (report.RemoteClearing leg) = is_leg leg
in_range (report.Disconnect r) = is_reference r
in_range (report.Released r) = is_reference r

-- what each report does: first a number out of range is refused, then a wrong state, then a wrong leg, then a line without room
abbrev pub reported : ℕ → Report → Table → Result Accepted Refusal
reported room (report.Calling r) t =
    unless (is_reference r) OutOfRange (by_event (next_call event.Calling (call_at t r)) (λ c. Ok (quiet (with_call r c t) 0)))
reported room (report.Answer r leg speech) t =
    unless (is_reference r && is_leg leg) OutOfRange
    (by_event (next_call (event.Answer leg speech) (call_at t r)) (λ c. unless (not (is_up leg t)) WrongLeg (Ok (quiet (with_call r c t) 0))))
reported room (report.Hold r) t =
    unless (is_reference r) OutOfRange (by_event (next_call event.Hold (call_at t r)) (λ c. Ok (quiet (with_call r c t) 0)))
reported room (report.Retrieve r) t =
    unless (is_reference r) OutOfRange (by_event (next_call event.Retrieve (call_at t r)) (λ c. Ok (quiet (with_call r c t) 0)))
reported room (report.RemoteClearing leg) t =
    unless (is_leg leg) OutOfRange (leg_cleared room t (call_to t leg) (party_on t leg))
reported room (report.Disconnect r) t =
    unless (is_reference r) OutOfRange
    (by_event (next_call event.Disconnect (call_at t r)) (λ c. Ok (quiet (disconnected (call_at t r).state (with_call r c t)) (leg_gone (call_at t r).state))))
reported room (report.Released r) t =
    unless (is_reference r) OutOfRange (by_event (next_call event.Released (call_at t r)) (λ c. Ok (released (linked_to t r) (with_call r c t))))
