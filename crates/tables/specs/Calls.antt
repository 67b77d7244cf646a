-- The states of a call, and what each event makes of them. Assumes nothing.
use Rattle.std.specs.Prelude.{ℕ, Bool, false, ◌==◌, Some, None, Option}
use Rattle.tables.specs.declared.call.Call.{Call}
use Rattle.tables.specs.declared.call.End.TheVariants as end
use Rattle.tables.specs.declared.call.Event.{Event}
use Rattle.tables.specs.declared.call.Event.TheVariants as event
use Rattle.tables.specs.declared.call.State.{State}
use Rattle.tables.specs.declared.call.State.TheVariants.{Absent, Calling, Idle, Held, Clearing}

abbrev pub absent : Call
absent = record { state = Absent; speech = false }

-- the state after an event, by state and event; none where the event does not belong to the state
abbrev pub next_state : Event → State → Option State
next_state event.Calling Absent = Some Calling
next_state (event.Answer leg speech) Calling = Some (Idle (end.Leg leg))
next_state event.Hold (Idle to) = Some (Held to)
next_state event.Retrieve (Held to) = Some (Idle to)
next_state event.RemoteClearing (Idle (end.Leg leg)) = Some Clearing
next_state event.RemoteClearing (Held (end.Leg leg)) = Some Clearing
next_state event.Disconnect Calling = Some Clearing
next_state event.Disconnect (Idle to) = Some Clearing
next_state event.Disconnect (Held to) = Some Clearing
next_state event.Released Clearing = Some Absent
next_state _ _ = None

-- whether the call carries speech is said when it is answered, and forgotten when it is released
abbrev pub next_speech : Event → Bool → Bool
next_speech (event.Answer leg speech) _ = speech
next_speech event.Released _ = false
next_speech _ was = was

abbrev pub with_state : Call → Event → Option State → Option Call
with_state c e None = None
with_state c e (Some s) = Some (record { state = s; speech = next_speech e c.speech })

abbrev pub next_call : Event → Call → Option Call
next_call e c = with_state c e (next_state e c.state)

-- the leg, or the conference, that an idle or held call leads to
abbrev pub own_leg : State → Option ℕ
own_leg (Idle (end.Leg k)) = Some k
own_leg (Held (end.Leg k)) = Some k
own_leg _ = None

abbrev pub leads_to_conference : State → Option ℕ
leads_to_conference (Idle (end.Conference id)) = Some id
leads_to_conference (Held (end.Conference id)) = Some id
leads_to_conference _ = None

-- whether it leads to a leg
abbrev pub leads_to_leg : ℕ → State → Bool
leads_to_leg k (Idle (end.Leg leg)) = leg == k
leads_to_leg k (Held (end.Leg leg)) = leg == k
leads_to_leg k _ = false
