-- What a granted request does: to the tables, to the line, and to the legs. Assumes nothing.
use Rattle.std.specs.Prelude.{ℕ, Bool, true, false, cond, [], ◌∷◌}
use Rattle.line.specs.declared.notice.Notice.{Notice}
use Rattle.line.specs.declared.notice.Notice.TheVariants.{Established, Disconnected, OtherAdded, OtherSplit, OtherDisconnected}
use Rattle.tables.specs.declared.call.End.TheVariants as end
use Rattle.tables.specs.declared.call.State.{State}
use Rattle.tables.specs.declared.call.State.TheVariants.{Idle, Held, Clearing}
use Rattle.tables.specs.declared.conference.Mark.{Mark}
use Rattle.tables.specs.declared.conference.Mark.TheVariants as mark
use Rattle.tables.specs.declared.conference.Party.{Party}
pub use Rattle.tables.specs.Edits.{new_conference}
use Rattle.tables.specs.Edits.{with_call, with_begun, with_joined, with_left, with_marked}
use Rattle.tables.specs.Table.{Table, call_at, parties_of}
use Rattle.controller.specs.Steps.{Effect, each, others}

-- nothing is changed, told or gone
abbrev pub nothing : Table → Effect
nothing t = record { table = t; told = []; gone = 0 }

-- the call leads to a conference now, idle or held as it was
abbrev pub led_to : ℕ → State → State
led_to id (Held to) = Held (end.Conference id)
led_to id _ = Idle (end.Conference id)

-- begun by SETUP: the call is idle, and the link of a conference without parties
abbrev pub begun_by_setup : ℕ → ℕ → ℕ → Table → Effect
begun_by_setup id size r t = nothing (with_begun (new_conference id size r) (with_call r (record { state = Idle (end.Conference id); speech = true }) t))

-- begun on a call in progress: its leg becomes the first party, and the call the link
abbrev pub begun_on_call : ℕ → ℕ → ℕ → ℕ → Table → Effect
begun_on_call id size r leg t =
    let c = call_at t r in
    record {
      table = with_joined id 0 leg (with_begun (new_conference id size r) (with_call r (record { state = led_to id c.state; speech = c.speech }) t));
      told = (leg, Established) ∷ [];
      gone = 0;
    }

-- added: the call's leg becomes a party, the call is cleared, and the others hear of it
abbrev pub added : ℕ → ℕ → ℕ → ℕ → Table → Effect
added id p r leg t = record {
  table = with_joined id p leg (with_call r (record { state = Clearing; speech = (call_at t r).speech }) t);
  told = (leg, Established) ∷ each OtherAdded (parties_of t id);
  gone = 0;
}

-- split off: the party is on a call of two parties again
abbrev pub split : ℕ → Party → ℕ → Table → Effect
split id p r t = record {
  table = with_left id p.id (with_call r (record { state = Idle (end.Leg p.leg); speech = true }) t);
  told = (p.leg, Disconnected) ∷ each OtherSplit (others t id p.id);
  gone = 0;
}

-- dropped: the leg goes down
abbrev pub dropped : ℕ → Party → Table → Effect
dropped id p t = record { table = with_left id p.id t; told = each OtherDisconnected (others t id p.id); gone = 1 }

-- isolated or reattached; one who is so already stays so, and nobody hears of it
abbrev pub same_mark : Mark → Mark → Bool
same_mark mark.Joined mark.Joined = true
same_mark mark.Isolated mark.Isolated = true
same_mark _ _ = false

abbrev pub remarked : Mark → Notice → Notice → ℕ → Party → Table → Effect
remarked m own other id p t =
    cond (same_mark p.mark m) (nothing t)
    (record { table = with_marked id p.id m t; told = (p.leg, own) ∷ each other (others t id p.id); gone = 0 })
