-- What an accepted report comes to, once all that it needs is looked up. Assumes nothing.
use Rattle.std.specs.Prelude.{length, Ok, Err, Result}
use Rattle.line.specs.declared.notice.Notice.TheVariants.{OtherDisconnected}
use Rattle.tables.specs.declared.conference.Phase.TheVariants as phase
use Rattle.tables.specs.declared.refusal.Refusal.{Refusal}
use Rattle.tables.specs.Edits.{with_call, with_left, with_phase, with_ended}
use Rattle.tables.specs.Table.{Table, parties_of}
use Rattle.controller.specs.declared.change.Change.{Change}
use Rattle.controller.specs.declared.change.Change.TheVariants.{Call, Ending, End, Leave}
use Rattle.controller.specs.Reports.{Accepted, quiet, with_sent}
use Rattle.controller.specs.Steps.{each, others}

-- what each change does
abbrev pub change_accepted : Table → Change → Accepted
change_accepted t (Call r c gone) = quiet (with_call r c t) gone
change_accepted t (Ending r c id) = quiet (with_phase id phase.Ending (with_call r c t)) 0
change_accepted t (End r c id) = quiet (with_ended id (with_call r c t)) (length (parties_of t id))
change_accepted t (Leave id p disc) = record {
  effect = record { table = with_sent disc (with_left id p t); told = each OtherDisconnected (others t id p); gone = 1 };
  disc = disc;
}

-- a report that is refused is answered so
abbrev pub outcome : Table → Result Change Refusal → Result Accepted Refusal
outcome t (Ok c) = Ok (change_accepted t c)
outcome t (Err why) = Err why
