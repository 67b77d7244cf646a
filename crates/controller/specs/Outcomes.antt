-- What the calls of the controller answer, and what they leave of the tables and the line. Assumes nothing.
use Rattle.std.specs.Prelude.{◌≡◌, ℕ, Ok, Err, Result}
use Rattle.components.specs.Message.{message_octets}
use Rattle.facility.specs.declared.request.RequestInvoke.{RequestInvoke}
use Rattle.line.specs.Meaning.{Same, Standings}
use Rattle.tables.specs.declared.refusal.Refusal.{Refusal}
use Rattle.tables.specs.Table.{Table}
use Rattle.controller.specs.declared.report.Acceptance.{Acceptance}
use Rattle.controller.specs.declared.pending.PendingReply.{PendingReply}
use Rattle.controller.specs.declared.pending.Reply.{Reply}
use Rattle.controller.specs.Replies.{Settled}
use Rattle.controller.specs.Reports.{Accepted}
use Rattle.controller.specs.Steps.{Effect}
use Rattle.controller.specs.Telling.{Delivered}

-- the request of a pending reply, with its invoke id
abbrev pub request_of : PendingReply → RequestInvoke
request_of p = record { id = p.id; request = p.request }

-- what an effect is of is done: the tables are those after it, and what it tells was told
pub record Done (e : Effect) (t' : Table) (s s' : Standings) (room room' : ℕ) : Type 0 where
  pub table : t' ≡ e.table
  pub line : Delivered e.told s s' room room'

-- nothing has changed
pub record Unchanged (t t' : Table) (s s' : Standings) (room room' : ℕ) : Type 0 where
  pub table : t' ≡ t
  pub standings : Same s s'
  pub as_roomy : room' ≡ room

-- a report, as the rules have it: accepted, and done; or refused, and then nothing changes
abbrev pub Reports : Result Accepted Refusal → Result Acceptance Refusal → Table → Table → Standings → Standings → ℕ → ℕ → Type 0
Reports (Ok a) answer t t' s s' room room' = (answer ≡ Ok (record { gone = a.effect.gone; disc = a.disc })) × Done a.effect t' s s' room room'
Reports (Err why) answer t t' s s' room room' = (answer ≡ Err why) × Unchanged t t' s s' room room'

-- a request settled, as the rules have it: the message body, the legs gone, and what is done
pub record Settles (x : Settled) (answer : Reply) (t' : Table) (s s' : Standings) (room room' : ℕ) : Type 0 where
  pub body : message_octets answer.message ≡ x.body
  pub gone : answer.gone ≡ x.effect.gone
  pub done : Done x.effect t' s s' room room'
