-- What each step answers and does. Assumes nothing.
use Rattle.std.specs.Prelude.{ℕ, ◌+◌, ◌≤◌, cond, List, length, None, Ok, Err, Option, Result}
use Rattle.line.specs.declared.notice.Notice.{Notice}
use Rattle.line.specs.Order.{TellsInOrder}
use Rattle.tables.specs.declared.level.Level.{Level}
use Rattle.tables.specs.declared.refusal.Refusal.{Refusal}
use Rattle.tables.specs.declared.refusal.Refusal.TheVariants.{OutOfRange}
use Rattle.tables.specs.Table.{Table, empty}
use Rattle.facility.specs.declared.request.RequestInvoke.{RequestInvoke}
use Rattle.controller.specs.declared.carrier.Carrier.{Carrier}
use Rattle.controller.specs.Granting.{nothing}
use Rattle.controller.specs.Judging.{reference_of}
use Rattle.controller.specs.Replies.{Settled, settled, turned_away}
use Rattle.controller.specs.Reports.{Accepted, reported}
use Rattle.controller.specs.declared.disc.Disc.{Disc}
use Rattle.controller.specs.Steps.{Effect, is_reference}
use Rattle.operator.specs.declared.steps.Step.{Step}
use Rattle.operator.specs.declared.steps.Step.TheVariants as step

-- an answer: a refusal; a step done, how many legs are gone, and the PartyDISC that is sent, if any; the message body that answers
-- a request, and how many legs are gone
pub data Answer : Type 0 where
  refused : (why : Refusal) → Answer
  done : (gone : ℕ) (disc : Option Disc) → Answer
  replied : (body : List ℕ) (gone : ℕ) → Answer

-- a step's answer, and what it does
pub record Turn : Type 0 where
  pub answer : Answer
  pub effect : Effect

-- a refusal does nothing
abbrev pub refusal : Refusal → Table → Turn
refusal why t = record { answer = refused why; effect = nothing t }

-- a report, accepted or refused
abbrev pub report_turn : Result Accepted Refusal → Table → Turn
report_turn (Ok a) t = record { answer = done a.effect.gone a.disc; effect = a.effect }
report_turn (Err why) t = refusal why t

-- a request, answered by a message
abbrev pub reply_turn : Settled → Turn
reply_turn s = record { answer = replied s.body s.effect.gone; effect = s.effect }

-- the answer to a request that is turned away
abbrev pub away_answer : Carrier → RequestInvoke → Answer
away_answer carrier asked = cond (is_reference (reference_of carrier)) (replied (turned_away asked) 0) (refused OutOfRange)

-- the turn that a step is, on a line with some room: a request that came with a reference out of range is refused first
abbrev pub turn : Level → ℕ → Step → Table → Turn
turn level room (step.Reported report) t = report_turn (reported room report t) t
turn level room (step.Settled carrier asked) t =
    cond (is_reference (reference_of carrier)) (reply_turn (settled level room carrier asked t)) (refusal OutOfRange t)
turn level room (step.TurnedAway carrier asked) t =
    record { answer = away_answer carrier asked; effect = nothing t }
turn level room step.Collected t = record { answer = done 0 None; effect = nothing t }

-- the room after a step: each notice takes one at most, and a collection leaves room for 64
abbrev pub RoomAfter : Step → Effect → ℕ → ℕ → Type 0
RoomAfter step.Collected e room room' = 64 ≤ room'
RoomAfter _ e room room' = (room' ≤ room) × (room ≤ room' + length e.told)

-- what a step does to a line of any kind: it tells what its turn tells, in order, and nothing else; or it collects
abbrev pub DoesOnLine : {L : Type 0} → (L → ℕ → Notice → L → Type 0) → (L → L → Type 0) → Step → Effect → L → L → Type 0
DoesOnLine tells collects step.Collected e l l' = collects l l'
DoesOnLine tells collects _ e l l' = TellsInOrder tells e.told l l'

-- the tables of a new controller: calls absent, legs down, no conference
abbrev pub new_table : Table
new_table = empty
