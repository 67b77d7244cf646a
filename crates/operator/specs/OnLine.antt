-- Steps taken in one call, on a line of any kind. Assumes nothing.
use Rattle.std.specs.Prelude.{◌≡◌, ℕ, List, [], ◌∷◌, ◌++◌, map}
use Rattle.line.specs.declared.notice.Notice.{Notice}
use Rattle.line.specs.Meaning.{Same, Standings}
use Rattle.tables.specs.declared.level.Level.{Level}
use Rattle.tables.specs.Table.{Table}
use Rattle.operator.specs.declared.steps.Step.{Step}
use Rattle.operator.specs.Company.{Company}
use Rattle.operator.specs.Roster.{empty}
use Rattle.operator.specs.Run.{roster_after, Run, Turned}
use Rattle.operator.specs.Turns.{Answer, turn, DoesOnLine, RoomAfter, new_table}
use Rattle.controller.specs.Telling.{Heard}

-- a history of one call, from the line at entry to the line that it left: the line was collected, with its standings; then each
-- step was answered as its turn is at the tables and at the room that the line really had, and did just that to the line, so
-- nothing is told beyond it
pub data RunOn {L : Type 0} (standing : L → Standings) (room : L → ℕ) (tells : L → ℕ → Notice → L → Type 0) (collects : L → L → Type 0) (level : Level) (entry : L) : List Turned → Table → L → Type 0 where
  collected : (l : L) → collects entry l → Same (standing entry) (standing l) → RunOn standing room tells collects level entry [] new_table l
  then : (h : List Turned) (t : Table) (l l' : L) (step : Step)
      → RunOn standing room tells collects level entry h t l
      → DoesOnLine tells collects step (turn level (room l) step t).effect l l'
      → Heard (turn level (room l) step t).effect.told (standing l) (standing l') → RoomAfter step (turn level (room l) step t).effect (room l) (room l')
      → RunOn standing room tells collects level entry (h ++ ((step, (turn level (room l) step t).answer) ∷ [])) (turn level (room l) step t).effect.table l'

-- the company law at the start of such a call and after each of its steps, of the tables and the line as they were then
abbrev pub HoldsThroughout : {L : Type 0} {standing : L → Standings} {room : L → ℕ} {tells : L → ℕ → Notice → L → Type 0} {collects : L → L → Type 0} {level : Level} {entry : L} {h : List Turned} {t : Table} {l : L}
    → RunOn standing room tells collects level entry h t l → Type 0
HoldsThroughout {standing = standing} (collected l does kept) = Company empty new_table (standing l)
HoldsThroughout {standing = standing} {room = room} {level = level} (then h t l l' step run does heard after) =
    HoldsThroughout run × Company (roster_after (h ++ ((step, (turn level (room l) step t).answer) ∷ []))) (turn level (room l) step t).effect.table (standing l')

-- so a list of steps was taken, answered in order, and the company law held throughout
pub record TakesAll {L : Type 0} (standing : L → Standings) (room : L → ℕ) (tells : L → ℕ → Notice → L → Type 0) (collects : L → L → Type 0) (level : Level) (steps : List Step) (answers : List Answer) (entry : L) (t : Table) (l : L) : Type 0 where
  pub history : List Turned
  pub taken : map (λ turned. turned.0) history ≡ steps
  pub answered : map (λ turned. turned.1) history ≡ answers
  pub run : RunOn standing room tells collects level entry history t l
  pub leads : Run level history t (standing l) (room l)
  pub law : HoldsThroughout run
