-- What waits on an outbox of 128 messages, step after step. Assumes nothing.
use Rattle.std.specs.Prelude.{◌≡◌, ℕ, ◌-◌, List, [], ◌++◌, length}
use Rattle.line.specs.Meaning.{Standings}
use Rattle.line.specs.Outboxes.{messages}
use Rattle.tables.specs.declared.level.Level.{Level}
use Rattle.tables.specs.Table.{Table}
use Rattle.controller.specs.Steps.{Effect}
use Rattle.operator.specs.declared.steps.Step.{Step}
use Rattle.operator.specs.declared.steps.Step.TheVariants as step
use Rattle.operator.specs.Run.{Run, start, next, Turned}
use Rattle.operator.specs.Turns.{turn}

-- the messages that wait once a step is taken: what it told behind what waited; none once that is collected
abbrev pub waits_after : Step → Effect → List (List ℕ) → List (List ℕ)
waits_after step.Collected e ws = []
waits_after _ e ws = ws ++ messages e.told

-- the room that they leave
abbrev pub room_left : List (List ℕ) → ℕ
room_left ws = 128 - length ws

-- a history on an outbox, and what waits there at its end: nothing at the start; each step is taken at the room that is left then
abbrev pub OnOutbox : {level : Level} {h : List Turned} {t : Table} {s : Standings} {room : ℕ} → Run level h t s room → List (List ℕ) → Type 0
OnOutbox (start s room roomy) ws = (ws ≡ []) × (room ≡ room_left [])
OnOutbox {level} (next h t s s' room room' st run heard after) ws' =
    (ws : List (List ℕ)) × OnOutbox run ws × (ws' ≡ waits_after st (turn level room st t).effect ws) × (room' ≡ room_left ws')
