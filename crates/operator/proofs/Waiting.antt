-- What waits on an outbox is what was told since the last collection.
use Rattle.std.proofs.Common.{◌≡◌, ℕ, List, [], ◌∷◌, ap, refl, ◌∙◌}
use Rattle.line.specs.declared.outbox.Outbox.{Outbox}
use Rattle.line.specs.Meaning.{Standings}
use Rattle.line.specs.Outboxes.{OutboxCollects, OutboxTells, waiting}
use Rattle.line.proofs.Orders.{waits_behind}
use Rattle.tables.specs.declared.level.Level.{Level}
use Rattle.tables.specs.Table.{Table}
use Rattle.controller.specs.Steps.{Effect}
use Rattle.operator.specs.declared.steps.Step.{Step}
use Rattle.operator.specs.declared.steps.Step.TheVariants as step
use Rattle.operator.specs.Run.{Run, start, next, Turned}
use Rattle.operator.specs.Turns.{DoesOnLine}
use Rattle.operator.specs.Waits.{OnOutbox, room_left, waits_after}

-- after a step
pub waits_on : (st : Step) (e : Effect) (o o' : Outbox) → DoesOnLine OutboxTells OutboxCollects st e o o' → waiting o' ≡ waits_after st e (waiting o)
waits_on step.Collected e o o' does = does.handed_over
waits_on (step.Reported report) e o o' does = waits_behind does
waits_on (step.Settled carrier asked) e o o' does = waits_behind does
waits_on (step.TurnedAway carrier asked) e o o' does = waits_behind does

-- at the start nothing waits
pub on_outbox_none : {level : Level} {t : Table} {s : Standings} {room : ℕ} (run : Run level [] t s room) (ws : List (List ℕ)) → ws ≡ [] → room ≡ room_left ws → OnOutbox run ws
on_outbox_none {level} run ws none left = go run refl ws none left
  where
    go : {h : List Turned} {t : Table} {s : Standings} {room : ℕ} (run : Run level h t s room) → h ≡ [] → (ws : List (List ℕ)) → ws ≡ [] → room ≡ room_left ws → OnOutbox run ws
    go (start s room roomy) empty ws none left = (none, left ∙ ap room_left none)
    go (next [] t s s' room room' st run hears after) empty ws none left = cc
    go (next (turned ∷ h) t s s' room room' st run hears after) empty ws none left = cc
