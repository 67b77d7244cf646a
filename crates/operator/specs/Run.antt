-- Histories: steps on a new controller and a collected line, in any order, each with its answer. Assumes nothing.
use Rattle.std.specs.Prelude.{◌≡◌, ℕ, ◌≤◌, List, [], ◌∷◌, ◌++◌, fold}
use Rattle.line.specs.Meaning.{Standings}
use Rattle.tables.specs.declared.level.Level.{Level}
use Rattle.tables.specs.Table.{Table}
use Rattle.controller.specs.Telling.{Heard}
use Rattle.operator.specs.declared.steps.Step.{Step}
use Rattle.operator.specs.Company.{Company}
use Rattle.operator.specs.Roster.{Roster, empty, written}
use Rattle.operator.specs.Turns.{Answer, turn, RoomAfter, new_table}

-- a step, and what it was answered
abbrev pub Turned : Type 0
Turned = Step × Answer

-- the roster that a history writes
abbrev pub roster_after : List Turned → Roster
roster_after h = fold (λ r turned. written turned.0 turned.1 r) empty h

-- a history at a level, and the tables, the standings and the room of the line to which it led. At the start the standings are
-- anything; each step answers and does what its turn is at the tables and the room before it
pub data Run (level : Level) : List Turned → Table → Standings → ℕ → Type 0 where
  start : (s : Standings) (room : ℕ) → 64 ≤ room → Run level [] new_table s room
  next : (h : List Turned) (t : Table) (s s' : Standings) (room room' : ℕ) (step : Step)
      → Run level h t s room
      → Heard (turn level room step t).effect.told s s' → RoomAfter step (turn level room step t).effect room room'
      → Run level (h ++ ((step, (turn level room step t).answer) ∷ [])) (turn level room step t).effect.table s' room'

-- a step and its answer carry on whatever history led to the tables and the line, and the company law holds then
pub record GoesOn (level : Level) (step : Step) (answer : Answer) (t t' : Table) (s s' : Standings) (room room' : ℕ) : Type 0 where
  pub run : (h : List Turned) → Run level h t s room → Run level (h ++ ((step, answer) ∷ [])) t' s' room'
  pub law : (h : List Turned) → Run level h t s room → Company (roster_after (h ++ ((step, answer) ∷ []))) t' s'

-- a step is taken: it is answered as its turn is, and what that does is done
pub record Taken (level : Level) (step : Step) (answer : Answer) (t t' : Table) (s s' : Standings) (room room' : ℕ) : Type 0 where
  pub answered : answer ≡ (turn level room step t).answer
  pub table : t' ≡ (turn level room step t).effect.table
  pub heard : Heard (turn level room step t).effect.told s s'
  pub roomy : RoomAfter step (turn level room step t).effect room room'
