-- What is told on a line, one notice after another. Assumes nothing.
use Rattle.std.specs.Prelude.{◌≡◌, ℕ, ◌+◌, ◌≤◌, List, length, All}
use Rattle.line.specs.Acts.{heard, notices_to}
use Rattle.line.specs.Order.{Telling}
use Rattle.line.specs.Meaning.{Leg, Standings}

-- each leg has heard, in order, what it was told
abbrev pub Heard : List Telling → Standings → Standings → Type 0
Heard told s s' = (k : ℕ) → s' k ≡ heard (notices_to k told) (s k)

-- what was told on a line: each leg has heard it, and the room has fallen by one a notice at most
pub record Delivered (told : List Telling) (s s' : Standings) (room room' : ℕ) : Type 0 where
  pub heard : Heard told s s'
  pub falls : room' ≤ room
  pub by_told : room ≤ room' + length told

-- all of it can be told: there is room for it, and each leg told is one that there is
pub record Tellable (told : List Telling) (room : ℕ) : Type 0 where
  pub roomy : length told ≤ room
  pub legs : All (λ telling. Leg telling.0) told
