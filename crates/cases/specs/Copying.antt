-- What copying an element leaves in the memory. Assumes nothing.
use Rattle.std.specs.Prelude.{◌≡◌, ℕ, ◌≤◌, Bool, true, false, List, ◌++◌, length, drop, Ok}
use Rattle.components.specs.Component.{Said}
use Rattle.components.specs.Reading.{reading}

-- the memory begins with the octets, or is as it was; and the octets are copied wherever they read and there is room
pub record Copies (xs before after : List ℕ) (r : Bool) : Type 0 where
  pub done : r ≡ true → after ≡ xs ++ drop (length xs) before
  pub refused : r ≡ false → after ≡ before
  pub always : (s : Said) → reading xs ≡ Ok s → length xs ≤ length before → r ≡ true
