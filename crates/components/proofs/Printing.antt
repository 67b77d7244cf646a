-- The text of what may be absent. Assumes nothing.
use Rattle.std.proofs.Common.{◌≡◌, ℕ, List, Some, None, Option, refl}
use Rattle.std.specs.Option.{option_map}
use Rattle.components.specs.Wording.{spaced, spaced_text}

-- what may be absent prints as the text of what is said of it
pub spaced_said : {X Y : Type 0} (shown : X → Y) (text : Y → List ℕ) (o : Option X) → spaced (λ x. Some (text (shown x))) o ≡ Some (spaced_text text (option_map shown o))
spaced_said shown text None = refl
spaced_said shown text (Some x) = refl
