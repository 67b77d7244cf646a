-- Octets whose structure was checked: the values in a component, and one of them. Assumes nothing.
use Rattle.std.specs.Prelude.{◌≡◌, ℕ, ◌+◌, ◌≤◌, List, length, None}
use Rattle.components.specs.declared.component.Parameter.{Parameter}
use Rattle.ber.specs.Structure.{bad_value, bad_list}
use Rattle.ber.specs.Value.{size}

-- well-structured values, within an element; a component leaves seven levels to the values in it
pub record Left (place : ℕ) (xs : List ℕ) : Type 0 where
  pub well : bad_list 7 place xs ≡ None
  pub within : place + length xs ≤ 132

-- one well-structured value, within an element
pub record Well (p : Parameter) : Type 0 where
  pub well : bad_value 7 p.place p.octets.now ≡ None
  pub whole : size p.octets.now ≡ length p.octets.now
  pub within : p.place + length p.octets.now ≤ 132
