-- The window over the octets that are still to be read, and what a check leaves of it. Assumes nothing.
use Rattle.std.specs.Prelude.{◌≡◌, ℕ, ◌+◌, ◌≤◌, List, length, drop, Some, None, Ok, Err, Result}
use Rattle.std.specs.List.{between}
use Rattle.ber.specs.declared.window.BadValue.{BadValue}
use Rattle.ber.specs.declared.window.Window.{Window}
use Rattle.ber.specs.Structure.{bad_value, bad_list}
use Rattle.ber.specs.Value.{size}

-- the window lies within the octets
abbrev pub Within : Window → Type 0
Within w = (w.pos ≤ w.end) × (w.end ≤ length w.octets.now)

-- the octets that it shows
abbrev pub shown : Window → List ℕ
shown w = between w.pos w.end w.octets.now

-- it shows the same octets still, up to the same end
pub record Kept (before after : Window) : Type 0 where
  pub octets : after.octets ≡ before.octets
  pub end : after.end ≡ before.end

-- the value at the front is well and was passed over, or the place of its first fault is answered
abbrev pub ValueChecked : ℕ → Window → Window → Result (Unit {0}) BadValue → Type 0
ValueChecked levels before after (Ok _) =
    (bad_value levels before.pos (shown before) ≡ None) × ((after.pos ≡ before.pos + size (shown before)) × (after.pos ≤ before.end))
ValueChecked levels before after (Err bad) = bad_value levels before.pos (shown before) ≡ Some bad.place

-- all values are well and were passed over, or the place of the first fault is answered
abbrev pub ListChecked : ℕ → Window → Window → Result (Unit {0}) BadValue → Type 0
ListChecked levels before after (Ok _) = (bad_list levels before.pos (shown before) ≡ None) × (after.pos ≡ before.end)
ListChecked levels before after (Err bad) = bad_list levels before.pos (shown before) ≡ Some bad.place

-- the same of a value that stands at a place: the place behind it, or that of its first fault
abbrev pub StructureChecked : ℕ → ℕ → List ℕ → Result ℕ BadValue → Type 0
StructureChecked levels place xs (Ok end) =
    (bad_value levels place (drop place xs) ≡ None) × (end ≡ place + size (drop place xs)) × (end ≤ length xs)
StructureChecked levels place xs (Err bad) = bad_value levels place (drop place xs) ≡ Some bad.place
