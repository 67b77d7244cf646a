-- Which values are well structured, and else which is the first that is not, in reading order: a value comes before its
-- contents, and its contents before its neighbour. A place counts octets from the start of the element. Assumes nothing.
use Rattle.std.specs.Prelude.{ℕ, zero, suc, ◌+◌, cond, List, [], ◌∷◌, Some, None, Option, slice_index}
use Rattle.ber.specs.Value.{begins_with_value, is_constructed, tag, front, contents}

-- the first place found, or else what comes after
abbrev pub or_else : Option ℕ → Option ℕ → Option ℕ
or_else (Some p) later = Some p
or_else None later = later

-- the first fault of a list of values, by the first fault of the value at the front.
-- `passed` octets at the front still belong to the value before.
unfoldable pub first_bad : (ℕ → List ℕ → Option ℕ) → ℕ → ℕ → List ℕ → Option ℕ
first_bad bad passed place [] = None
first_bad bad zero place (x ∷ xs) = or_else (bad place (x ∷ xs)) (first_bad bad (suc (slice_index xs 0)) (suc place) xs)
first_bad bad (suc passed) place (x ∷ xs) = first_bad bad passed (suc place) xs

-- the first fault of the value at the front, for which `levels` of nesting are left: it is nested too deep, it is not
-- held whole, or its contents are at fault
unfoldable pub bad_value : ℕ → ℕ → List ℕ → Option ℕ
bad_value zero place xs = Some place
bad_value (suc levels) place xs =
    cond (begins_with_value xs)
    (cond (is_constructed (tag xs)) (first_bad (bad_value levels) 0 (place + 2) (contents xs)) None)
    (Some place)

-- the first fault of a list of values: a list is empty, or a value and a list
unfoldable pub bad_list : ℕ → ℕ → List ℕ → Option ℕ
bad_list levels place xs = first_bad (bad_value levels) 0 place xs

-- one value of an element: its octets, and the place of the first of them
pub record Part : Type 0 where
  pub octets : List ℕ
  pub place : ℕ

-- the values that well-structured octets hold, one behind the other, the first of them at a place.
-- `passed` octets at the front still belong to the value before.
unfoldable pub values_after : ℕ → ℕ → List ℕ → List Part
values_after passed place [] = []
values_after zero place (x ∷ xs) = record { octets = front (x ∷ xs); place = place } ∷ values_after (suc (slice_index xs 0)) (suc place) xs
values_after (suc passed) place (x ∷ xs) = values_after passed (suc place) xs

unfoldable pub values : ℕ → List ℕ → List Part
values place xs = values_after 0 place xs
