-- The circles of ids, from 0 to 127. Assumes nothing.
use Rattle.std.specs.Prelude.{ℕ, ◌+◌, ◌-◌, Bool, not, List, ◌++◌, unwrap_or}
use Rattle.std.specs.List.{find, range_with_len}

-- the ids in the order in which they come after one: up to 127, and then from 0 on to that one again
abbrev pub ids_after : ℕ → List ℕ
ids_after last = range_with_len (last + 1) (127 - last) ++ range_with_len 0 (last + 1)

-- the next id after the last given is the first that is not in use; where all are, it is the last again, with which they end
abbrev pub next_id : ℕ → (ℕ → Bool) → ℕ
next_id last used = unwrap_or (find (λ i. not (used i)) (ids_after last)) last
