use Rattle.std.proofs.Common.{◌≡◌, ℕ, ◌+◌, ◌-◌, Bool, not}
use Rattle.std.specs.List.{find, range_with_len}
use Rattle.tables.specs.Closures.{Tells}
use Rattle.tables.proofs.circle.first_unused.Given as goal

-- the first of all is the first of those that are left
abbrev pub invariant-loop-id : goal.invariant-loop-id
invariant-loop-id g l =
    (is_used : ℕ → Bool) → Tells (goal.F-post g l.used) is_used → find (λ i. not (is_used i)) (range_with_len l.fn.from (l.to + 1 - l.fn.from)) ≡ find (λ i. not (is_used i)) (range_with_len l.id (l.to + 1 - l.id))
