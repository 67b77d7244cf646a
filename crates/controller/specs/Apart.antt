-- Where the legs are up. Assumes nothing.
use Rattle.std.specs.Prelude.{ℕ, ◌+◌, ◌≤◌, ◌==◌}
use Rattle.std.specs.List.{count_by}
use Rattle.tables.specs.Calls.{leads_to_leg}
use Rattle.tables.specs.Table.{Table}

-- how many calls and parties a leg is up on
abbrev pub times_up : Table → ℕ → ℕ
times_up t k = count_by (λ c. leads_to_leg k c.state) t.calls + count_by (λ p. p.leg == k) t.parties

-- each leg is up on one call, or as one party, at most; and only legs are
pub record Apart (t : Table) : Type 0 where
  pub once : (k : ℕ) → times_up t k ≤ 1
  pub legs : (k : ℕ) → 1 ≤ times_up t k → (1 ≤ k) × (k ≤ 64)
