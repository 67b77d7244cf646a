-- Which levels there are, and why there is no other. Assumes nothing.
use Rattle.std.specs.Prelude.{ℕ, ◌≤◌}
use Rattle.tables.specs.declared.refusal.LevelRefusal.{LevelRefusal}
use Rattle.tables.specs.declared.refusal.LevelRefusal.TheVariants.{Size, Conferences}

-- a conference has from 1 to 30 parties at most, and there are from 1 to 8 conferences at most
pub record Lawful (size conferences : ℕ) : Type 0 where
  pub some_parties : 1 ≤ size
  pub most_parties : size ≤ 30
  pub some_conferences : 1 ≤ conferences
  pub most_conferences : conferences ≤ 8

-- the size is looked at first
abbrev pub WhyNoLevel : ℕ → ℕ → LevelRefusal → Type 0
WhyNoLevel size conferences Size = ¬ ((1 ≤ size) × (size ≤ 30))
WhyNoLevel size conferences Conferences = (1 ≤ size) × (size ≤ 30) × ¬ ((1 ≤ conferences) × (conferences ≤ 8))
