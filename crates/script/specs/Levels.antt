-- Which numbers of a line are a level. Assumes nothing.
use Rattle.std.specs.Prelude.{ℕ, cond, Some, None, Option}
use Rattle.lines.specs.Spelling.{within}
use Rattle.tables.specs.declared.refusal.LevelRefusal.{LevelRefusal}
use Rattle.tables.specs.declared.refusal.LevelRefusal.TheVariants.{Size, Conferences}

-- why there is no such level, if there is none: the size is looked at first
abbrev pub no_level : ℕ → ℕ → Option LevelRefusal
no_level size conferences = cond (within 1 30 size) (cond (within 1 8 conferences) None (Some Conferences)) (Some Size)
