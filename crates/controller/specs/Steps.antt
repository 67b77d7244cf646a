-- What a step does: to the tables, to the line, and to the legs. Assumes nothing.
use Rattle.std.specs.Prelude.{ℕ, Bool, not, ◌&&◌, ◌==◌, List, map, filter, nat_le}
use Rattle.line.specs.declared.notice.Notice.{Notice}
use Rattle.tables.specs.declared.conference.Party.{Party}
pub use Rattle.tables.specs.Calls.{leads_to_leg}
pub use Rattle.tables.specs.Table.{is_up}
use Rattle.tables.specs.Table.{Table, parties_of}

-- the tables after a step, what is told to whom, in order, and how many legs are gone
pub record Effect : Type 0 where
  pub table : Table
  pub told : List (ℕ × Notice)
  pub gone : ℕ

-- call references are 1 to 127, legs 1 to 64
abbrev pub is_reference : ℕ → Bool
is_reference r = nat_le 1 r && nat_le r 127

abbrev pub is_leg : ℕ → Bool
is_leg k = nat_le 1 k && nat_le k 64

-- each of these hears a notice
abbrev pub each : Notice → List Party → List (ℕ × Notice)
each n ps = map (λ p. (p.leg, n)) ps

-- the parties of a conference but one
abbrev pub others : Table → ℕ → ℕ → List Party
others t id p = filter (λ q. not (q.id == p)) (parties_of t id)
