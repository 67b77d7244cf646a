use Rattle.std.proofs.Common.{◌≡◌, length, vec_items}
use Rattle.std.specs.Slice.Iter.{iter_rest}
use Rattle.lines.specs.Spelling.{spelled}
use Rattle.lines.proofs.Reading.{behind}
use Rattle.lines.proofs.hex.read_octets.Given as goal

abbrev pub invariant-loop-first : goal.invariant-loop-first
invariant-loop-first l = behind (vec_items l.octets) (spelled (iter_rest l.bytes)) ≡ spelled l.line

abbrev pub decreases-loop-first : goal.decreases-loop-first
decreases-loop-first l = length (iter_rest l.bytes)
