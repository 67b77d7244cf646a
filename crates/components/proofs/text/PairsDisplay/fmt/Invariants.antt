use Rattle.std.proofs.Common.{◌≡◌, ℕ, List, ◌++◌}
use Rattle.std.specs.Fmt.{HasWritten, IsPlainFormatter}
use Rattle.std.specs.Slice.Iter.{chunks_rest, chunks_size}
use Rattle.components.specs.Wording.{pairs}
use Rattle.components.proofs.text.PairsDisplay.fmt.Given as goal

abbrev pub invariant-loop-octets : goal.invariant-loop-octets
invariant-loop-octets g l =
    (goal.iterator-loop-octets g).can_next l.octets-iterator
    × (goal.iterator-loop-octets g).is_finite l.octets-iterator
    × (chunks_size l.octets-iterator ≡ 32)
    × (IsPlainFormatter l.initial.f → (done : List ℕ) × HasWritten g.W.Write.write_str_gives l.initial.f done l.f
    × (done ++ pairs (chunks_rest l.octets-iterator) ≡ pairs l.fn.self.0.now))
