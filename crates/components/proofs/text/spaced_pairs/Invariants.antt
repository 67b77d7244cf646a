use Rattle.std.proofs.Common.{◌≡◌, ◌*◌, take}
use Rattle.std.specs.Str.{IsAscii}
use Rattle.arrayvec.specs.ArrayVec.{array_vec_len}
use Rattle.components.specs.Wording.{pairs}
use Rattle.components.proofs.text.spaced_pairs.Given as goal

abbrev pub invariant-loop-octet : goal.invariant-loop-octet
invariant-loop-octet l =
    (l.text.items ≡ pairs (take l.octet-index l.octets))
    × IsAscii l.text.items
    × (array_vec_len l.text ≡ 3 * l.octet-index)
