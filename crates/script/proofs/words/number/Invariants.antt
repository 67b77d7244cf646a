use Rattle.std.proofs.Common.{◌≡◌, ◌<◌, drop}
use Rattle.script.specs.Words.{digits_behind, stopped}
use Rattle.script.proofs.words.number.Given as goal

abbrev pub invariant-loop-byte : goal.invariant-loop-byte
invariant-loop-byte l =
    (l.value < 256) × (stopped (digits_behind l.value (drop l.byte-index l.word)) ≡ stopped (digits_behind 0 l.word))
