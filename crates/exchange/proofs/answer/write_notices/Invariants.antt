use Rattle.std.proofs.Common.{take}
use Rattle.std.specs.Fmt.{HasWritten, IsPlainFormatter}
use Rattle.std.specs.List.{flat_map}
use Rattle.line.specs.Outboxes.{waiting}
use Rattle.exchange.specs.Answers.{notify_text}
use Rattle.exchange.proofs.answer.write_notices.Given as goal

abbrev pub invariant-loop-place : goal.invariant-loop-place
invariant-loop-place g l =
    IsPlainFormatter l.initial.f → HasWritten g.W.Write.write_str_gives l.initial.f (flat_map notify_text (take l.place (waiting l.outbox))) l.f
