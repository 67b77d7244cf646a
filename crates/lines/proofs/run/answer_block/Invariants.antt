use Rattle.std.proofs.Common.{length}
use Rattle.lines.specs.Answering.{text_of}
use Rattle.lines.specs.Cutting.{kept}
use Rattle.lines.proofs.Running.{Left}
use Rattle.lines.proofs.run.answer_block.Given as goal

abbrev pub invariant-loop-next : goal.invariant-loop-next
invariant-loop-next g l =
    Left g.H.LineHandler.takes l.initial.handler l.handler (kept l.initial.cutter) l.block (kept l.cutter) l.rest (text_of l.initial.answers) (text_of l.answers)

abbrev pub decreases-loop-next : goal.decreases-loop-next
decreases-loop-next g l = length l.rest
