use Rattle.std.proofs.Common.{◌≡◌, length}
use Rattle.lines.specs.Answering.{text_of}
use Rattle.lines.specs.Cutting.{kept}
use Rattle.lines.proofs.Running.{Stands}
use Rattle.lines.proofs.run.answer_blocks.Given as goal

abbrev pub invariant-loop : goal.invariant-loop
invariant-loop g l =
    (length l.block ≡ length l.initial.block) × Stands g.H.LineHandler.takes l.initial.handler l.handler (kept l.cutter) (text_of l.answers)
    (g.R.Read.remaining l.initial.input) (g.R.Read.remaining l.input) (g.W.Write.contents l.initial.output) (g.W.Write.contents l.output)
