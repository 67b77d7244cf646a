use Rattle.std.proofs.Common.{rules}
use Rattle.lines.proofs.Streaming.{read_more}
use Rattle.lines.proofs.stream.read_up_to.Goals as goal

pub loop-filled-preserved : goal.loop-filled-preserved
loop-filled-preserved g c =
    (search rules, search rules, read_more _ _ _ _ _ _ _ c.loop-filled.invariant.1 c.in_ok-count.ensures.count c.loop-filled.invariant.2 c.in_ok-count.ensures.read)
