use Rattle.lines.proofs.Running.{next_line, whole_block}
use Rattle.lines.proofs.run.answer_block.Goals as goal

pub loop-next-init : goal.loop-next-init
loop-next-init g c = whole_block _ _ _ _ _

pub loop-next-preserved : goal.loop-next-preserved
loop-next-preserved g c =
    let (line, text, cut, nothing, takes, grown) = rw c.in-Some.is at c.in_ok-next.ensures.next in
    next_line _ _ _ _ _ _ _ _ c.loop-next.rest.now c.in-Some.next.now line _ _ _ text c.loop-next.invariant cut.1 cut.2 nothing takes grown
