use Rattle.std.proofs.lemmas.List.{take_all}
use Rattle.line.proofs.Hearing.{new_lines}
use Rattle.line.proofs.acts.on_new_lines.Goals as goal

pub returns : goal.returns
returns c = new_lines (rw (take_all c.loop-act.act-index c.args.acts.now c.loop-act-test.false) at c.loop-act.invariant)
