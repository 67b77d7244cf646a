use Rattle.std.proofs.Common.{take}
use Rattle.line.specs.Acts.{Both}
use Rattle.line.proofs.acts.on_new_lines.Given as goal

-- the acts so far were done on both
abbrev pub invariant-loop-act : goal.invariant-loop-act
invariant-loop-act l = Both (take l.act-index l.acts) l.lines
