use Rattle.std.proofs.Common.{[], ◌+◌, rules, refl}
use Rattle.std.proofs.lemmas.List.{take_rest}
use Rattle.lines.proofs.Cutting.{takes_line}
use Rattle.lines.proofs.cutter.LineCutter.whole_line.Goals as goal

pub returns-clause-cut : goal.returns-clause-cut
returns-clause-cut c = takes_line [] c.args.block.now c.in_ok-end.end (search rules) _ (take_rest c.args.block.now (c.in_ok-end.end + 1)) _ refl
