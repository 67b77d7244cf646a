use Rattle.std.proofs.Common.{◌+◌, rules}
use Rattle.std.proofs.lemmas.List.{take_rest}
use Rattle.lines.proofs.Cutting.{takes_line, takes_all}
use Rattle.lines.proofs.cutter.LineCutter.take.Goals as goal

pub returns-in_ok-extend_from_slice-in-Some : goal.returns-in_ok-extend_from_slice-in-Some
returns-in_ok-extend_from_slice-in-Some c =
    takes_line _ c.args.block.now c.in-Some.end (search rules) _ (take_rest c.args.block.now (c.in-Some.end + 1)) _ (search rules)

pub returns-in_ok-extend_from_slice-in-None : goal.returns-in_ok-extend_from_slice-in-None
returns-in_ok-extend_from_slice-in-None c = takes_all _ c.args.block.now (search rules) _ (search rules)
