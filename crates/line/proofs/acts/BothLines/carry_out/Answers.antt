use Rattle.std.proofs.Common.{refl}
use Rattle.line.proofs.Hearing.{both_told, both_refused}
use Rattle.line.proofs.acts.BothLines.carry_out.Goals as goal

pub returns : goal.returns
returns c = both_told _ _ c.in_ok-carry_out.ensures.does c.in_ok-carry_out.ensures.done c.carry_out-2.ensures.done

pub returns-in_err-carry_out : goal.returns-in_err-carry_out
returns-in_err-carry_out c = both_refused _ _ c.in_err-carry_out.ensures.does c.in_err-carry_out.ensures.done refl
