use Rattle.lines.proofs.Running.{nothing_answered, on_err}
use Rattle.lines.proofs.run.answer_lines.Goals as goal

pub returns-in_err-block-clause-some : goal.returns-in_err-block-clause-some
returns-in_err-block-clause-some g c = on_err _ (nothing_answered _ _ _ _ _)
