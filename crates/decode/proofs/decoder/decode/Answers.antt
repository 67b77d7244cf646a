use Rattle.decode.proofs.Running.{all_answered, at_end, some_answered}
use Rattle.decode.proofs.decoder.decode.Goals as goal

pub returns-clause-all : goal.returns-clause-all
returns-clause-all g c = all_answered c.answer_lines.result _ _ _ _ _ _ c.answer_lines.ensures.all

pub returns-clause-end : goal.returns-clause-end
returns-clause-end g c = at_end c.answer_lines.result _ _ _ _ _ _ c.answer_lines.ensures.all

pub returns-clause-some : goal.returns-clause-some
returns-clause-some g c = some_answered c.answer_lines.result _ _ _ _ _ c.answer_lines.ensures.some
