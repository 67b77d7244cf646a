use Rattle.line.proofs.Hearing.{goes_on}
use Rattle.line.proofs.acts.carry_out.Goals as goal

pub returns-clause-law : goal.returns-clause-law
returns-clause-law g c = goes_on c.tell_or_collect.ensures.done
