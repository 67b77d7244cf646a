use Rattle.operator.proofs.Running.{company_new}
use Rattle.operator.proofs.runs.start.Goals as goal

-- the company law holds of new tables, whatever was heard
pub returns-clause-law : goal.returns-clause-law
returns-clause-law g c = company_new c.new.ensures.tables
