use Rattle.std.proofs.Common.{refl}
use Rattle.cases.proofs.telling.worked_line.Goals as goal

pub returns : goal.returns
returns c = record { first = refl; second = refl; third = refl }
