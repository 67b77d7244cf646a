use Rattle.std.proofs.lemmas.List.{take_rest}
use Rattle.std.proofs.lemmas.Bool.Decides.{nat_tests}
use Rattle.std.proofs.Common.{arith}
use Rattle.components.proofs.values.cursor.sequence.Goals as goal

pub returns-in-48 : goal.returns-in-48
returns-in-48 c = (grind (arith, nat_tests), take_rest c.args.value.now 2)
