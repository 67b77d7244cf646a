use Rattle.std.proofs.Common.{arith}
use Rattle.std.proofs.lemmas.Grind.{common_steps}
use Rattle.line.proofs.Orders.{order_nothing}
use Rattle.controller.proofs.controller.Controller.report.Goals as goal

pub returns-in_err-change-clause-order : goal.returns-in_err-change-clause-order
returns-in_err-change-clause-order g c = order_nothing (grind (arith, common_steps))
