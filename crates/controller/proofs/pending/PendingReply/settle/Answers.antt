use Rattle.std.proofs.Common.{arith}
use Rattle.std.proofs.lemmas.Grind.{common_steps}
use Rattle.line.proofs.Orders.{order_nothing}
use Rattle.controller.proofs.pending.PendingReply.settle.Goals as goal

pub returns-in-Err-clause-order : goal.returns-in-Err-clause-order
returns-in-Err-clause-order g c = order_nothing (grind (arith, common_steps))
