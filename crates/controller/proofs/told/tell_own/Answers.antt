use Rattle.std.proofs.Common.{arith}
use Rattle.std.proofs.lemmas.Grind.{common_steps}
use Rattle.line.proofs.Orders.{order_nothing, order_one}
use Rattle.controller.proofs.Delivering.{told_one_ok}
use Rattle.controller.proofs.told.tell_own.Goals as goal

pub unwrap-requires : goal.unwrap-requires
unwrap-requires g c = told_one_ok _ _ _ _ _ _ c.tell.result c.tell.ensures.told (rw c.in-Some.is at c.requires)

pub returns-in-Some-clause-order : goal.returns-in-Some-clause-order
returns-in-Some-clause-order g c = rw c.in-Some.is (order_one (rw c.unwrap.ensures at c.tell.ensures.tells))

pub returns-in_default-clause-order : goal.returns-in_default-clause-order
returns-in_default-clause-order g c = order_nothing (grind (arith, common_steps))
