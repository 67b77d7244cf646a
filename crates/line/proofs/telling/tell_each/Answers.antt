use Rattle.std.proofs.Common.{arith}
use Rattle.std.proofs.lemmas.Grind.{common_steps}
use Rattle.std.proofs.lemmas.List.{take_all}
use Rattle.line.specs.Order.{nothing}
use Rattle.line.proofs.Orders.{order_more}
use Rattle.line.proofs.Times.{hearing_times, told_once}
use Rattle.line.proofs.telling.tell_each.Goals as goal

pub returns-clause-each : goal.returns-clause-each
returns-clause-each g c = grind (arith, common_steps, hearing_times)

pub returns-clause-once : goal.returns-clause-once
returns-clause-once g c =
    told_once c.args.legs.now c.args.notice _ _ (rw (take_all c.loop-leg.leg-index c.args.legs.now c.loop-leg-test.false) at c.loop-leg.invariant.heard)

pub loop-leg-init : goal.loop-leg-init
loop-leg-init g c = record {
  roomy = grind (arith, common_steps);
  falls = grind (arith, common_steps);
  by_one = grind (arith, common_steps);
  order = nothing _;
  heard = grind (arith, common_steps);
}

pub loop-leg-preserved : goal.loop-leg-preserved
loop-leg-preserved g c = record {
  roomy = grind (arith, common_steps);
  falls = grind (arith, common_steps);
  by_one = grind (arith, common_steps);
  order = order_more c.args.legs.now c.loop-leg.leg-index c.loop-leg-test.true c.loop-leg.invariant.order c.in_ok-tell.ensures.tells;
  heard = grind (arith, common_steps);
}

pub returns-clause-order : goal.returns-clause-order
returns-clause-order g c = rw (take_all c.loop-leg.leg-index c.args.legs.now c.loop-leg-test.false) at c.loop-leg.invariant.order
