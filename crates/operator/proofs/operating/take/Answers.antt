use Rattle.std.proofs.Common.{refl, arith}
use Rattle.line.specs.Order.{nothing}
use Rattle.operator.proofs.operating.take.Goals as goal

pub returns-in-TurnedAway-clause-taken : goal.returns-in-TurnedAway-clause-taken
returns-in-TurnedAway-clause-taken g c = rw c.in-TurnedAway.is record {
  answered = c.turned_away.ensures;
  table = refl;
  heard = λ k. refl;
  roomy = (omega arith, omega arith);
}

pub returns-in-TurnedAway-clause-order : goal.returns-in-TurnedAway-clause-order
returns-in-TurnedAway-clause-order g c = rw c.in-TurnedAway.is (nothing _)
