use Rattle.std.proofs.Common.{◌∙◌, map, subst, arith}
use Rattle.std.proofs.lemmas.List.{take_all}
use Rattle.operator.specs.Answers.{in_octets}
use Rattle.operator.specs.OnLine.{TakesAll}
use Rattle.operator.proofs.Running.{reached_next, reached_none}
use Rattle.operator.proofs.runs.run.Goals as goal

-- nothing taken yet
pub loop-next-init : goal.loop-next-init
loop-next-init g c = record {
  level = c.start-controller.ensures.level;
  room = omega (arith, c.if-capacity-steps.false, c.capacity.ensures, c.clear.ensures.len, c.clear.ensures.capacity);
  reached = rw c.clear.ensures.items (reached_none c.start-controller.ensures.tables c.start-controller.ensures.collects c.start-controller.ensures.kept c.start-controller.ensures.run);
}

-- one step more
pub loop-next-preserved : goal.loop-next-preserved
loop-next-preserved g c = record {
  level = c.take_into.ensures.level ∙ c.loop-next.invariant.level;
  room = omega (arith, c.loop-next.invariant.room, c.take_into.ensures.len, c.take_into.ensures.capacity);
  reached = rw c.take_into.ensures.answered (
      reached_next c.args.steps.now c.loop-next.next-index _ c.loop-next-test.true c.loop-next.invariant.level c.loop-next.invariant.reached c.take_into.ensures.taken c.take_into.ensures.order);
}

-- all steps are taken
pub returns-clause-run : goal.returns-clause-run
returns-clause-run g c =
    subst (λ xs. TakesAll g.L.Line.standing g.L.Line.room g.L.Line.tells g.L.Line.collects c.args.level xs (map in_octets c.loop-next.answers.items) c.args.line.now c.loop-next.controller.tables c.loop-next.line)
    (take_all c.loop-next.next-index c.args.steps.now c.loop-next-test.false) c.loop-next.invariant.reached.all
