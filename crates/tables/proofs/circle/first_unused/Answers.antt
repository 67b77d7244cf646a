use Rattle.std.proofs.Common.{true, false, arith}
use Rattle.tables.proofs.Circling.{found_here, found_later}
use Rattle.tables.proofs.circle.first_unused.Goals as goal

pub returns-then-not-used : goal.returns-then-not-used
returns-then-not-used g c = λ is_used tells.
    found_here is_used c.loop-id.id c.args.to _ c.loop-id-test.true (c.loop-id.invariant is_used tells) (tells c.loop-id.id false (omega arith) c.if-not-used.ensures)

pub loop-id-preserved : goal.loop-id-preserved
loop-id-preserved g c = λ is_used tells.
    found_later is_used c.loop-id.id c.args.to _ c.loop-id-test.true (c.loop-id.invariant is_used tells) (tells c.loop-id.id true (omega arith) c.if-not-used.ensures)
