use Rattle.std.proofs.Common.{[], length, ap, arith, lit≤, refl}
use Rattle.line.specs.Acts.{new}
use Rattle.line.proofs.acts.BothLines.new.Goals as goal

pub returns : goal.returns
returns c = record {
  taken = [];
  ts = [];
  ws = [];
  just = refl;
  outbox = new _ _ c.new.ensures.standings (omega (arith, ap length c.new.ensures.empty));
  waits = c.new.ensures.empty;
  since_then = [];
  board = new _ 128 c.new-2.ensures (lit≤ tt);
}
