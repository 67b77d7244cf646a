use Rattle.std.proofs.Common.{arith, rules}
use Rattle.tables.proofs.Circling.{next_either}
use Rattle.tables.proofs.circle.Circle.next.Goals as goal

pub returns : goal.returns
returns g c = λ is_used tells.
    rw c.unwrap_or.ensures (next_either c.args.self.last _ is_used _ _ _ c.saturating_add.ensures (omega arith) (c.first_unused.ensures is_used tells) c.or_else.ensures (λ gave. search rules))
