use Rattle.std.proofs.Common.{not, ◌&&◌, ◌==◌, rules}
use Rattle.arrayvec.proofs.ArrayVecLemmas.{filter-from_retain}
use Rattle.tables.proofs.tables.Tables.leave.Goals as goal

pub returns : goal.returns
returns c = rw (filter-from_retain _ (λ q. not (q.conference == c.args.conference && q.id == c.args.id)) _ (λ x b f' y called. search rules) _ _ c.retain.ensures.filtered, ← c.self.view_is)
