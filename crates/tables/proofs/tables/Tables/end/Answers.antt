use Rattle.std.proofs.Common.{not, ◌==◌, rules}
use Rattle.arrayvec.proofs.ArrayVecLemmas.{filter-from_retain}
use Rattle.tables.proofs.tables.Tables.end.Goals as goal

pub returns : goal.returns
returns c = rw (
  filter-from_retain _ (λ k. not (k.id == c.args.conference)) _ (λ x b f' y called. search rules) _ _ c.retain.ensures.filtered,
  filter-from_retain _ (λ q. not (q.conference == c.args.conference)) _ (λ x b f' y called. search rules) _ _ c.retain-2.ensures.filtered,
  ← c.self.view_is,
)
