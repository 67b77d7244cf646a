use Rattle.std.proofs.Common.{not, ◌∙◌, ap, filter, ◌==◌, rules}
use Rattle.arrayvec.proofs.ArrayVecLemmas.{filter-from_retain}
use Rattle.controller.proofs.told.others.Goals as goal

pub returns : goal.returns
returns c =
    filter-from_retain _ (λ q. not (q.id == c.args.but)) _ (λ x b f' y called. search rules) _ _ c.retain.ensures.filtered
    ∙ ap (λ ps. filter (λ q. not (q.id == c.args.but)) ps) c.parties_of-parties.ensures
