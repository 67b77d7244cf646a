use Rattle.std.proofs.Common.{rules}
use Rattle.replay.proofs.Running.{nothing_told, on_err, text_begun}
use Rattle.replay.proofs.replaying.tell.Goals as goal

pub returns-in_err-text-clause-some : goal.returns-in_err-text-clause-some
returns-in_err-text-clause-some g c = on_err _ (nothing_told _ _ _ _)

pub returns-in_err-line-clause-some : goal.returns-in_err-line-clause-some
returns-in_err-line-clause-some g c = on_err _ (nothing_told _ _ _ _)

pub returns-in_err-write_whole-clause-some : goal.returns-in_err-write_whole-clause-some
returns-in_err-write_whole-clause-some g c =
    let some = c.in_err-write_whole.ensures.some in
    on_err _ (text_begun _ _ _ some.0 _ _ _ (search rules) some.1)
