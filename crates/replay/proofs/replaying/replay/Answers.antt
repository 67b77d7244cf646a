use Rattle.std.proofs.Common.{[], arith}
use Rattle.std.proofs.KnownBytes.{Consumes-nil}
use Rattle.replay.proofs.Running.{nothing_begun, on_err}
use Rattle.replay.proofs.replaying.replay.Goals as goal

pub returns-in_err-memory-clause-some : goal.returns-in_err-memory-clause-some
returns-in_err-memory-clause-some g c = on_err _ (nothing_begun c.args.level _ _ _)

pub returns-in_err-memory-clause-few : goal.returns-in_err-memory-clause-few
returns-in_err-memory-clause-few g c = ([], omega arith, Consumes-nil _)
