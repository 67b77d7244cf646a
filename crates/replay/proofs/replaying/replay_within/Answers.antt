use Rattle.std.proofs.Common.{rules}
use Rattle.replay.specs.Running.{fault_line}
use Rattle.replay.specs.Text.{blamed, outcome_text}
use Rattle.replay.proofs.Running.{begun, ends_below, few_read, nothing_begun, on_err, replayed}
use Rattle.replay.proofs.replaying.replay_within.Goals as goal

pub returns-in_err-count-clause-some : goal.returns-in_err-count-clause-some
returns-in_err-count-clause-some g c = on_err _ (nothing_begun c.args.level _ _ _)

pub returns-in_err-count-clause-few : goal.returns-in_err-count-clause-few
returns-in_err-count-clause-few g c = few_read _ _ c.read_up_to.new.memory c.in_err-count.ensures.some.0 (search rules) c.in_err-count.ensures.some.1

pub returns-in_err-tell-clause-some : goal.returns-in_err-tell-clause-some
returns-in_err-tell-clause-some g c =
    let read = c.in_ok-count.ensures in
    let end = ends_below c.in_ok-count.count c.read_up_to.new.memory _ (search rules) read.count read.end in
    on_err _ (begun c.args.level _ _ _ _ _ _ _ _ _ read.read end c.of-outcome.ensures.text (search rules) c.in_err-tell.ensures.some)

pub returns-in_err-tell-clause-few : goal.returns-in_err-tell-clause-few
returns-in_err-tell-clause-few g c = few_read _ _ c.read_up_to.new.memory c.in_ok-count.count (search rules) c.in_ok-count.ensures.read

pub returns-clause-all : goal.returns-clause-all
returns-clause-all g c =
    let read = c.in_ok-count.ensures in
    let end = ends_below c.in_ok-count.count c.read_up_to.new.memory _ (search rules) read.count read.end in
    replayed c.args.level _ _ _ c.is_reel.result _ _ _ _ (outcome_text c.of-outcome.result) (fault_line (blamed c.of-outcome.result)) read.read end c.of-outcome.ensures.text (search rules) (search rules) c.in_ok-tell.ensures.text c.in_ok-tell.ensures.fault
