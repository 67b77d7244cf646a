use Rattle.std.proofs.Common.{rules}
use Rattle.record.proofs.Running.{nothing_recorded, on_err, recorded, some_remarked, some_written}
use Rattle.record.proofs.run.record_script.Goals as goal

pub returns-in_err-recorder-clause-some : goal.returns-in_err-recorder-clause-some
returns-in_err-recorder-clause-some g c = on_err _ (nothing_recorded _ _ _)

pub returns-in_err-answer_lines-clause-some : goal.returns-in_err-answer_lines-clause-some
returns-in_err-answer_lines-clause-some g c = on_err _ (some_remarked c.in_ok-recorder.recorder _ _ _ _ _ c.in_ok-recorder.ensures c.in_err-answer_lines.ensures.some)

pub returns-in_err-write_whole-clause-some : goal.returns-in_err-write_whole-clause-some
returns-in_err-write_whole-clause-some g c =
    let some = c.in_err-write_whole.ensures.some in
    on_err _ (some_written c.in_ok-recorder.recorder c.answer_lines.new.handler c.close.result.items _ some.0 _ _ _ _ _ _ c.in_ok-recorder.ensures c.in_ok-answer_lines.ensures.all c.close.ensures c.as_slice.ensures.value some.1)

pub returns-clause-all : goal.returns-clause-all
returns-clause-all g c =
    recorded c.in_ok-recorder.recorder c.answer_lines.new.handler _ c.close.result.items _ _ _ _ _ _ c.in_ok-recorder.ensures c.in_ok-answer_lines.ensures.all c.is_whole-whole.ensures c.close.ensures (search rules)
