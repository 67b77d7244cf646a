use Rattle.std.proofs.Common.{[], take, refl, rules}
use Rattle.std.specs.Io.KnownBytes.{Consumes, IsAtEnd}
use Rattle.std.proofs.KnownBytes.{Consumes-nil}
use Rattle.lines.proofs.Running.{all_answered, begun, block_more, cut_short, end_cut_short, on_err, stopped, unread}
use Rattle.lines.proofs.run.answer_blocks.Goals as goal

pub loop-init : goal.loop-init
loop-init g c = (refl, begun _ _ _ _ _ _ c.new-cutter.ensures c.new-answers.ensures)

pub returns-in_err-count-clause-some : goal.returns-in_err-count-clause-some
returns-in_err-count-clause-some g c = on_err _ (unread _ _ _ _ _ _ _ _ _ _ _ c.loop.invariant.1 c.in_err-count.ensures.kept)

pub returns-in_err-answer_block-in-Some-clause-some : goal.returns-in_err-answer_block-in-Some-clause-some
returns-in_err-answer_block-in-Some-clause-some g c =
    let read : Consumes (g.R.Read.remaining c.loop.input) (g.R.Read.remaining c.next_block.new.input) (take c.in-Some.count c.next_block.new.block) = search rules in
    on_err _ (stopped _ _ _ _ _ _ _ _ _ _ _ _ c.loop.invariant.1 read)

pub returns-in_err-write_answers-in-Some-clause-some : goal.returns-in_err-write_answers-in-Some-clause-some
returns-in_err-write_answers-in-Some-clause-some g c =
    let read : Consumes (g.R.Read.remaining c.loop.input) (g.R.Read.remaining c.next_block.new.input) (take c.in-Some.count c.next_block.new.block) = search rules in
    let (text, answered, grows) = c.in_ok-answer_block-in-Some.ensures.answered in
    let some = c.in_err-write_answers-in-Some.ensures.some in
    on_err _ (cut_short _ _ _ _ _ _ _ _ _ _ some.0 _ _ _ _ _ _ c.loop.invariant.1 read answered grows some.1)

pub returns-in_err-answer_end-in-None-clause-some : goal.returns-in_err-answer_end-in-None-clause-some
returns-in_err-answer_end-in-None-clause-some g c =
    let end : Consumes (g.R.Read.remaining c.loop.input) (g.R.Read.remaining c.next_block.new.input) [] × IsAtEnd (g.R.Read.remaining c.next_block.new.input) = search rules in
    on_err _ (stopped _ _ _ _ _ _ _ _ _ _ _ _ c.loop.invariant.1 end.0)

pub returns-in_err-write_answers-in-None-clause-some : goal.returns-in_err-write_answers-in-None-clause-some
returns-in_err-write_answers-in-None-clause-some g c =
    let end : Consumes (g.R.Read.remaining c.loop.input) (g.R.Read.remaining c.next_block.new.input) [] × IsAtEnd (g.R.Read.remaining c.next_block.new.input) = search rules in
    let (last, text, tail, takes, ends, grows) = c.in_ok-answer_end-in-None.ensures in
    let some = c.in_err-write_answers-in-None.ensures.some in
    on_err _ (end_cut_short _ _ _ _ _ _ _ _ _ _ _ _ some.0 _ _ _ _ _ _ c.loop.invariant.1 end.0 end.1 c.line.ensures takes ends grows some.1)

pub returns-in-None-clause-all : goal.returns-in-None-clause-all
returns-in-None-clause-all g c =
    let end : Consumes (g.R.Read.remaining c.loop.input) (g.R.Read.remaining c.next_block.new.input) [] × IsAtEnd (g.R.Read.remaining c.next_block.new.input) = search rules in
    let (last, text, tail, takes, ends, grows) = c.in_ok-answer_end-in-None.ensures in
    all_answered _ _ _ _ _ _ _ _ _ _ _ _ _ _ _ _ _ _ c.loop.invariant.1 end.0 end.1 c.line.ensures takes ends grows c.in_ok-write_answers-in-None.ensures.all

pub loop-preserved : goal.loop-preserved
loop-preserved g c =
    let read : Consumes (g.R.Read.remaining c.loop.input) (g.R.Read.remaining c.next_block.new.input) (take c.in-Some.count c.next_block.new.block) = search rules in
    let (text, answered, grows) = c.in_ok-answer_block-in-Some.ensures.answered in
    let written = c.in_ok-write_answers-in-Some.ensures in
    (search rules, block_more _ _ _ _ _ _ _ _ _ _ _ _ _ _ _ _ _ c.loop.invariant.1 read c.in_ok-answer_block-in-Some.ensures.kept answered grows written.all written.cleared)

pub returns-clause-some : goal.returns-clause-some
returns-clause-some g c = stopped _ _ _ _ _ [] _ _ _ _ _ _ c.loop.invariant.1 (Consumes-nil _)
