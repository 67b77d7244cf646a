use Rattle.std.proofs.Common.{◌-◌, length, drop, arith, length-take}
use Rattle.lines.proofs.Streaming.{written_more}
use Rattle.lines.proofs.stream.write_whole.Goals as goal

pub loop-written-preserved : goal.loop-written-preserved
loop-written-preserved g c =
    let done = c.loop-written.written in
    let n = c.in_ok-count.count in
    let xs = c.args.octets.now in
    let before = c.loop-written.invariant in
    let fits = c.in_ok-count.ensures.count in
    let most = length-take (length xs - done) (drop done xs) in
    (omega arith, written_more _ _ _ xs done n fits before.1 c.in_ok-count.ensures.written)
