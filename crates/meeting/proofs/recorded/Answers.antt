use Rattle.std.proofs.Common.{arith, subst, sym, take}
use Rattle.std.proofs.lemmas.List.{take_more}
use Rattle.reel.specs.Reels.{Holds}
use Rattle.meeting.proofs.Roomy.{room_behind}
use Rattle.meeting.proofs.recorded.Goals as goal

-- one call more
pub loop-call-preserved : goal.loop-call-preserved
loop-call-preserved c =
    let was = take c.loop-call.call-index c.args.calls.now in
    let reel = c.in_ok-reel.reel in
    let memory = c.append_call.new.memory in
    let holds = c.in_ok-reel.ensures.law was c.loop-call.invariant.holds in
    record {
      holds = subst (λ calls. Holds calls reel memory) (sym (take_more c.args.calls.now c.loop-call.call-index _ c.loop-call-test.true)) holds;
      room = omega (arith, c.append_call.auto.memory, room_behind was _ c.loop-call.reel reel c.loop-call.memory memory c.in_ok-reel.ensures.in_range holds);
    }
