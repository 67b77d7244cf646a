use Rattle.std.proofs.Common.{◌+◌, ◌≤◌, length, take}
use Rattle.reel.specs.Reels.{Holds}
use Rattle.meeting.proofs.recorded.Given as goal

-- the reel holds the calls so far, and a trailer has room behind them
abbrev pub invariant-loop-call : goal.invariant-loop-call
invariant-loop-call l = record { holds : Holds (take l.call-index l.calls) l.reel l.memory; room : l.reel.place + 12 ≤ length l.memory }
