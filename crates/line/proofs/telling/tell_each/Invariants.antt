use Rattle.std.proofs.Common.{◌≡◌, ℕ, ◌+◌, ◌≤◌, length, take}
use Rattle.line.specs.Order.{TellsInOrder, to_each}
use Rattle.line.proofs.Times.{hearing}
use Rattle.line.proofs.telling.tell_each.Given as goal

-- there is room for what is left, the room fell by at most one a telling, and each leg so far was told, in order
abbrev pub invariant-loop-leg : goal.invariant-loop-leg
invariant-loop-leg g l =
    let line = g.L.Line in
    record {
      roomy : length l.legs ≤ line.room l.line + l.leg-index;
      falls : line.room l.line ≤ line.room l.initial.line;
      by_one : line.room l.initial.line ≤ line.room l.line + l.leg-index;
      order : TellsInOrder line.tells (to_each l.notice (take l.leg-index l.legs)) l.initial.line l.line;
      heard : (k : ℕ) → line.standing l.line k ≡ hearing k l.notice (take l.leg-index l.legs) (line.standing l.initial.line k);
    }
