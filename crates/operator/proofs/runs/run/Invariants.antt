use Rattle.std.proofs.Common.{◌≡◌, ◌+◌, ◌≤◌, length, map, take, vec_len, vec_capacity}
use Rattle.operator.specs.Answers.{in_octets}
use Rattle.operator.proofs.Running.{Reached}
use Rattle.operator.proofs.runs.run.Given as goal

-- the steps so far were taken at the level, and answered; there is room for the answers to those left
abbrev pub invariant-loop-next : goal.invariant-loop-next
invariant-loop-next g l =
    let line = g.L.Line in
    record {
      level : l.controller.level ≡ l.fn.level;
      room : length l.steps + vec_len l.answers ≤ vec_capacity l.answers + l.next-index;
      reached : Reached line.standing line.room line.tells line.collects l.fn.level (take l.next-index l.steps) (map in_octets l.answers.items) l.fn.line l.controller.tables l.line;
    }
