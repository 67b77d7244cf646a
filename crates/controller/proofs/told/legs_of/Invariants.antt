use Rattle.std.proofs.Common.{◌≡◌, ◌≤◌, length, take}
use Rattle.tables.specs.Table.{legs_of}
use Rattle.controller.proofs.told.legs_of.Given as goal

-- those of the parties so far, and as many
abbrev pub invariant-loop-party : goal.invariant-loop-party
invariant-loop-party l = record {
  those : l.legs.items ≡ legs_of (take l.party-index l.all);
  fits : length l.legs.items ≤ l.party-index;
}
