use Rattle.std.proofs.Common.{◌≡◌, ◌++◌, drop, map, take}
use Rattle.tables.specs.Closures.{Applies}
use Rattle.tables.proofs.each.change_each.Given as goal

-- the items so far are changed, and the rest is as it was
abbrev pub invariant-loop-item : goal.invariant-loop-item
invariant-loop-item g l =
    (f : g.row.T.Denot → g.row.T.Denot) → Applies (goal.F-post g l.rule) f → l.items ≡ map f (take l.item-index l.fn.items) ++ drop l.item-index l.fn.items
