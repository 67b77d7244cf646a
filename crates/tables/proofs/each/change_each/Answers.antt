use Rattle.std.proofs.Common.{arith}
use Rattle.std.proofs.lemmas.List.Edits.{map_over_more}
use Rattle.tables.proofs.each.change_each.Goals as goal

pub loop-item-preserved : goal.loop-item-preserved
loop-item-preserved g c = λ f applies.
    rw (applies c.item-item.result c.rule.result (rw (← c.item-item.is) at c.rule.ensures))
    (map_over_more f c.args.items.now c.loop-item.items c.loop-item.item-index c.item-item.result (omega arith) (c.loop-item.invariant f applies) c.item-item.is)
