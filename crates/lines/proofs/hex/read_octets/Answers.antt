use Rattle.std.proofs.Common.{◌≡◌, ◌∷◌, Some, vec_items, sym, ap, ◌∙◌, rules}
use Rattle.std.specs.Slice.Iter.{iter_rest}
use Rattle.lines.specs.Spelling.{pair_value, spelled}
use Rattle.lines.proofs.Reading.{behind, past_pair, behind_none}
use Rattle.lines.proofs.hex.read_octets.Goals as goal

pub loop-first-init : goal.loop-first-init
loop-first-init c = rw c.clear.ensures.items (rw c.iter-bytes.ensures.rest (behind_none (spelled c.args.line.now)))

pub loop-first-preserved : goal.loop-first-preserved
loop-first-preserved c =
    let first = c.in-Some.first.now in
    let second = c.in_ok-second.second.now in
    let rest = iter_rest c.next-in-Some.new.self in
    let cut : iter_rest c.loop-first.bytes ≡ first ∷ second ∷ rest = search rules in
    let octet : pair_value first second ≡ Some c.in_ok-ok_or.field-0 = search rules in
    rw c.in_ok-push.ensures.items
    (sym (past_pair (vec_items c.loop-first.octets) c.in_ok-ok_or.field-0 first second rest (sym c.if-is_white.ensures) octet)
    ∙ ap (λ l. behind (vec_items c.loop-first.octets) (spelled l)) (sym cut)
    ∙ c.loop-first.invariant)
