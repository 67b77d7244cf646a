use Rattle.std.proofs.Common.{◌+◌, length, ap, ◌∙◌, arith, length-drop}
use Rattle.std.proofs.lemmas.Option.{MatchOption-at_some}
use Rattle.ber.specs.Structure.{bad_list}
use Rattle.ber.proofs.Carrying.{list_carries}
use Rattle.ber.proofs.Nesting.{whole_parts}
use Rattle.ber.proofs.Taking.{sequence_well, well_whole}
use Rattle.components.proofs.values.cursor.read_answer.Goals as goal

pub invariant_of-values : goal.invariant_of-values
invariant_of-values c =
    let v = c.args.value in
    let found = MatchOption-at_some _ _ _ c.in_ok-rest.ensures.ok_part c.sequence.ensures in
    let whole = whole_parts v.octets.now (well_whole 7 v.place v.octets.now c.requires.well) in
    record {
      well = record {
        well = list_carries 6 7 _ _ _ (omega arith) (ap (bad_list 6 (v.place + 2)) found.1 ∙ sequence_well 7 v.place v.octets.now c.requires.well found.0);
        within = omega (arith, ap length found.1 ∙ length-drop 2 v.octets.now, c.requires.within, whole.two);
      };
    }
