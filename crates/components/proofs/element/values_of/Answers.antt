use Rattle.std.proofs.Common.{length, ap, ◌∙◌, arith, length-drop}
use Rattle.std.proofs.lemmas.List.{take_rest}
use Rattle.std.proofs.lemmas.Bool.{ltb-true}
use Rattle.ber.specs.Structure.{bad_list}
use Rattle.components.proofs.Framing.{component_long, component_contents_well}
use Rattle.components.proofs.element.values_of.Goals as goal

pub unreachable-requires : goal.unreachable-requires
unreachable-requires c = omega (arith, ltb-true, component_long c.args.component.now c.requires.well)

pub invariant_of-result : goal.invariant_of-result
invariant_of-result c =
    let xs = c.args.component.now in
    let long = component_long xs c.requires.well in
    let same = take_rest xs 2 in
    record {
      well = record {
        well = ap (bad_list 7 5) same ∙ component_contents_well xs c.requires.well c.requires.nested;
        within = omega (arith, ap length same ∙ length-drop 2 xs, long, c.requires.within);
      };
    }
