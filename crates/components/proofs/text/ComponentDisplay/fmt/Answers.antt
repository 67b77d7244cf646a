use Rattle.std.proofs.Common.{Some, codes, sym, ap, ◌∙◌}
use Rattle.std.specs.Fmt.{◌++?◌, signed_decimal}
use Rattle.std.proofs.Output.{displays_on_ok_of_eq}
use Rattle.components.specs.Component.{part, said}
use Rattle.components.specs.Wording.{parameter_text, component_text}
use Rattle.components.proofs.Printing.{spaced_said}
use Rattle.components.proofs.text.ComponentDisplay.fmt.Goals as goal

pub returns-in-Invoke-clause-writes : goal.returns-in-Invoke-clause-writes
returns-in-Invoke-clause-writes g c =
    let argument = spaced_said part parameter_text c.in-Invoke.argument in
    displays_on_ok_of_eq _ _ _ _ _ _
    (ap (λ o. Some (codes "invoke ") ++? (Some (signed_decimal c.in-Invoke.id) ++? (Some (codes " operation ") ++? (Some (signed_decimal c.in-Invoke.operation) ++? o)))) argument
    ∙ ap (λ v. Some (component_text (said v))) (sym c.in-Invoke.is))
    c.write.ensures.writes
