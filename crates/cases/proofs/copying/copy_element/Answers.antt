use Rattle.std.proofs.Common.{sym}
use Rattle.components.specs.Component.{said}
use Rattle.cases.proofs.Copies.{copied}
use Rattle.cases.proofs.copying.copy_element.Goals as goal

pub returns-in-Ok : goal.returns-in-Ok
returns-in-Ok c =
    let told = c.in-Ok.ensures in
    rw c.is_ok.ensures.value (copied _ _ _ (said c.in-Ok.component) (sym told.reads) told.rewrites.0 told.rewrites.1 c.write.result c.write.ensures.written)
