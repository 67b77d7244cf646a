use Rattle.components.specs.Component.{said}
use Rattle.components.proofs.ReadBack.{composed_fits}
use Rattle.controller.proofs.composing.compose.Goals as goal

pub unreachable-requires : goal.unreachable-requires
unreachable-requires c =
    let told = c.in_default.ensures in
    composed_fits c.args.head.now (said c.args.component.now) c.in_default.field-0 told.sized c.requires.sound c.requires.few told.composed
