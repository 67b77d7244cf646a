use Rattle.std.proofs.Common.{[], ◌∷◌, arith}
use Rattle.components.specs.Component.{reject}
use Rattle.components.proofs.ReadBack.{composed_fits, reject_long}
use Rattle.components.proofs.message.reject.reject_message.Goals as goal

pub unreachable-requires : goal.unreachable-requires
unreachable-requires c =
    let told = c.in_default.ensures in
    let few = reject_long c.args.id c.args.problem in
    composed_fits (0x62 ∷ []) (reject c.args.id c.args.problem) c.in_default.field-0 told.sized tt (omega (arith, few)) told.composed
