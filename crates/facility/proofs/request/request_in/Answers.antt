use Rattle.std.proofs.Common.{rules, ◌≡◌, Some, to_z, of_z, w16}
use Rattle.std.specs.Option.{option_map}
use Rattle.components.specs.Component.{part}
use Rattle.facility.specs.Requests.{operation_of, asks, octets_in}
use Rattle.facility.proofs.Asking.{request_was}
use Rattle.facility.proofs.request.request_in.Goals as goal

-- the operation and the request that were answered are those of `request_was`
pub returns-clause-only : goal.returns-clause-only
returns-clause-only c =
    let code = to_z w16 (of_z w16 c.in-Invoke.operation) in
    let argument = option_map part c.in-Invoke.argument in
    let known : operation_of code ≡ Some c.in_ok-operation.operation = search rules in
    let right : asks c.in_ok-operation.operation (octets_in argument) ≡ Some c.in_ok-request.request = search rules in
    request_was _ _ code argument _ _ (search rules) (search rules) known right
