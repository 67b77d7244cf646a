use Rattle.std.proofs.Common.{rules, w16, SFits}
use Rattle.components.specs.Component.{said}
use Rattle.facility.proofs.Asking.{request_written}
use Rattle.facility.proofs.request.RequestInvoke.write_with.Goals as goal

-- the component is that of the request, and its id is a number of two octets
pub returns : goal.returns
returns c =
    let fits : SFits w16 c.args.self.id = search rules in
    request_written c.args.self (said c.with_argument.result) _ _ _ (fits, c.requires.in_range) c.with_argument.ensures c.write.ensures.written
