use Rattle.std.proofs.Common.{rules}
use Rattle.facility.proofs.Asking.{request_every}
use Rattle.facility.proofs.request.read_request.Goals as goal

-- the answer is what the octets request, where they do not read and where they do
pub returns-in_err-read_element-clause-every : goal.returns-in_err-read_element-clause-every
returns-in_err-read_element-clause-every c a lawful is = request_every _ a _ lawful is (search rules)

pub returns-clause-every : goal.returns-clause-every
returns-clause-every c a lawful is = request_every _ a _ lawful is (search rules)
