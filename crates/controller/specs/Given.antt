-- The ids that a request is given, as the value of a result. Assumes nothing.
use Rattle.std.specs.Prelude.{ℤ, pos, None, Option, Ok, Err}
use Rattle.ber.specs.Structure.{Part}
use Rattle.facility.specs.declared.operation.Operation.TheVariants as operation
use Rattle.facility.specs.Operations.{operation_number}
use Rattle.controller.specs.declared.replying.IdsGiven.{IdsGiven}
use Rattle.controller.specs.declared.replying.IdsGiven.TheVariants.{Conference, ConferenceAndParty, Party}
use Rattle.controller.specs.Judging.{Verdict}
use Rattle.controller.specs.Replies.{ids_given, value}

-- the operation that the result answers, and the value
abbrev pub answer_of : IdsGiven → ℤ × Part
answer_of (Conference xs) = (pos (operation_number operation.Begin), value xs)
answer_of (ConferenceAndParty xs) = (pos (operation_number operation.Begin), value xs)
answer_of (Party xs) = (pos (operation_number operation.Add), value xs)

-- those of a verdict: where nothing is granted, none
abbrev pub ids_granted : Verdict → Option (ℤ × Part)
ids_granted (Ok deed) = ids_given deed
ids_granted (Err why) = None
