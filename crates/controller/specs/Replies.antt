-- The message body that answers a request. Assumes nothing.
use Rattle.std.specs.Prelude.{ℕ, ℤ, pos, Bool, false, cond, nat_lt, List, [], ◌∷◌, ◌++◌, Some, None, Option, Ok, Err}
use Rattle.components.specs.declared.component.Problem.TheVariants as problem
use Rattle.components.specs.Component.{Said, result, error, reject}
use Rattle.components.specs.declared.message.types.MessageType.TheVariants as type
use Rattle.components.specs.MessageTypes.{type_octet}
use Rattle.components.specs.Problems.{invoke_number}
use Rattle.components.specs.Writing.{encoded}
use Rattle.ber.specs.Structure.{Part}
use Rattle.ber.specs.Value.{tagged}
use Rattle.tables.specs.declared.level.Level.{Level}
use Rattle.tables.specs.Table.{Table}
use Rattle.facility.specs.declared.request.Request.{Request}
use Rattle.facility.specs.declared.request.RequestInvoke.{RequestInvoke}
use Rattle.facility.specs.declared.operation.Operation.TheVariants as operation
use Rattle.facility.specs.Operations.{operation_number}
use Rattle.facility.specs.Requests.{number_octets}
use Rattle.controller.specs.declared.carrier.Carrier.{Carrier}
use Rattle.controller.specs.declared.carrier.Carrier.TheVariants.{Facility, Setup}
use Rattle.controller.specs.declared.deed.Deed.{Deed}
use Rattle.controller.specs.declared.deed.Deed.TheVariants.{BeginBySetup, BeginOnCall, Add}
use Rattle.components.specs.declared.problem.InvokeProblem.TheVariants.{ResourceLimitation}
use Rattle.controller.specs.declared.verdict.Wrong.TheVariants.{Failed, Rejected}
use Rattle.controller.specs.Deeds.{deed_effect}
use Rattle.controller.specs.Granting.{nothing}
use Rattle.controller.specs.Judging.{Verdict, in_use, judged, needed, verdict}
use Rattle.controller.specs.Steps.{Effect}
use Rattle.controller.specs.Verdicts.{error_number}

-- a value of a result, wherever it will lie
abbrev pub value : List ℕ → Part
value xs = record { octets = xs; place = 0 }

-- what a result has, with the operation that it answers: a begin the ConferenceId, and behind it the PartyId of the call in
-- progress; an add the PartyId; the others nothing
abbrev pub ids_given : Deed → Option (ℤ × Part)
ids_given (BeginBySetup id size r) = Some (pos (operation_number operation.Begin), value (tagged 0x30 (number_octets id)))
ids_given (BeginOnCall id size r leg) = Some (pos (operation_number operation.Begin), value (tagged 0x30 (number_octets id ++ number_octets 0)))
ids_given (Add c p r leg) = Some (pos (operation_number operation.Add), value (number_octets p))
ids_given _ = None

-- the component that answers a request: a result with the ids given, a return error without parameter, or a reject
abbrev pub reply : ℤ → Verdict → Said
reply id (Ok deed) = result id (ids_given deed)
reply id (Err (Failed why)) = error id (pos (error_number why)) None
reply id (Err (Rejected why)) = reject (Some id) (problem.Invoke (invoke_number why))

-- cause 31, normal, unspecified, of the public network that serves the local user
abbrev pub cause : List ℕ
cause = 0x08 ∷ 0x02 ∷ 0x82 ∷ 0x9f ∷ []

-- what a message begins with; where it clears the call, the cause stands behind its type
abbrev pub facility : List ℕ
facility = type_octet type.Facility ∷ []

abbrev pub connect : List ℕ
connect = type_octet type.Connect ∷ []

abbrev pub disconnect : List ℕ
disconnect = type_octet type.Disconnect ∷ cause

abbrev pub release_complete : List ℕ
release_complete = type_octet type.ReleaseComplete ∷ cause

-- the message: FACILITY to FACILITY, but DISCONNECT where a call was added; CONNECT or RELEASE COMPLETE to a SETUP, but FACILITY
-- where its reference is that of a call
abbrev pub head : Carrier → Table → Verdict → List ℕ
head (Facility r) t (Ok (Add c p ref leg)) = disconnect
head (Facility r) t v = facility
head (Setup r speech) t (Ok deed) = connect
head (Setup r speech) t (Err why) = cond (in_use (Setup r speech) t) facility release_complete

-- how a request is settled: the message body, and what is done
pub record Settled : Type 0 where
  pub body : List ℕ
  pub effect : Effect

-- what is granted is done, and nothing else
abbrev pub done : Table → Verdict → Effect
done t (Ok deed) = deed_effect t deed
done t (Err why) = nothing t

abbrev pub settled_as : Carrier → ℤ → Table → Verdict → Settled
settled_as carrier id t v = record { body = head carrier t v ++ encoded (reply id v); effect = done t v }

abbrev pub settled : Level → ℕ → Carrier → RequestInvoke → Table → Settled
settled level room carrier asked t = settled_as carrier asked.id t (verdict level t room carrier asked.request)

-- want of room stops a request: but for room it would be granted, and there is less than it needs
abbrev pub too_little : ℕ → Table → Verdict → Bool
too_little room t (Ok deed) = nat_lt room (needed t deed)
too_little room t (Err why) = false

abbrev pub lacks_room : Level → ℕ → Carrier → Request → Table → Bool
lacks_room level room carrier asked t = too_little room t (judged level t carrier asked)

-- turned away: FACILITY with a reject, and nothing is done
abbrev pub turned_away : RequestInvoke → List ℕ
turned_away asked = facility ++ encoded (reply asked.id (Err (Rejected ResourceLimitation)))
