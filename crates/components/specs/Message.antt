-- What a message holds, what it is made of, and the reply to each fault. Assumes nothing.
use Rattle.std.specs.Prelude.{◌≡◌, ℕ, ◌<◌, List, ◌∷◌, ◌++◌, length, take, Some, None, Ok, Err, Option, Result}
use Rattle.std.specs.Option.{option_map}
use Rattle.components.specs.declared.component.Problem.TheVariants as problem
use Rattle.components.specs.declared.fault.Cause.{Cause}
use Rattle.components.specs.declared.fault.Cause.TheVariants.{Count, Identifier, Length, Profile, Tag, Structure, Mistyped, NoInvoke, Operation, Argument}
use Rattle.components.specs.declared.message.Message.{Message}
use Rattle.components.specs.declared.message.types.MessageType.TheVariants.{Facility}
use Rattle.components.specs.declared.problem.GeneralProblem.TheVariants.{UnrecognizedComponent, MistypedComponent, BadlyStructuredComponent}
use Rattle.components.specs.declared.problem.InvokeProblem.TheVariants.{UnrecognizedOperation, MistypedArgument}
use Rattle.components.specs.declared.write.Refusal.{Refusal}
use Rattle.components.specs.declared.write.Refusal.TheVariants.{Unreadable, ShortMemory}
use Rattle.components.specs.Component.{Said, reject}
use Rattle.components.specs.MessageTypes.{type_octet}
use Rattle.components.specs.Problems.{general_number, invoke_number}
use Rattle.components.specs.Writing.{encoded, Readable}

-- the octets of a message: as many as it has, of the 23 that there is memory for
abbrev pub message_octets : Message → List ℕ
message_octets m = take m.length m.octets

-- a message made of a head and a component is the head and the element; or it is refused, for a component that would not read,
-- and then for more than 23 octets
abbrev pub Composed : List ℕ → Said → Result Message Refusal → Type 0
Composed head s (Ok m) = Readable s × (message_octets m ≡ head ++ encoded s)
Composed head s (Err Unreadable) = Readable s → ⊥
Composed head s (Err ShortMemory) = Readable s × (23 < length (head ++ encoded s))

-- the reject that answers a fault: none for the element layer, nor where there is no invoke
abbrev pub rejection : Cause → Option Said
rejection Count = None
rejection Identifier = None
rejection Length = None
rejection Profile = None
rejection Tag = Some (reject None (problem.General (general_number UnrecognizedComponent)))
rejection Structure = Some (reject None (problem.General (general_number BadlyStructuredComponent)))
rejection Mistyped = Some (reject None (problem.General (general_number MistypedComponent)))
rejection NoInvoke = None
rejection (Operation id) = Some (reject (Some id) (problem.Invoke (invoke_number UnrecognizedOperation)))
rejection (Argument id) = Some (reject (Some id) (problem.Invoke (invoke_number MistypedArgument)))

-- the reply to a fault: FACILITY with the reject
abbrev pub reply_octets : Cause → Option (List ℕ)
reply_octets cause = option_map (λ s. type_octet Facility ∷ encoded s) (rejection cause)
