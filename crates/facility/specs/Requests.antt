-- The conference requests: which invokes they are. Assumes nothing.
use Rattle.std.specs.Prelude.{ℕ, ◌+◌, ◌≤◌, cond, ◌&&◌, List, [], ◌∷◌, ◌++◌, length, take, drop, ℤ, pos, negsuc, Some, None, Ok, Err, Option, Result, FitsSigned, ◌==◌, nat_le, slice_index}
use Rattle.std.specs.Int.{w16}
use Rattle.std.specs.List.{find}
use Rattle.std.specs.Option.{option_map, option_zip}
use Rattle.components.specs.declared.fault.Cause.TheVariants as cause
use Rattle.components.specs.declared.fault.Fault.{Fault}
use Rattle.facility.specs.declared.operation.Operation.{Operation}
use Rattle.facility.specs.declared.operation.Operation.TheVariants as operation
use Rattle.facility.specs.declared.request.Request.{Request}
use Rattle.facility.specs.declared.request.Request.TheVariants as request
use Rattle.facility.specs.declared.request.RequestInvoke.{RequestInvoke}
use Rattle.facility.specs.Operations.{operation_number, requested_operations}
use Rattle.components.specs.Component.{Said, invoke}
use Rattle.components.specs.Faults.{at}
use Rattle.ber.specs.Integer.{integer_octets}
use Rattle.components.specs.Reading.{reading}
use Rattle.ber.specs.Structure.{Part}
use Rattle.ber.specs.Value.{is_tagged, tagged}
use Rattle.components.specs.Typed.{and_then}
use Rattle.components.specs.Writing.{encoded, Each}

-- a number of an argument: an INTEGER of one octet, from 0 to 127
abbrev pub number_octets : ℕ → List ℕ
number_octets n = tagged 2 (n ∷ [])

abbrev pub a_number : List ℕ → Option ℕ
a_number xs = cond (is_tagged 2 xs && (length xs == 3 && nat_le (slice_index xs 2) 127)) (Some (slice_index xs 2)) None

-- a SEQUENCE of two numbers
abbrev pub two_numbers : List ℕ → Option (ℕ × ℕ)
two_numbers xs = cond (is_tagged 0x30 xs && length xs == 8) (option_zip (a_number (take 3 (drop 2 xs))) (a_number (drop 3 (drop 2 xs)))) None

-- the operation of a request, by its number
abbrev pub operation_of : ℤ → Option Operation
operation_of (negsuc n) = None
operation_of (pos n) = find (λ o. n == operation_number o) requested_operations

-- what an operation asks with its argument: a size that may be absent, a ConferenceId, both ids, or a PartyId.
-- None: the argument is wrong; PartyDISC asks nothing.
abbrev pub asks : Operation → Option (List ℕ) → Option Request
asks operation.Begin None = Some (request.Begin None)
asks operation.Begin (Some xs) = option_map (λ n. request.Begin (Some n)) (a_number xs)
asks operation.Add (Some xs) = option_map request.Add (a_number xs)
asks operation.Split (Some xs) = option_map (λ p. request.Split p.0 p.1) (two_numbers xs)
asks operation.Drop (Some xs) = option_map request.Drop (a_number xs)
asks operation.Isolate (Some xs) = option_map request.Isolate (a_number xs)
asks operation.Reattach (Some xs) = option_map request.Reattach (a_number xs)
asks operation.PartyDisc (Some xs) = None
asks _ None = None

-- the place of an argument, or of the component's end where it is absent
abbrev pub argument_place : ℕ → Option Part → ℕ
argument_place end None = end
argument_place end (Some v) = v.place

abbrev pub octets_in : Option Part → Option (List ℕ)
octets_in argument = option_map (λ v. v.octets) argument

-- the request, or the wrong argument
abbrev pub asked : ℕ → ℤ → Option Part → Option Request → Result RequestInvoke Fault
asked end id argument (Some r) = Ok (record { id = id; request = r })
asked end id argument None = Err (at (cause.Argument id) (argument_place end argument))

-- the operation stands behind the id
abbrev pub by_operation : ℕ → ℤ → Option Part → Option Operation → Result RequestInvoke Fault
by_operation end id argument (Some op) = asked end id argument (asks op (octets_in argument))
by_operation end id argument None = Err (at (cause.Operation id) (5 + length (integer_octets id)))

-- a request is an invoke
abbrev pub requested : ℕ → Said → Result RequestInvoke Fault
requested end (invoke id code argument) = by_operation end id argument (operation_of code)
requested end _ = Err (at cause.NoInvoke 3)

-- the request that an element holds: faults of the element and of the component come first
abbrev pub requesting : List ℕ → Result RequestInvoke Fault
requesting xs = and_then (reading xs) (requested (length xs))

-- the other way: the operation and the argument of each request
abbrev pub operation_asked : Request → Operation
operation_asked (request.Begin size) = operation.Begin
operation_asked (request.Add conference) = operation.Add
operation_asked (request.Split conference party) = operation.Split
operation_asked (request.Drop party) = operation.Drop
operation_asked (request.Isolate party) = operation.Isolate
operation_asked (request.Reattach party) = operation.Reattach

abbrev pub request_code : Request → ℕ
request_code r = operation_number (operation_asked r)

abbrev pub request_argument : Request → Option (List ℕ)
request_argument (request.Begin size) = option_map number_octets size
request_argument (request.Add conference) = Some (number_octets conference)
request_argument (request.Split conference party) = Some (tagged 0x30 (number_octets conference ++ number_octets party))
request_argument (request.Drop party) = Some (number_octets party)
request_argument (request.Isolate party) = Some (number_octets party)
request_argument (request.Reattach party) = Some (number_octets party)

-- the component of a request, and the element that makes it, as no other does
abbrev pub request_said : RequestInvoke → Said
request_said r = invoke r.id (pos (request_code r.request)) (option_map (λ xs. record { octets = xs; place = 0 }) (request_argument r.request))

abbrev pub request_octets : RequestInvoke → List ℕ
request_octets r = encoded (request_said r)

-- the numbers of a request are from 0 to 127
abbrev pub InRange : Request → Type 0
InRange (request.Begin size) = Each (λ n. n ≤ 127) size
InRange (request.Add conference) = conference ≤ 127
InRange (request.Split conference party) = (conference ≤ 127) × (party ≤ 127)
InRange (request.Drop party) = party ≤ 127
InRange (request.Isolate party) = party ≤ 127
InRange (request.Reattach party) = party ≤ 127

abbrev pub Lawful : RequestInvoke → Type 0
Lawful r = FitsSigned w16 r.id × InRange r.request
