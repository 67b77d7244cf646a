-- Each request is made by one element, and by no other. Assumes nothing.
use Rattle.std.proofs.Common.{◌≡◌, true, ℕ, ◌≤◌, List, ◌++◌, length, take, drop, ℤ, pos, negsuc, Some, None, Ok, Err, Option, Result, subst, sym, refl, ap, ◌∙◌, arith, lit<, w16, SFits}
use Rattle.std.specs.Option.{option_map}
use Rattle.std.proofs.lemmas.List.{take-append-drop}
use Rattle.std.proofs.lemmas.Bool.Decides.{nat_tests}
use Rattle.components.specs.declared.fault.Fault.{Fault}
use Rattle.facility.specs.declared.operation.Operation.{Operation}
use Rattle.facility.specs.declared.operation.Operation.TheVariants as operation
use Rattle.facility.specs.declared.request.Request.{Request}
use Rattle.facility.specs.declared.request.RequestInvoke.{RequestInvoke}
use Rattle.components.specs.declared.write.Refusal.{Refusal}
use Rattle.components.specs.declared.write.Refusal.TheVariants.{Unreadable, ShortMemory}
use Rattle.components.specs.Component.{Said, invoke}
use Rattle.components.specs.Reading.{reading}
use Rattle.facility.specs.Requests.{number_octets, a_number, two_numbers, operation_of, asks, octets_in, by_operation, requested, requesting, request_code, request_argument, request_said, request_octets, InRange, Lawful}
use Rattle.facility.specs.Writing.{Wrote}
use Rattle.ber.specs.Structure.{Part, first_bad, bad_value}
use Rattle.components.specs.Typed.{and_then}
use Rattle.ber.specs.Value.{is_tagged, tagged}
use Rattle.components.specs.Writing.{optional_octets, component_contents, encoded, moved, One, Fit, Readable, Written}
use Rattle.ber.proofs.Nesting.{value_plain}
use Rattle.ber.proofs.Numbers.{tagged_is}
use Rattle.components.proofs.ReadBack.{readable_from}
use Rattle.components.proofs.Returning.{integer_long}
use Rattle.components.proofs.Rewriting.{code_rewrites}

-- the argument of a request as a part of its component
abbrev argument_part : Option (List ℕ) → Option Part
argument_part o = option_map (λ xs. record { octets = xs; place = 0 }) o

-- a number is one value, and so are two in a SEQUENCE
number_one : (n : ℕ) → One 7 (number_octets n)
number_one n = record { well = value_plain 7 0 (number_octets n) (lit< tt) refl refl; all = refl }

numbers_one : (a b : ℕ) → One 7 (tagged 0x30 (number_octets a ++ number_octets b))
unfolding bad_value first_bad
numbers_one a b = record { well = refl; all = refl }

-- the argument of a request is one value, of at most eight octets
argument_fits : (r : Request) → Fit 7 (argument_part (request_argument r))
argument_fits r = grind (arith, number_one, numbers_one)

argument_short : (r : Request) → length (optional_octets (argument_part (request_argument r))) ≤ 8
argument_short r = grind arith

-- the codes are numbers of one octet
code_fits : (r : Request) → SFits w16 (pos (request_code r))
code_fits r = record { sfits = grind arith }

-- what a request's own component asks is that request
component_asks : (end p : ℕ) (id : ℤ) (r : Request) → InRange r
    → by_operation end id (option_map (moved p) (argument_part (request_argument r))) (operation_of (pos (request_code r))) ≡ Ok (record { id = id; request = r })
component_asks end p id r fits = grind (arith, nat_tests)

-- the component of a request reads back
pub request_reads : (a : RequestInvoke) → Lawful a → Readable (request_said a)
request_reads a lawful =
    let r = a.request in
    let s = invoke a.id (pos (request_code r)) (argument_part (request_argument r)) in
    let few : length (component_contents s) ≤ 127 = grind (arith, integer_long, argument_short) in
    readable_from s (lawful.0, code_fits r) (argument_fits r) few

-- whoever answers what octets request answers the request that they are of
pub request_every : (xs : List ℕ) (a : RequestInvoke) (answer : Result RequestInvoke Fault) → Lawful a → xs ≡ request_octets a → answer ≡ requesting xs → answer ≡ Ok a
request_every xs a answer lawful is answer_is =
    answer_is ∙ ap (λ t. and_then t (requested (length xs))) (ap reading is ∙ request_reads a lawful) ∙ component_asks (length xs) _ a.id a.request lawful.1

-- a number that was read
number_was : (xs : List ℕ) (n : ℕ) → a_number xs ≡ Some n → (xs ≡ number_octets n) × (n ≤ 127)
number_was xs n is = grind (arith, nat_tests, code_rewrites)

-- two numbers that were read
numbers_were : (xs : List ℕ) (a b : ℕ) → two_numbers xs ≡ Some (a, b) → (xs ≡ tagged 0x30 (number_octets a ++ number_octets b)) × ((a ≤ 127) × (b ≤ 127))
numbers_were xs a b is =
    let there : is_tagged 0x30 xs ≡ true = grind (arith, nat_tests) in
    let first = number_was (take 3 (drop 2 xs)) a (grind (arith, nat_tests)) in
    let second = number_was (drop 3 (drop 2 xs)) b (grind (arith, nat_tests)) in
    let joined = sym (take-append-drop 3 (drop 2 xs)) ∙ ap (λ l. l ++ drop 3 (drop 2 xs)) first.0 ∙ ap (λ l. number_octets a ++ l) second.0 in
    (tagged_is 0x30 xs there ∙ ap (tagged 0x30) joined, (first.1, second.1))

-- what was asked by a code and an argument is a request that has them, with its numbers in range
record Asked (code : ℤ) (o : Option (List ℕ)) (r : Request) : Type 0 where
  code_is : code ≡ pos (request_code r)
  argument_is : o ≡ request_argument r
  in_range : InRange r

-- each operation, with and without an argument
asks_were : (code : ℤ) (op : Operation) (o : Option (List ℕ)) (r : Request) → operation_of code ≡ Some op → asks op o ≡ Some r → Asked code o r
asks_were (negsuc n) op o r op_is r_is = cc
asks_were (pos n) op None r op_is r_is = grind (arith, nat_tests)
asks_were (pos n) operation.Begin (Some xs) r op_is r_is = grind (arith, nat_tests, number_was xs)
asks_were (pos n) operation.Add (Some xs) r op_is r_is = grind (arith, nat_tests, number_was xs)
asks_were (pos n) operation.Split (Some xs) r op_is r_is = grind (arith, nat_tests, numbers_were xs)
asks_were (pos n) operation.Drop (Some xs) r op_is r_is = grind (arith, nat_tests, number_was xs)
asks_were (pos n) operation.Isolate (Some xs) r op_is r_is = grind (arith, nat_tests, number_was xs)
asks_were (pos n) operation.Reattach (Some xs) r op_is r_is = grind (arith, nat_tests, number_was xs)
asks_were (pos n) operation.PartyDisc (Some xs) r op_is r_is = cc

-- a parameter has the octets of its part
same_octets : (o : Option Part) (r : Request) → octets_in o ≡ request_argument r → optional_octets o ≡ optional_octets (argument_part (request_argument r))
same_octets o r is = grind arith

-- an invoke with this id, operation and argument is lawful, and has the octets of the request
pub request_was : (s : Said) (id code : ℤ) (o : Option Part) (op : Operation) (r : Request) → s ≡ invoke id code o → SFits w16 id → operation_of code ≡ Some op → asks op (octets_in o) ≡ Some r
    → Lawful (record { id = id; request = r }) × (encoded s ≡ request_octets (record { id = id; request = r }))
request_was s id code o op r s_is fits op_is r_is =
    let known = asks_were code op (octets_in o) r op_is r_is in
    let code_is = known.code_is in
    let octets = same_octets o r known.argument_is in
    ((fits, known.in_range), cc)

-- writing the component of a request writes the request
pub request_written : (a : RequestInvoke) (s : Said) (before after : List ℕ) (r : Result ℕ Refusal) → Lawful a → s ≡ request_said a → Written s before after r → Wrote a before after r
request_written a s before after r lawful is told =
    let P : Said → Type 0 = λ t. Written t before after r in
    by r (subst P is told)
  where
    by : (r : Result ℕ Refusal) → Written (request_said a) before after r → Wrote a before after r
    by (Ok n) told = (lawful, told.1, told.2)
    by (Err Unreadable) told = absurd (told.0 (request_reads a lawful))
    by (Err ShortMemory) told = (lawful, told.1, told.2)
