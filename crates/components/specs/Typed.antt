-- Which values a component has behind its tag and length. The first value that is not as it must be is at fault, or the
-- component's end where one is missing. Assumes nothing.
use Rattle.std.specs.Prelude.{ℕ, ◌+◌, cond, ◌&&◌, List, [], ◌∷◌, length, drop, ℤ, Some, None, Ok, Err, Option, Result, ◌==◌, slice_index}
use Rattle.std.specs.Option.{option_map}
use Rattle.components.specs.declared.component.Problem.{Problem}
use Rattle.components.specs.declared.component.Problem.TheVariants as problem
use Rattle.components.specs.declared.fault.Cause.TheVariants.{Mistyped}
use Rattle.components.specs.declared.fault.Fault.{Fault}
use Rattle.components.specs.Component.{Said, invoke, result, error, reject}
use Rattle.components.specs.Faults.{at}
use Rattle.ber.specs.Integer.{as_integer}
use Rattle.ber.specs.Structure.{Part, values}
use Rattle.ber.specs.Value.{is_tagged}

-- go on with what was read, or stop at the fault
abbrev pub and_then : {X Y : Type 0} → Result X Fault → (X → Result Y Fault) → Result Y Fault
and_then (Ok x) next = next x
and_then (Err fault) next = Err fault

-- what the value at the front was read as, with the values behind it
abbrev pub taken : {X : Type 0} → Part → List Part → Option X → Result (X × List Part) Fault
taken v vs (Some x) = Ok (x, vs)
taken v vs None = Err (at Mistyped v.place)

-- the value at the front, read as it must be; the place `end` is at fault where there is none
abbrev pub first : {X : Type 0} → (Part → Option X) → ℕ → List Part → Result (X × List Part) Fault
first read end [] = Err (at Mistyped end)
first read end (v ∷ vs) = taken v vs (read v)

-- no value is left
abbrev pub nothing_more : List Part → Result (Unit {0}) Fault
nothing_more [] = Ok tt
nothing_more (v ∷ vs) = Err (at Mistyped v.place)

-- nothing, or one value, read as it must be
abbrev pub at_most_one : {X : Type 0} → (Part → Option X) → List Part → Result (Option X) Fault
at_most_one read [] = Ok None
at_most_one read (v ∷ vs) = and_then (taken v vs (read v)) (λ one. and_then (nothing_more one.1) (λ _. Ok (Some one.0)))

-- a value of any type
abbrev pub any : Part → Option Part
any v = Some v

-- an INTEGER
abbrev pub an_integer : Part → Option ℤ
an_integer v = as_integer v.octets

-- an INTEGER, or NULL: 05 00
abbrev pub as_integer_or_null : List ℕ → Option (Option ℤ)
as_integer_or_null xs = cond (is_tagged 5 xs && length xs == 2) (Some None) (option_map Some (as_integer xs))

abbrev pub integer_or_null : Part → Option (Option ℤ)
integer_or_null v = as_integer_or_null v.octets

-- the one octet of contents of a value with the tag t
abbrev pub code_under : ℕ → List ℕ → Option ℕ
code_under t xs = cond (is_tagged t xs && length xs == 3) (Some (slice_index xs 2)) None

-- the first of two that is there
abbrev pub either : {X : Type 0} → Option X → Option X → Option X
either (Some x) y = Some x
either None y = y

-- the problem that one value holds: 80 general, 81 invoke, 82 return result, 83 return error
abbrev pub as_problem : List ℕ → Option Problem
as_problem xs =
    either (option_map problem.General (code_under 0x80 xs))
    (either (option_map problem.Invoke (code_under 0x81 xs))
    (either (option_map problem.ReturnResult (code_under 0x82 xs))
    (option_map problem.ReturnError (code_under 0x83 xs))))

abbrev pub a_problem : Part → Option Problem
a_problem v = as_problem v.octets

-- an INTEGER and one value, and nothing else
abbrev pub integer_and_value : List Part → Option (ℤ × Part)
integer_and_value [] = None
integer_and_value (v ∷ []) = None
integer_and_value (v ∷ w ∷ []) = option_map (λ n. (n, w)) (an_integer v)
integer_and_value (v ∷ w ∷ u ∷ us) = None

-- a SEQUENCE of an INTEGER and one value
abbrev pub an_answer : Part → Option (ℤ × Part)
an_answer v = cond (is_tagged 0x30 v.octets) (integer_and_value (values (v.place + 2) (drop 2 v.octets))) None

-- two INTEGERs, and at most one value behind them, of any type
abbrev pub two_integers : ℕ → List Part → Result (ℤ × ℤ × Option Part) Fault
two_integers end vs =
    and_then (first an_integer end vs) (λ a. and_then (first an_integer end a.1) (λ b.
    and_then (at_most_one any b.1) (λ value. Ok (a.0, b.0, value))))

-- the four components, by the values that each has
abbrev pub an_invoke : ℕ → List Part → Result Said Fault
an_invoke end vs = and_then (two_integers end vs) (λ p. Ok (invoke p.0 p.1 p.2))

abbrev pub a_result : ℕ → List Part → Result Said Fault
a_result end vs =
    and_then (first an_integer end vs) (λ id. and_then (at_most_one an_answer id.1) (λ answer. Ok (result id.0 answer)))

abbrev pub an_error : ℕ → List Part → Result Said Fault
an_error end vs = and_then (two_integers end vs) (λ p. Ok (error p.0 p.1 p.2))

abbrev pub a_reject : ℕ → List Part → Result Said Fault
a_reject end vs =
    and_then (first integer_or_null end vs) (λ id. and_then (first a_problem end id.1) (λ why.
    and_then (nothing_more why.1) (λ _. Ok (reject id.0 why.0))))
