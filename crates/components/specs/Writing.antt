-- The octets of a component, and what writing does with them. Assumes nothing.
use Rattle.std.specs.Prelude.{◌≡◌, ℕ, ◌+◌, ◌<◌, List, [], ◌∷◌, ◌++◌, length, drop, ℤ, Some, None, Ok, Err, Option, Result, FitsSigned}
use Rattle.std.specs.Int.{w16}
use Rattle.std.specs.Option.{option_map}
use Rattle.components.specs.declared.component.Problem.{Problem}
use Rattle.components.specs.declared.component.Problem.TheVariants as problem
use Rattle.components.specs.declared.kind.Kind.TheVariants as kind
use Rattle.components.specs.declared.write.Refusal.{Refusal}
use Rattle.components.specs.declared.write.Refusal.TheVariants.{Unreadable, ShortMemory}
use Rattle.components.specs.Component.{Said, invoke, result, error, reject}
use Rattle.ber.specs.Integer.{integer_octets}
use Rattle.components.specs.Reading.{kind_tag, reading}
use Rattle.ber.specs.Structure.{Part, bad_value}
use Rattle.ber.specs.Value.{size, tagged}

-- a parameter that may be absent
abbrev pub optional_octets : Option Part → List ℕ
optional_octets None = []
optional_octets (Some v) = v.octets

-- an invoke id, or NULL
abbrev pub id_octets : Option ℤ → List ℕ
id_octets None = tagged 5 []
id_octets (Some n) = integer_octets n

-- the SEQUENCE of an operation and a value
abbrev pub answer_octets : Option (ℤ × Part) → List ℕ
answer_octets None = []
answer_octets (Some a) = tagged 0x30 (integer_octets a.0 ++ a.1.octets)

abbrev pub problem_octets : Problem → List ℕ
problem_octets (problem.General code) = tagged 0x80 (code ∷ [])
problem_octets (problem.Invoke code) = tagged 0x81 (code ∷ [])
problem_octets (problem.ReturnResult code) = tagged 0x82 (code ∷ [])
problem_octets (problem.ReturnError code) = tagged 0x83 (code ∷ [])

-- a component is a value: its tag, and the values it holds
abbrev pub component_tag : Said → ℕ
component_tag (invoke id operation argument) = kind_tag kind.Invoke
component_tag (result id answer) = kind_tag kind.ReturnResult
component_tag (error id code parameter) = kind_tag kind.ReturnError
component_tag (reject id why) = kind_tag kind.Reject

abbrev pub component_contents : Said → List ℕ
component_contents (invoke id operation argument) = integer_octets id ++ (integer_octets operation ++ optional_octets argument)
component_contents (result id answer) = integer_octets id ++ answer_octets answer
component_contents (error id code parameter) = integer_octets id ++ (integer_octets code ++ optional_octets parameter)
component_contents (reject id why) = id_octets id ++ problem_octets why

-- the element that holds a component: 1C, the length, 91 and the component
abbrev pub encoded : Said → List ℕ
encoded s = tagged 0x1c (0x91 ∷ tagged (component_tag s) (component_contents s))

-- a component with its parameter at the place where it lies in the element
abbrev pub moved : ℕ → Part → Part
moved p v = record { octets = v.octets; place = p }

abbrev pub answer_moved : ℤ → ℤ × Part → ℤ × Part
answer_moved id a = (a.0, moved (5 + (length (integer_octets id) + (2 + length (integer_octets a.0)))) a.1)

abbrev pub placed : Said → Said
placed (invoke id operation argument) = invoke id operation (option_map (moved (5 + (length (integer_octets id) + length (integer_octets operation)))) argument)
placed (result id answer) = result id (option_map (answer_moved id) answer)
placed (error id code parameter) = error id code (option_map (moved (5 + (length (integer_octets id) + length (integer_octets code)))) parameter)
placed (reject id why) = reject id why

-- the octets of a component read as that component
abbrev pub Readable : Said → Type 0
Readable s = reading (encoded s) ≡ Ok (placed s)

-- one well-structured value and nothing else, for which `levels` of nesting are left
pub record One (levels : ℕ) (xs : List ℕ) : Type 0 where
  pub well : bad_value levels 0 xs ≡ None
  pub all : size xs ≡ length xs

-- a parameter, if there is one, is one value
abbrev pub Fit : ℕ → Option Part → Type 0
Fit levels None = Unit {0}
Fit levels (Some v) = One levels v.octets

-- the parameter of a component is one value at its level: the second, or in a result's SEQUENCE the third
abbrev pub Sound : Said → Type 0
Sound (invoke id operation argument) = Fit 7 argument
Sound (result id answer) = Fit 6 (option_map (λ a. a.1) answer)
Sound (error id code parameter) = Fit 7 parameter
Sound (reject id why) = Unit {0}

-- what holds of a value, if there is one
abbrev pub Each : {X : Type 0} → (X → Type 0) → Option X → Type 0
Each P None = Unit {0}
Each P (Some x) = P x

-- ids, operations and errors are numbers of at most two octets
abbrev pub Sized : Said → Type 0
Sized (invoke id operation argument) = FitsSigned w16 id × FitsSigned w16 operation
Sized (result id answer) = FitsSigned w16 id × Each (λ a. FitsSigned w16 a.0) answer
Sized (error id code parameter) = FitsSigned w16 id × FitsSigned w16 code
Sized (reject id why) = Each (λ n. FitsSigned w16 n) id

-- the number that each refusal carries
abbrev pub refusal_number : Refusal → ℕ
refusal_number Unreadable = 16
refusal_number ShortMemory = 8

-- what writing answers, and what it leaves in the memory: the component's octets in front, and behind them what was there;
-- or nothing is written, for a component that would not read, and then for memory that is too short
abbrev pub Written : Said → List ℕ → List ℕ → Result ℕ Refusal → Type 0
Written s before after (Ok n) = Readable s × (n ≡ length (encoded s)) × (after ≡ encoded s ++ drop n before)
Written s before after (Err Unreadable) = (Readable s → ⊥) × (after ≡ before)
Written s before after (Err ShortMemory) = Readable s × (length before < length (encoded s)) × (after ≡ before)
