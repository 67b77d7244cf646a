-- The text of octets, components and faults. Assumes nothing.
use Rattle.std.specs.Prelude.{ℕ, ◌/◌, ◌%◌, true, List, [], ◌∷◌, ◌++◌, ℤ, Some, None, codes, decimal, Option}
use Rattle.std.specs.List.{flat_map}
use Rattle.std.specs.Fmt.{◌++?◌, digit_glyph, signed_decimal}
use Rattle.ber.specs.Structure.{Part}
use Rattle.components.specs.Component.{Said, invoke, result, error, reject}
use Rattle.components.specs.Faults.{cause_number, layer_of}
use Rattle.components.specs.declared.component.Problem.{Problem}
use Rattle.components.specs.declared.component.Problem.TheVariants.{General, Invoke, ReturnResult, ReturnError}
use Rattle.components.specs.declared.fault.Fault.{Fault}
use Rattle.components.specs.declared.fault.Layer.{Layer}
use Rattle.components.specs.declared.fault.Layer.TheVariants.{Element, Component as ComponentLayer, Argument}

-- a space, and the two hex digits of an octet, in upper case
abbrev pub spaced_pair : ℕ → List ℕ
spaced_pair o = 32 ∷ digit_glyph true (o / 16) ∷ digit_glyph true (o % 16) ∷ []

abbrev pub pairs : List ℕ → List ℕ
pairs os = flat_map spaced_pair os

-- a space and the text of what may be absent, where its type says what it prints
abbrev pub spaced : {X : Type 0} → (X → Option (List ℕ)) → Option X → Option (List ℕ)
spaced output None = Some []
spaced output (Some x) = Some (codes " ") ++? output x

-- a space and the text of what may be absent
abbrev pub spaced_text : {X : Type 0} → (X → List ℕ) → Option X → List ℕ
spaced_text text None = []
spaced_text text (Some x) = codes " " ++ text x

-- a value and its place
abbrev pub parameter_text : Part → List ℕ
parameter_text p = codes "parameter" ++ (pairs p.octets ++ (codes " at " ++ decimal p.place))

-- the operation that a result answers, and the value
abbrev pub answer_text : ℤ × Part → List ℕ
answer_text a = codes "operation " ++ (signed_decimal a.0 ++ (codes " " ++ parameter_text a.1))

abbrev pub problem_text : Problem → List ℕ
problem_text (General code) = codes "general problem " ++ decimal code
problem_text (Invoke code) = codes "invoke problem " ++ decimal code
problem_text (ReturnResult code) = codes "result problem " ++ decimal code
problem_text (ReturnError code) = codes "error problem " ++ decimal code

-- an invoke id, or NULL
abbrev pub id_text : Option ℤ → List ℕ
id_text (Some n) = signed_decimal n
id_text None = codes "none"

abbrev pub component_text : Said → List ℕ
component_text (invoke id operation argument) =
    codes "invoke " ++ (signed_decimal id ++ (codes " operation " ++ (signed_decimal operation ++ spaced_text parameter_text argument)))
component_text (result id answer) = codes "result " ++ (signed_decimal id ++ spaced_text answer_text answer)
component_text (error id code parameter) =
    codes "error " ++ (signed_decimal id ++ (codes " error " ++ (signed_decimal code ++ spaced_text parameter_text parameter)))
component_text (reject id problem) = codes "reject " ++ (id_text id ++ (codes " " ++ problem_text problem))

abbrev pub layer_text : Layer → List ℕ
layer_text Element = codes "element"
layer_text ComponentLayer = codes "component"
layer_text Argument = codes "argument"

-- the cause's number, the place and the layer
abbrev pub fault_text : Fault → List ℕ
fault_text f = codes "fault " ++ (decimal (cause_number f.cause) ++ (codes " at " ++ (decimal f.place ++ (codes " " ++ layer_text (layer_of f.cause)))))
