-- What is left of a component's values while they are taken one by one. Assumes nothing.
use Rattle.std.specs.Prelude.{◌≡◌, ℕ, ◌+◌, List, length, Ok, Err, Option, Result}
use Rattle.components.specs.declared.fault.Fault.{Fault}
use Rattle.components.specs.declared.values.Values.{Values}
use Rattle.ber.specs.Structure.{Part, values}
use Rattle.components.specs.Typed.{first}

-- the values left, and the place behind the last of them
abbrev pub left : Values → List Part
left v = values v.place v.rest.now

abbrev pub end_of : Values → ℕ
end_of v = v.place + length v.rest.now

-- the front value was taken as `read` reads it, and the rest is left; or it is at fault
abbrev pub Took : {X : Type 0} → (List ℕ → Option X) → Values → Values → Result X Fault → Type 0
Took read before after (Ok x) = (first (λ v. read v.octets) (end_of before) (left before) ≡ Ok (x, left after)) × (end_of after ≡ end_of before)
Took read before after (Err f) = first (λ v. read v.octets) (end_of before) (left before) ≡ Err f
