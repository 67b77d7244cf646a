-- What a successful reading of values says of the values. Assumes nothing.
use Rattle.std.proofs.Common.{◌≡◌, ℕ, ◌⊎◌, List, [], ◌∷◌, Some, None, Ok, Err, Option, Result, refl, ap, ◌∙◌, inl, inr, arith}
use Rattle.components.specs.declared.fault.Fault.{Fault}
use Rattle.ber.specs.Structure.{Part}
use Rattle.components.specs.Typed.{and_then, taken, first, nothing_more, at_most_one}

-- both steps went well
pub then_parts : {X Y : Type 0} (r : Result X Fault) (next : X → Result Y Fault) (y : Y) → and_then r next ≡ Ok y → (x : X) × (r ≡ Ok x) × (next x ≡ Ok y)
then_parts (Ok x) next y h = (x, refl, h)
then_parts (Err f) next y h = grind arith

-- the value was read, and the others are left
taken_parts : {X : Type 0} (v : Part) (vs : List Part) (o : Option X) (x : X) (ws : List Part) → taken v vs o ≡ Ok (x, ws) → (o ≡ Some x) × (vs ≡ ws)
taken_parts v vs o x ws h = grind arith

-- there was a value at the front, and it reads
pub first_parts : {X : Type 0} (read : Part → Option X) (end : ℕ) (vs : List Part) (x : X) (ws : List Part) → first read end vs ≡ Ok (x, ws) → (v : Part) × (vs ≡ v ∷ ws) × (read v ≡ Some x)
first_parts read end [] x ws h = grind arith
first_parts read end (v ∷ vs) x ws h =
    let parts = taken_parts v vs (read v) x ws h in
    (v, ap (λ us. v ∷ us) parts.1, parts.0)

-- nothing was left
pub nothing_parts : (vs : List Part) → nothing_more vs ≡ Ok tt → vs ≡ []
nothing_parts vs h = grind arith

-- there was no value, or one that reads
pub one_parts : {X : Type 0} (read : Part → Option X) (vs : List Part) (o : Option X) → at_most_one read vs ≡ Ok o
    → ((vs ≡ []) × (o ≡ None)) ⊎ ((v : Part) × (x : X) × (vs ≡ v ∷ []) × (read v ≡ Some x) × (o ≡ Some x))
one_parts read [] o h = inl (refl, cc)
one_parts read (v ∷ vs) o h =
    let a = then_parts (taken v vs (read v)) (λ one. and_then (nothing_more one.1) (λ _. Ok (Some one.0))) o h in
    let t = taken_parts v vs (read v) a.0.0 a.0.1 a.1 in
    let b = then_parts (nothing_more a.0.1) (λ _. Ok (Some a.0.0)) o a.2 in
    let none = nothing_parts a.0.1 b.1 in
    inr (v, a.0.0, ap (λ us. v ∷ us) (t.1 ∙ none), t.0, cc)
