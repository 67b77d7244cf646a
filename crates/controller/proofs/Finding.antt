-- What is found in a list.
use Rattle.std.proofs.Common.{◌≡◌, Bool, true, false, cond, List, [], ◌∷◌, Some, Contains, refl, ap, sym, ◌∙◌, arith}
use Rattle.std.specs.List.{find}
use Rattle.std.proofs.lemmas.List.Elements.{Contains-append_right}

-- it stands in the list, and passes the test
pub found : {X : Type 0} (p : X → Bool) (x : X) (xs : List X) → find p xs ≡ Some x → Contains xs x × (p x ≡ true)
found p x [] is = cc
found {X} p x (y ∷ ys) is = step (p y) refl (found p x ys) is
  where
    step : (b : Bool) → p y ≡ b → (find p ys ≡ Some x → Contains ys x × (p x ≡ true)) → cond b (Some y) (find p ys) ≡ Some x → Contains (y ∷ ys) x × (p x ≡ true)
    step true passes later here = let same : x ≡ y = cc in ((0, omega arith, sym same), ap p same ∙ passes)
    step false fails later there = let rest = later there in (Contains-append_right (y ∷ []) ys x rest.0, rest.1)
