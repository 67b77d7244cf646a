-- Values that are well at one place are so at another, and with more levels of nesting left. Assumes nothing.
use Rattle.std.proofs.Common.{◌≡◌, ℕ, zero, suc, ◌+◌, ◌≤◌, Bool, true, false, cond, List, [], ◌∷◌, slice_index, Some, None, Option, refl, ap, ◌∙◌, arith}
use Rattle.ber.specs.Structure.{or_else, first_bad, bad_value, bad_list}
use Rattle.ber.specs.Value.{begins_with_value, is_constructed, tag, contents}
use Rattle.ber.proofs.Taking.{both_none}

-- where each value that is well by one rule is so by another, at any place, so is a list
first_carries : (bad bad' : ℕ → List ℕ → Option ℕ) → ((p q : ℕ) (xs : List ℕ) → bad p xs ≡ None → bad' q xs ≡ None) → (k p q : ℕ) (xs : List ℕ) → first_bad bad k p xs ≡ None → first_bad bad' k q xs ≡ None
unfolding first_bad
first_carries bad bad' each k p q [] well = refl
first_carries bad bad' each zero p q (x ∷ xs) well =
    let parts = both_none _ _ well in
    ap (λ o. or_else o (first_bad bad' (suc (slice_index xs 0)) (suc q) xs)) (each p q (x ∷ xs) parts.0) ∙ first_carries bad bad' each (suc (slice_index xs 0)) (suc p) (suc q) xs parts.1
first_carries bad bad' each (suc k) p q (x ∷ xs) well = first_carries bad bad' each k (suc p) (suc q) xs well

-- one value
pub value_carries : (n m p q : ℕ) (xs : List ℕ) → n ≤ m → bad_value n p xs ≡ None → bad_value m q xs ≡ None
unfolding bad_value
value_carries zero m p q xs more well = grind arith
value_carries (suc n) zero p q xs more well = absurd (omega arith)
value_carries (suc n) (suc m) p q xs more well = at (λ p q ys. value_carries n m p q ys (omega (arith, more))) (begins_with_value xs) (is_constructed (tag xs)) well
  where
    at : ((p q : ℕ) (ys : List ℕ) → bad_value n p ys ≡ None → bad_value m q ys ≡ None) → (whole nested : Bool)
        → cond whole (cond nested (first_bad (bad_value n) 0 (p + 2) (contents xs)) None) (Some p) ≡ None → cond whole (cond nested (first_bad (bad_value m) 0 (q + 2) (contents xs)) None) (Some q) ≡ None
    at each true true h = first_carries (bad_value n) (bad_value m) each 0 (p + 2) (q + 2) (contents xs) h
    at each true false h = refl
    at each false nested h = grind arith

-- a list of values
pub list_carries : (n m p q : ℕ) (xs : List ℕ) → n ≤ m → bad_list n p xs ≡ None → bad_list m q xs ≡ None
unfolding bad_list
list_carries n m p q xs more well = first_carries (bad_value n) (bad_value m) (λ p q ys. value_carries n m p q ys more) 0 p q xs well
