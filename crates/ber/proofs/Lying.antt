-- The values of well-structured octets lie one behind the other, and together are the octets. Assumes nothing.
use Rattle.std.proofs.Common.{◌≡◌, ℕ, zero, suc, ◌+◌, ◌<◌, ◌≤◌, List, [], ◌∷◌, ◌++◌, length, None, sym, refl, ap, ◌∙◌, subst, arith, length-drop}
use Rattle.std.specs.List.{flat_map, AllByRecursion as All}
use Rattle.std.proofs.lemmas.List.{take-append-drop}
use Rattle.ber.specs.Structure.{Part, bad_value, bad_list, values}
use Rattle.ber.specs.Value.{size, front, behind}
use Rattle.ber.proofs.Nesting.{no_values, values_step, front_length}
use Rattle.ber.proofs.Taking.{well_parts, well_whole, front_same}

-- values from a place on, each well structured for n levels
abbrev pub Lie : ℕ → ℕ → List Part → Type 0
Lie n p [] = Unit {0}
Lie n p (v ∷ vs) = (v.place ≡ p) × (bad_value n p v.octets ≡ None) × Lie n (p + length v.octets) vs

-- their octets, one after the other
abbrev pub together : List Part → List ℕ
together vs = flat_map (λ v. v.octets) vs

-- well-structured octets are their values, laid one behind the other; k bounds their number, for the induction
pub values_lie : (k n p : ℕ) (xs : List ℕ) → length xs ≤ k → bad_list n p xs ≡ None → Lie n p (values p xs) × (together (values p xs) ≡ xs)
values_lie k n p [] h well = let e = sym (no_values p [] refl) in let P : List Part → Type 0 = λ vs. Lie n p vs × (together vs ≡ []) in subst P e (tt, refl)
values_lie zero n p (x ∷ xs) h well = absurd (omega arith)
values_lie (suc k) n p (x ∷ xs) h well =
    let ys = x ∷ xs in
    let some : 0 < length ys = omega arith in
    let parts = well_parts n p ys some well in
    let whole = well_whole n p ys parts.0 in
    let less : length (behind ys) ≤ k = omega (arith, length-drop (size ys) ys, h) in
    let rest = values_lie k n (p + size ys) (behind ys) less parts.1 in
    let long = front_length ys whole in
    let Q : ℕ → Type 0 = λ m. Lie n (p + m) (values (p + size ys) (behind ys)) in
    let P : List Part → Type 0 = λ vs. Lie n p vs × (together vs ≡ ys) in
    subst P (sym (values_step p ys some))
    ((refl, front_same n p ys whole ∙ parts.0, subst Q (sym long) rest.0), ap (λ l. front ys ++ l) rest.1 ∙ take-append-drop (size ys) ys)

-- what holds of all octets holds of those in front and of those behind
pub all_front : (P : ℕ → Type 0) (xs ys : List ℕ) → All P (xs ++ ys) → All P xs
all_front P [] ys all = tt
all_front P (x ∷ xs) ys all = (all.0, all_front P xs ys all.1)

pub all_behind : (P : ℕ → Type 0) (xs ys : List ℕ) → All P (xs ++ ys) → All P ys
all_behind P [] ys all = all
all_behind P (x ∷ xs) ys all = all_behind P xs ys all.1
