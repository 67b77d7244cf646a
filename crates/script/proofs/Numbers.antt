-- Numbers from 255 on stay there as digits are added. Assumes nothing.
use Rattle.std.proofs.Common.{◌≡◌, ℕ, suc, ◌+◌, ◌*◌, ◌<◌, ◌≤◌, min, false, eqb, List, [], ◌∷◌, length, get_or, drop, Some, None, sym, refl, ap, ◌∙◌, add-one, drop-cons, arith}
use Rattle.std.proofs.lemmas.List.{drop_all}
use Rattle.std.specs.Option.{option_and_then}
use Rattle.script.specs.Words.{digit, digits_behind, number, stopped}

-- numbers that are the same up to 255 stay so
pub same_digits : (a b : ℕ) (bs : List ℕ) → min a 255 ≡ min b 255 → stopped (digits_behind a bs) ≡ stopped (digits_behind b bs)
same_digits a b [] e = grind arith
same_digits a b (x ∷ bs) e =
    elim (digit x) as (λ o. stopped (option_and_then (λ d. digits_behind (10 * a + d) bs) o) ≡ stopped (option_and_then (λ d. digits_behind (10 * b + d) bs) o)) [
      | None ↦ refl
      | Some d ↦ same_digits (10 * a + d) (10 * b + d) bs (omega arith)
    ]

-- a digit more of a word
pub next_digit : (v w d i : ℕ) (word : List ℕ) → i < length word → digit (get_or word i 0) ≡ Some d → min w 255 ≡ min (10 * v + d) 255 → stopped (digits_behind w (drop (i + 1) word)) ≡ stopped (digits_behind v (drop i word))
next_digit v w d i word h e m = rw (add-one, drop-cons word i 0, e) (same_digits w (10 * v + d) (drop (suc i) word) m)

-- all digits of a word
pub last_digit : (v i : ℕ) (word : List ℕ) → length word ≤ i → eqb (length word) 0 ≡ false → v < 256 → stopped (digits_behind v (drop i word)) ≡ stopped (digits_behind 0 word) → Some v ≡ number word
last_digit v i word h n small e =
    let below : min v 255 ≡ v = omega arith in
    let done : stopped (digits_behind v (drop i word)) ≡ stopped (Some v) = ap (λ bs. stopped (digits_behind v bs)) (drop_all i word h) in
    rw n (ap Some (sym below) ∙ sym done ∙ e)
