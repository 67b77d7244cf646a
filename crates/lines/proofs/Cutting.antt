-- Where a line ends in a block, and how blocks go together. Assumes nothing.
use Rattle.std.proofs.Common.{◌≡◌, ℕ, Bool, Option, inl, inr, zero, suc, ◌+◌, ◌<◌, true, false, cond, eqb, List, [], ◌∷◌, ◌++◌, length, length-drop, get_or, take, drop, Some, None, sym, refl, ap, append_assoc, append-nil, add-one, arith}
use Rattle.std.specs.List.{position}
use Rattle.std.proofs.lemmas.Bool.{cases_order}
use Rattle.std.proofs.lemmas.Bool.Decides.{nat_tests}
use Rattle.std.proofs.lemmas.List.Quantifiers.{position-Some}
use Rattle.std.proofs.lemmas.List.Sums.{fails_before_first}
use Rattle.memchr.specs.Find.{IsFirstByte}
use Rattle.lines.specs.Cutting.{ended, going_on}

-- none of the first `n` bytes is a line feed
abbrev pub Unbroken : List ℕ → ℕ → Type 0
Unbroken bs n = (k : ℕ) → k < n → eqb (get_or bs k 0) 10 ≡ false

-- a line ends at the byte `n`
cut : (kept bs : List ℕ) (n : ℕ) → n < length bs → Unbroken bs n → eqb (get_or bs n 0) 10 ≡ true → (ended kept bs ≡ (kept ++ take n bs) ∷ ended [] (drop (suc n) bs)) × (going_on kept bs ≡ going_on [] (drop (suc n) bs))
cut kept [] n h u t = absurd (omega arith)
cut kept (b ∷ bs) zero h u t = (rw (t, append-nil), rw t)
cut kept (b ∷ bs) (suc n) h u t =
    let further = u 0 (omega arith) in
    let then = cut (kept ++ b ∷ []) bs n (omega arith) (λ k l. u (suc k) (omega arith)) t in
    (rw further (rw append_assoc at then.0), rw further then.1)

-- no line ends
uncut : (kept bs : List ℕ) → Unbroken bs (length bs) → (ended kept bs ≡ []) × (going_on kept bs ≡ kept ++ bs)
uncut kept [] u = (refl, sym (append-nil kept))
uncut kept (b ∷ bs) u =
    let further = u 0 (omega arith) in
    let then = uncut (kept ++ b ∷ []) bs (λ k l. u (suc k) (omega arith)) in
    (rw further then.0, rw further (rw append_assoc at then.1))

-- where there is no line feed, none of the bytes is one
unbroken : (bs : List ℕ) → position (λ b. eqb b 10) bs ≡ None → Unbroken bs (length bs)
unbroken bs e k h = fails_before_first (λ b. eqb b 10) bs k 0 (grind (arith, nat_tests))

-- the first byte that passes a test is at its position
first_at : (p : ℕ → Bool) (bs : List ℕ) (r o : Option ℕ) → position p bs ≡ o → IsFirstByte p bs r → r ≡ o
first_at p bs None None e first = refl
first_at p bs None (Some i) e first =
    let at = position-Some p bs i 0 e in
    absurd (first i (omega arith) at.0 at.1)
first_at p bs (Some k) None e first =
    let high = first.0.high in
    let fails : p (get_or bs k 0) ≡ false = fails_before_first p bs k 0 (grind (arith, nat_tests)) in
    cc
first_at p bs (Some k) (Some i) e first =
    let at = position-Some p bs i 0 e in
    elim (cases_order k i) [
      | inl same ↦ ap Some same
      | inr (inl below) ↦ let fails = at.2 k below in cc
      | inr (inr above) ↦ absurd (first.0.before i (omega arith) above at.1)
    ]

pub first_is : (p : ℕ → Bool) (bs : List ℕ) (r : Option ℕ) → IsFirstByte p bs r → r ≡ position p bs
first_is p bs r first = first_at p bs r (position p bs) refl first

-- a line ends at the first line feed
pub takes_line : (was bs : List ℕ) (n : ℕ) → position (λ b. eqb b 10) bs ≡ Some n → (rest : List ℕ) → rest ≡ drop (n + 1) bs → (line : List ℕ) → line ≡ was ++ take n bs → (length rest < length bs) × (ended was bs ≡ line ∷ ended [] rest) × (going_on was bs ≡ going_on [] rest)
takes_line was bs n e rest er line el =
    let at = position-Some (λ b. eqb b 10) bs n 0 e in
    let done = cut was bs n at.0 at.2 at.1 in
    let shorter : length (drop (suc n) bs) < length bs = omega (arith, length-drop (suc n) bs) in
    rw (er, el, add-one n) (shorter, done.0, done.1)

-- the line goes on where there is none
pub takes_all : (was bs : List ℕ) → position (λ b. eqb b 10) bs ≡ None → (line : List ℕ) → line ≡ was ++ bs → (ended was bs ≡ []) × (going_on was bs ≡ line)
takes_all was bs e line el =
    let done = uncut was bs (unbroken bs e) in
    (done.0, rw el done.1)

-- what goes on behind two blocks, and which lines end in them
pub going_on_two : (kept a b : List ℕ) → going_on kept (a ++ b) ≡ going_on (going_on kept a) b
going_on_two kept [] b = refl
going_on_two kept (x ∷ a) b =
    elim (eqb x 10) as (λ v. cond v (going_on [] (a ++ b)) (going_on (kept ++ x ∷ []) (a ++ b)) ≡ going_on (cond v (going_on [] a) (going_on (kept ++ x ∷ []) a)) b) [
      | true ↦ going_on_two [] a b
      | false ↦ going_on_two (kept ++ x ∷ []) a b
    ]

pub ended_two : (kept a b : List ℕ) → ended kept (a ++ b) ≡ ended kept a ++ ended (going_on kept a) b
ended_two kept [] b = refl
ended_two kept (x ∷ a) b =
    elim (eqb x 10) as (λ v. cond v (kept ∷ ended [] (a ++ b)) (ended (kept ++ x ∷ []) (a ++ b)) ≡ cond v (kept ∷ ended [] a) (ended (kept ++ x ∷ []) a) ++ ended (cond v (going_on [] a) (going_on (kept ++ x ∷ []) a)) b) [
      | true ↦ ap (λ ls. kept ∷ ls) (ended_two [] a b)
      | false ↦ ended_two (kept ++ x ∷ []) a b
    ]
