-- What is in a list, what a filter keeps, and what is told to a leg.
use Rattle.std.proofs.Common.{◌≡◌, ℕ, ◌+◌, ◌≤◌, ◌<◌, ◌≢◌, zero, suc, Bool, true, false, cond, eqb, List, [], ◌∷◌, ◌++◌, length, get_or, map, Some, None, refl, ap, ◌∙◌, sym, ◌⊎◌, inl, inr, arith}
use Rattle.std.specs.List.{filter, find}
use Rattle.std.proofs.lemmas.Bool.{cases_Bool, cases_eq, ne_eqb, eq-eqb}
use Rattle.line.specs.declared.notice.Notice.{Notice}
use Rattle.line.specs.Acts.{notices_to}
use Rattle.tables.specs.declared.conference.Party.{Party}
use Rattle.controller.specs.Steps.{each}
use Rattle.operator.proofs.Counts.{one}

-- what stands in a list
abbrev pub In : {X : Type 0} → X → List X → Type 0
In x [] = ⊥
In x (y ∷ ys) = (x ≡ y) ⊎ In x ys

-- what passes stays
pub in_filter : {X : Type 0} (p : X → Bool) (x : X) (xs : List X) → In x xs → p x ≡ true → In x (filter p xs)
in_filter p x [] is passes = absurd is
in_filter p x (y ∷ ys) (inl is) passes = let here : p y ≡ true = ap p (sym is) ∙ passes in rw here (inl is)
in_filter p x (y ∷ ys) (inr is) passes =
    let rest = in_filter p x ys is passes in
    elim (cases_Bool (p y)) [ inl e ↦ rw e (inr rest) | inr e ↦ rw e rest ]

-- what stayed was there, and passes
pub in_filtered : {X : Type 0} (p : X → Bool) (x : X) (xs : List X) → In x (filter p xs) → In x xs × (p x ≡ true)
in_filtered p x [] is = absurd is
in_filtered {X} p x (y ∷ ys) is = step (p y) refl (in_filtered p x ys) is
  where
    step : (b : Bool) → p y ≡ b → (In x (filter p ys) → In x ys × (p x ≡ true)) → In x (cond b (y ∷ filter p ys) (filter p ys)) → In x (y ∷ ys) × (p x ≡ true)
    step true e more (inl here) = (inl here, ap p here ∙ e)
    step true e more (inr rest) = (inr (more rest).0, (more rest).1)
    step false e more rest = (inr (more rest).0, (more rest).1)

-- what is found is there, and passes
pub in_found : {X : Type 0} (p : X → Bool) (x : X) (xs : List X) → find p xs ≡ Some x → In x xs × (p x ≡ true)
in_found p x [] is = cc
in_found p x (y ∷ ys) is = step (p y) refl (in_found p x ys) is
  where
    step : (b : Bool) → p y ≡ b → (find p ys ≡ Some x → In x ys × (p x ≡ true)) → cond b (Some y) (find p ys) ≡ Some x → In x (y ∷ ys) × (p x ≡ true)
    step true e more found = let here : x ≡ y = cc in (inl here, ap p here ∙ e)
    step false e more found = (inr (more found).0, (more found).1)

-- where none is found, none passes
pub none_found : {X : Type 0} (p : X → Bool) (x : X) (xs : List X) → find p xs ≡ None → In x xs → p x ≡ false
none_found p x [] none is = absurd is
none_found p x (y ∷ ys) none is = step (p y) refl (none_found p x ys) none is
  where
    step : (b : Bool) → p y ≡ b → (find p ys ≡ None → In x ys → p x ≡ false) → cond b (Some y) (find p ys) ≡ None → In x (y ∷ ys) → p x ≡ false
    step true e more found is = cc
    step false e more found (inl here) = ap p here ∙ e
    step false e more found (inr rest) = more found rest

-- what stands in two lists joined stands in one of them
pub in_append : {X : Type 0} (x : X) (xs ys : List X) → In x (xs ++ ys) → In x xs ⊎ In x ys
in_append x [] ys is = inr is
in_append x (z ∷ zs) ys (inl here) = inl (inl here)
in_append x (z ∷ zs) ys (inr rest) = elim (in_append x zs ys rest) [ inl a ↦ inl (inr a) | inr b ↦ inr b ]

-- what stands in a mapped list comes from something
pub in_map : {X Y : Type 0} (f : X → Y) (y : Y) (xs : List X) → In y (map f xs) → (x : X) × In x xs × (y ≡ f x)
in_map f y [] is = absurd is
in_map f y (x ∷ xs) (inl here) = (x, inl refl, here)
in_map f y (x ∷ xs) (inr rest) = let more = in_map f y xs rest in (more.0, inr more.1, more.2)

-- an element stands in its list
pub in_at : {X : Type 0} (xs : List X) (i : ℕ) (d : X) → i < length xs → In (get_or xs i d) xs
in_at [] i d lt = absurd (omega arith)
in_at (x ∷ xs) zero d lt = inl refl
in_at (x ∷ xs) (suc i) d lt = inr (in_at xs i d (omega arith))

-- two filters change places
pub filter_swap : {X : Type 0} (p q : X → Bool) (xs : List X) → filter p (filter q xs) ≡ filter q (filter p xs)
filter_swap p q [] = refl
filter_swap p q (x ∷ xs) =
    let rest = filter_swap p q xs in
    elim (cases_Bool (p x)) [
      | inl a ↦ elim (cases_Bool (q x)) [ inl b ↦ rw (a, b, a) (ap (λ l. x ∷ l) rest) | inr b ↦ rw (a, b) rest ]
      | inr a ↦ elim (cases_Bool (q x)) [ inl b ↦ rw (a, b, a) rest | inr b ↦ rw (a, b) rest ]
    ]

-- a filter on what a map leaves alone
pub filter_map_kept : {X : Type 0} (p : X → Bool) (f : X → X) → ((x : X) → p (f x) ≡ p x) → (xs : List X) → filter p (map f xs) ≡ map f (filter p xs)
filter_map_kept p f kept [] = refl
filter_map_kept p f kept (x ∷ xs) =
    let rest = filter_map_kept p f kept xs in
    let same = kept x in
    elim (cases_Bool (p x)) [ inl a ↦ rw (same, a) (ap (λ l. f x ∷ l) rest) | inr a ↦ rw (same, a) rest ]

-- what passes nowhere is filtered out
pub filter_none : {X : Type 0} (p : X → Bool) (xs : List X) → ((x : X) → In x xs → p x ≡ false) → filter p xs ≡ []
filter_none p [] none = refl
filter_none p (x ∷ xs) none = rw (none x (inl refl)) (filter_none p xs (λ y is. none y (inr is)))

-- of a list of parties told a notice, a leg hears it once for each that is it
pub told_each : (k : ℕ) (n : Notice) (ps : List Party) → notices_to k (each n ps) ≡ map (λ p. n) (filter (λ p. eqb k p.leg) ps)
told_each k n [] = refl
told_each k n (p ∷ ps) =
    let rest = told_each k n ps in
    elim (cases_Bool (eqb k p.leg)) [ inl a ↦ rw a (ap (λ l. n ∷ l) rest) | inr a ↦ rw a rest ]

-- a sum over the legs below n
abbrev pub sum_below : (ℕ → ℕ) → ℕ → ℕ
sum_below f zero = 0
sum_below f (suc n) = sum_below f n + f n

-- zeros make zero
pub sum_zero : (n : ℕ) → sum_below (λ k. 0) n ≡ 0
sum_zero zero = refl
sum_zero (suc n) = let rest = sum_zero n in omega arith

-- two sums make up a third
pub sum_add : (f g h : ℕ → ℕ) (n : ℕ) → ((k : ℕ) → h k ≡ f k + g k) → sum_below h n ≡ sum_below f n + sum_below g n
sum_add f g h zero each = refl
sum_add f g h (suc n) each = let here = each n in let rest = sum_add f g h n each in omega arith

-- a sum with a term at one leg alone is that term
pub sum_past : (l d n : ℕ) → n ≤ l → sum_below (λ k. cond (eqb k l) d 0) n ≡ 0
sum_past l d zero past = refl
sum_past l d (suc n) past =
    let rest = sum_past l d n (omega arith) in
    let other : n ≢ l = omega arith in
    rw (rest, ne_eqb n l other)

-- a sum with a term at one leg alone is that term
pub sum_at : (l d n : ℕ) → l < n → sum_below (λ k. cond (eqb k l) d 0) n ≡ d
sum_at l d zero lt = absurd (omega arith)
sum_at l d (suc n) lt = elim (cases_eq n l) [
  | inl e ↦ let rest = sum_past l d n (omega arith) in let same = eq-eqb n l e in rw (rest, same) (omega arith)
  | inr ne ↦ let rest = sum_at l d n (omega arith) in let other = ne_eqb n l ne in rw (rest, other) (omega arith)
]

-- one party more
one_first : (test : Party → Bool) (p : Party) (ps : List Party) → length (filter test (p ∷ ps)) ≡ one (test p) + length (filter test ps)
one_first test p ps = grind arith

-- one party more, of those that are a leg
one_more : (test : Party → Bool) (k : ℕ) (p : Party) (ps : List Party) → length (filter test (filter (λ q. eqb k q.leg) (p ∷ ps))) ≡ cond (eqb k p.leg) (one (test p)) 0 + length (filter test (filter (λ q. eqb k q.leg) ps))
one_more test k p ps = let first = one_first test p (filter (λ q. eqb k q.leg) ps) in grind arith

-- the parties that pass a test are those of each leg, added up
pub by_legs : (test : Party → Bool) (n : ℕ) (ps : List Party) → ((p : Party) → In p ps → p.leg < n) → length (filter test ps) ≡ sum_below (λ k. length (filter test (filter (λ p. eqb k p.leg) ps))) n
by_legs test n [] below = sym (sum_zero n)
by_legs test n (p ∷ ps) below =
    let rest = by_legs test n ps (λ q is. below q (inr is)) in
    let here = sum_at p.leg (one (test p)) n (below p (inl refl)) in
    let both = sum_add (λ k. cond (eqb k p.leg) (one (test p)) 0) (λ k. length (filter test (filter (λ p. eqb k p.leg) ps))) (λ k. length (filter test (filter (λ q. eqb k q.leg) (p ∷ ps)))) n (λ k. one_more test k p ps) in
    let first = one_first test p ps in
    omega arith
