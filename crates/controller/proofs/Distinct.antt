-- A list of numbers that are all different is no longer than there are such numbers.
use Rattle.std.proofs.Common.{◌≡◌, ℕ, ◌+◌, ◌<◌, ◌≤◌, ◌==◌, not, cond, List, [], ◌∷◌, length, filter, refl, eq-eqb, inl, inr, suc, zero, arith}
use Rattle.std.proofs.lemmas.Bool.{cases_lt}
use Rattle.std.specs.List.{count_by}
use Rattle.std.proofs.lemmas.List.Sums.{sum_by-cons}

-- how many times a number stands in a list
abbrev pub times : ℕ → List ℕ → ℕ
times k xs = count_by (λ x. x == k) xs

-- the list without a number
abbrev without : ℕ → List ℕ → List ℕ
without n xs = filter (λ x. not (x == n)) xs

-- a number in front is counted
pub times-cons : (j x : ℕ) (xs : List ℕ) → times j (x ∷ xs) ≡ cond (x == j) 1 0 + times j xs
times-cons j x xs = sum_by-cons (λ y. cond (y == j) 1 0) x xs

-- no number stands more often in what is left
times-without-le : (n j : ℕ) (xs : List ℕ) → times j (without n xs) ≤ times j xs
times-without-le n j [] = omega arith
times-without-le n j (x ∷ xs) = grind (arith, times-cons j x xs, times-cons j x (without n xs), times-without-le n j xs)

-- the number that is left out stands nowhere in it
times-without : (n : ℕ) (xs : List ℕ) → times n (without n xs) ≡ 0
times-without n [] = refl
times-without n (x ∷ xs) = grind (arith, times-cons n x (without n xs), times-without n xs)

-- the length is that of what is left, and one for each time
length-without : (n : ℕ) (xs : List ℕ) → length xs ≡ times n xs + length (without n xs)
length-without n [] = refl
length-without n (x ∷ xs) = grind (arith, times-cons n x xs, length-without n xs)

-- what stands in front stands there at least once
times-cons_same : (x : ℕ) (xs : List ℕ) → 1 ≤ times x (x ∷ xs)
times-cons_same x xs = grind (arith, times-cons x x xs, eq-eqb x x refl)

-- what stands in the list without n is below n, if all is up to n
below-without : (n j : ℕ) (xs : List ℕ) → (1 ≤ times j xs → j < suc n) → 1 ≤ times j (without n xs) → j < n
below-without n j xs below there = elim (cases_lt j n) [
  | inl lt ↦ lt
  | inr ge ↦
      let up_to : j < suc n = below (omega (arith, times-without-le n j xs, there)) in
      let same : j ≡ n = omega arith in
      let gone : times j (without n xs) ≡ 0 = rw same (times-without n xs) in
      omega arith
]

-- each at most once, and all below n: at most n of them
pub length-distinct : (n : ℕ) (xs : List ℕ) → ((j : ℕ) → times j xs ≤ 1) → ((j : ℕ) → 1 ≤ times j xs → j < n) → length xs ≤ n
length-distinct zero [] once below = omega arith
length-distinct zero (x ∷ xs) once below = let none : x < 0 = below x (times-cons_same x xs) in omega arith
length-distinct (suc n) xs once below =
    let fewer : length (without n xs) ≤ n =
    length-distinct n (without n xs) (λ j. omega (arith, times-without-le n j xs, once j)) (λ j there. below-without n j xs (below j) there) in
    omega (arith, length-without n xs, once n)

-- 0 and k in front of numbers from 1 to n that leave k out: all different, and all below n + 1
once-but : (k j : ℕ) (xs : List ℕ) → 1 ≤ k → times k xs ≡ 0 → times 0 xs ≡ 0 → times j xs ≤ 1 → times j (0 ∷ k ∷ xs) ≤ 1
once-but k j xs from none no_zero once = grind (arith, times-cons j 0 (k ∷ xs), times-cons j k xs)

-- and below n + 1
below-but : (n k j : ℕ) (xs : List ℕ) → k ≤ n → (1 ≤ times j xs → (1 ≤ j) × (j ≤ n)) → 1 ≤ times j (0 ∷ k ∷ xs) → j < n + 1
below-but n k j xs to range there = elim (cases_lt n j) [
  | inl over ↦
      let zero' : times j xs ≡ 0 = elim (cases_lt (times j xs) 1) [ inl lt ↦ omega arith | inr ge ↦ let in_range : j ≤ n = (range ge).1 in absurd (omega arith) ] in
      grind (arith, times-cons j 0 (k ∷ xs), times-cons j k xs)
  | inr ok ↦ omega arith
]

-- numbers from 1 to n, each at most once, and one of them not at all: there are fewer than n
pub length-distinct_but : (n k : ℕ) (xs : List ℕ) → 1 ≤ k → k ≤ n → times k xs ≡ 0 → ((j : ℕ) → times j xs ≤ 1) → ((j : ℕ) → 1 ≤ times j xs → (1 ≤ j) × (j ≤ n)) → length xs < n
length-distinct_but n k xs from to none once range =
    let no_zero : times 0 xs ≡ 0 = elim (cases_lt (times 0 xs) 1) [ inl lt ↦ omega arith | inr ge ↦ let off : 1 ≤ 0 = (range 0 ge).0 in absurd (omega arith) ] in
    let more : length (0 ∷ k ∷ xs) ≤ n + 1 =
    length-distinct (n + 1) (0 ∷ k ∷ xs) (λ j. once-but k j xs from none no_zero (once j)) (λ j there. below-but n k j xs to (range j) there) in
    omega arith
