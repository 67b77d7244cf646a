-- The next id of a circle, and that it is free.
use Rattle.std.proofs.Common.{◌≡◌, ◌≢◌, ℕ, ◌+◌, ◌-◌, ◌<◌, ◌≤◌, ◌==◌, Bool, true, false, cond, not, min, List, [], ◌∷◌, length, filter, is_some, unwrap_or, Some, None, Option, MatchOption, inl, inr, refl, suc, zero, arith}
use Rattle.std.proofs.lemmas.Bool.{cases_eq, cases_lt, not-true}
use Rattle.std.proofs.lemmas.Bool.Decides.{nat_tests}
use Rattle.std.proofs.lemmas.List.Filters.{length-filter_both}
use Rattle.std.proofs.lemmas.List.Folds.{find-append}
use Rattle.std.proofs.lemmas.List.Sums.{count_by-le-length, length-filter, sum_by-cons}
use Rattle.std.specs.List.{count_by, find, range_with_len}
use Rattle.tables.specs.declared.conference.Conference.{Conference}
use Rattle.tables.specs.Circles.{ids_after, next_id}
use Rattle.tables.specs.Table.{Table, conference_with, next_conference, next_party, parties_of, party_with}

-- the ids from one to another: it, and those after it
pub row-cons : (i to : ℕ) → i ≤ to → range_with_len i (to + 1 - i) ≡ i ∷ range_with_len (i + 1) (to + 1 - (i + 1))
row-cons i to le =
    let n : to + 1 - i ≡ suc (to + 1 - (i + 1)) = omega arith in
    rw n refl

-- what is found first from an id on is that id, unless it is in use
pub found_here : (is_used : ℕ → Bool) (id to : ℕ) (first : Option ℕ) → id ≤ to → first ≡ find (λ i. not (is_used i)) (range_with_len id (to + 1 - id)) → false ≡ is_used id → Some id ≡ first
found_here is_used id to first le rest free = rw (rest, row-cons id to le, ← free) refl

-- one in use is passed over
pub found_later : (is_used : ℕ → Bool) (id to : ℕ) (first : Option ℕ) → id ≤ to → first ≡ find (λ i. not (is_used i)) (range_with_len id (to + 1 - id)) → true ≡ is_used id → first ≡ find (λ i. not (is_used i)) (range_with_len (id + 1) (to + 1 - (id + 1)))
found_later is_used id to first le rest taken = rw (rest, row-cons id to le, ← taken) refl

-- the ids of a circle behind the last, as the code counts them
pub row-after : (last from : ℕ) → from ≡ min (last + 1) 255 → last < 256 → range_with_len from (127 + 1 - from) ≡ range_with_len (last + 1) (127 - last)
row-after last from e fits = elim (cases_lt last 255) [
  | inl below ↦ let same : from ≡ last + 1 = omega arith in let n : 127 + 1 - (last + 1) ≡ 127 - last = omega arith in rw (same, n) refl
  | inr at ↦ let none : 127 + 1 - from ≡ 0 = omega arith in let none' : 127 - last ≡ 0 = omega arith in rw (none, none') refl
]

-- the next id is the first behind the last, or else the first from 0 on, or else the last
pub next_either : (last from : ℕ) (used : ℕ → Bool) (first either : Option ℕ) (Gave : Type 0) → from ≡ min (last + 1) 255 → last < 256 → first ≡ find (λ i. not (used i)) (range_with_len from (127 + 1 - from)) → MatchOption first Gave (λ id. either ≡ Some id) → (Gave → either ≡ find (λ i. not (used i)) (range_with_len 0 (last + 1 - 0))) → unwrap_or either last ≡ next_id last used
next_either last from used (Some id) either Gave e fits found is again = rw (find-append, ← row-after last from e fits, ← found, is) refl
next_either last from used None either Gave e fits found is again =
    let all : last + 1 - 0 ≡ last + 1 = omega arith in
    rw (find-append, ← row-after last from e fits, ← found, rw all at (again is)) refl

-- what has another number stays where those of one number go
counted_still : {X : Type 0} (f : X → ℕ) (i n : ℕ) (xs : List X) → i ≢ n → count_by (λ x. f x == i) (filter (λ x. not (f x == n)) xs) ≡ count_by (λ x. f x == i) xs
counted_still f i n [] other = refl
counted_still f i n (x ∷ xs) other =
    grind (arith, nat_tests, sum_by-cons (λ y. cond (f y == i) 1 0) x xs, sum_by-cons (λ y. cond (f y == i) 1 0) x (filter (λ y. not (f y == n)) xs), counted_still f i n xs other)

-- a list with something of each number below n is as long
pigeons : {X : Type 0} (f : X → ℕ) (n : ℕ) (xs : List X) → ((i : ℕ) → i < n → 1 ≤ count_by (λ x. f x == i) xs) → n ≤ length xs
pigeons f zero xs all = omega arith
pigeons f (suc n) xs all =
    let rest = pigeons f n (filter (λ x. not (f x == n)) xs) (λ i lt. let other : i ≢ n = omega arith in rw (counted_still f i n xs other) (all i (omega arith))) in
    let some = all n (omega arith) in
    let both = length-filter_both (λ x. f x == n) (λ x. not (f x == n)) (λ x. refl) xs in
    let these = length-filter (λ x. f x == n) xs in
    omega arith

-- what is found is counted
counted_found : {X : Type 0} (p : X → Bool) (xs : List X) → is_some (find p xs) ≡ true → 1 ≤ count_by p xs
counted_found p [] found = cc
counted_found p (x ∷ xs) found = grind (arith, sum_by-cons (λ y. cond (p y) 1 0) x xs, counted_found p xs)

-- what is found passes
found_passes : {X : Type 0} (p : X → Bool) (x : X) (xs : List X) → find p xs ≡ Some x → p x ≡ true
found_passes p x [] is = cc
found_passes p x (y ∷ ys) is = grind (arith, found_passes p x ys)

-- what is not there is none
none_from : {X : Type 0} (o : Option X) → is_some o ≡ false → o ≡ None
none_from None is = refl
none_from (Some x) is = cc

-- where none of a row is free, each is in use
row_used : (used : ℕ → Bool) (a n i : ℕ) → find (λ j. not (used j)) (range_with_len a n) ≡ None → a ≤ i → i < a + n → used i ≡ true
row_used used a zero i none low high = absurd (omega arith)
row_used used a (suc n) i none low high = elim (cases_eq i a) [
  | inl is ↦ rw is (grind arith)
  | inr ne ↦ row_used used (a + 1) n i (grind arith) (omega arith) (omega arith)
]

-- where none of the circle is free, each is in use
all_used : (used : ℕ → Bool) (last i : ℕ) → find (λ j. not (used j)) (ids_after last) ≡ None → i < 128 → used i ≡ true
all_used used last i none lt = elim (cases_lt last i) [
  | inl high ↦ row_used used (last + 1) (127 - last) i (grind (arith, find-append)) (omega arith) (omega arith)
  | inr low ↦ row_used used 0 (last + 1) i (grind (arith, find-append)) (omega arith) (omega arith)
]

-- with fewer than 128 in use, the next id is free
next_free : {X : Type 0} (f : X → ℕ) (xs : List X) (last : ℕ) → length xs < 128 → find (λ x. f x == next_id last (λ i. is_some (find (λ x. f x == i) xs))) xs ≡ None
next_free {X} f xs last few = go (find (λ i. not (used i)) (ids_after last)) refl
  where
    used : ℕ → Bool
    used i = is_some (find (λ x. f x == i) xs)

    go : (o : Option ℕ) → find (λ i. not (used i)) (ids_after last) ≡ o → find (λ x. f x == unwrap_or o last) xs ≡ None
    go (Some i) is = none_from (find (λ x. f x == i) xs) (not-true (used i) (found_passes (λ i. not (used i)) i (ids_after last) is))
    go None is =
        let all : 128 ≤ length xs = pigeons f 128 xs (λ i lt. counted_found (λ x. f x == i) xs (all_used used last i is lt)) in
        absurd (omega arith)

-- no conference has the next ConferenceId
pub conference_free : (t : Table) → length t.conferences < 128 → conference_with t (next_conference t) ≡ None
conference_free t few = next_free (λ c. c.id) t.conferences t.conference_ids few

-- and no party of a conference its next PartyId
pub party_free : (t : Table) (c : Conference) → length (parties_of t c.id) < 128 → party_with t c.id (next_party t c) ≡ None
party_free t c few = next_free (λ q. q.id) (parties_of t c.id) c.parties.last few

-- a conference has no more parties than there are
pub few_of : (t : Table) (id : ℕ) → length (parties_of t id) ≤ length t.parties
few_of t id = rw length-filter (count_by-le-length (λ p. p.conference == id) t.parties)
