-- One step of the check of structure, and what a window shows of the octets under it. Assumes nothing.
use Rattle.std.proofs.Common.{◌≡◌, ℕ, zero, suc, ◌+◌, ◌-◌, ◌<◌, ◌≤◌, true, false, cond, List, [], ◌∷◌, length, get_or, take, drop, Some, None, Option, sym, refl, ap, ◌∙◌, add-zero, arith, length-drop, length-take}
use Rattle.std.specs.List.{between}
use Rattle.std.proofs.lemmas.List.{drop-take, drop-drop, take-take, length-take-le, get_or-take}
use Rattle.std.proofs.lemmas.Bool.Decides.{nat_tests}
use Rattle.std.proofs.lemmas.Bool.{cond-true, cond-false}
use Rattle.ber.specs.Structure.{or_else, first_bad, bad_value, bad_list, Part, values_after, values}
use Rattle.ber.specs.Value.{begins_with_value, is_short_tag, is_constructed, tag, size, front, behind, contents}

-- octets that belong to the value before are passed over
passes : (bad : ℕ → List ℕ → Option ℕ) (k p : ℕ) (xs : List ℕ) → first_bad bad k p xs ≡ first_bad bad 0 (p + k) (drop k xs)
unfolding first_bad
passes bad zero p xs = ap (λ n. first_bad bad 0 n xs) (sym (add-zero p))
passes bad (suc k) p [] = refl
passes bad (suc k) p (x ∷ xs) =
    let moved : suc p + k ≡ p + suc k = omega arith in
    passes bad k (suc p) xs ∙ ap (λ n. first_bad bad 0 n (drop k xs)) moved

-- the same of the values themselves
values_pass : (k p : ℕ) (xs : List ℕ) → values_after k p xs ≡ values_after 0 (p + k) (drop k xs)
unfolding values_after
values_pass zero p xs = ap (λ n. values_after 0 n xs) (sym (add-zero p))
values_pass (suc k) p [] = refl
values_pass (suc k) p (x ∷ xs) =
    let moved : suc p + k ≡ p + suc k = omega arith in
    values_pass k (suc p) xs ∙ ap (λ n. values_after 0 n (drop k xs)) moved

-- an empty list of values is well
pub empty_list : (n p : ℕ) (xs : List ℕ) → length xs ≡ 0 → bad_list n p xs ≡ None
unfolding bad_list first_bad
empty_list n p [] h = refl
empty_list n p (x ∷ xs) h = absurd (omega arith)

-- any other is a value and a list
pub list_step : (n p : ℕ) (xs : List ℕ) → 0 < length xs → bad_list n p xs ≡ or_else (bad_value n p xs) (bad_list n (p + size xs) (behind xs))
unfolding bad_list first_bad
list_step n p [] h = absurd (omega arith)
list_step n p (x ∷ xs) h =
    let l : ℕ = get_or xs 0 0 in
    let two : 2 + l ≡ suc (suc l) = omega arith in
    let moved : suc p + suc l ≡ p + (2 + l) = omega arith in
    ap (or_else (bad_value n p (x ∷ xs)))
    (passes (bad_value n) (suc l) (suc p) xs ∙ ap (λ q. first_bad (bad_value n) 0 q (drop (suc l) xs)) moved ∙ ap (λ k. first_bad (bad_value n) 0 (p + (2 + l)) (drop k (x ∷ xs))) (sym two))

-- no value is left in nothing
pub no_values : (p : ℕ) (xs : List ℕ) → length xs ≡ 0 → values p xs ≡ []
unfolding values values_after
no_values p [] h = refl
no_values p (x ∷ xs) h = absurd (omega arith)

-- the values of a list are the one at the front and those behind it
pub values_step : (p : ℕ) (xs : List ℕ) → 0 < length xs → values p xs ≡ record { octets = front xs; place = p } ∷ values (p + size xs) (behind xs)
unfolding values values_after
values_step p [] h = absurd (omega arith)
values_step p (x ∷ xs) h =
    let l : ℕ = get_or xs 0 0 in
    let two : 2 + l ≡ suc (suc l) = omega arith in
    let moved : suc p + suc l ≡ p + (2 + l) = omega arith in
    let first : Part = record { octets = front (x ∷ xs); place = p } in
    ap (λ vs. first ∷ vs)
    (values_pass (suc l) (suc p) xs ∙ ap (λ q. values_after 0 q (drop (suc l) xs)) moved ∙ ap (λ k. values_after 0 (p + (2 + l)) (drop k (x ∷ xs))) (sym two))

-- what is at fault in one value
pub value_step : (n p : ℕ) (xs : List ℕ) → 0 < n → bad_value n p xs ≡ cond (begins_with_value xs) (cond (is_constructed (tag xs)) (bad_list (n - 1) (p + 2) (contents xs)) None) (Some p)
unfolding bad_value bad_list
value_step zero p xs h = absurd (omega arith)
value_step (suc n) p xs h =
    let less : n ≡ suc n - 1 = omega arith in
    ap (λ m. cond (begins_with_value xs) (cond (is_constructed (tag xs)) (first_bad (bad_value m) 0 (p + 2) (contents xs)) None) (Some p)) less

-- no level is left
pub no_level : (p : ℕ) (xs : List ℕ) → bad_value 0 p xs ≡ Some p
unfolding bad_value
no_level p xs = refl

-- nor is a value where there is no octet
pub nothing_there : (n p : ℕ) → bad_value n p [] ≡ Some p
unfolding bad_value
nothing_there zero p = refl
nothing_there (suc n) p = refl

-- a window without its first n octets
pub window_behind : (i j n : ℕ) (xs : List ℕ) → i + n ≤ j → drop n (between i j xs) ≡ between (i + n) j xs
window_behind i j n xs h =
    let whole : j - i ≡ n + (j - (i + n)) = omega arith in
    ap (λ m. drop n (take m (drop i xs))) whole ∙ drop-take n (j - (i + n)) (drop i xs) ∙ ap (take (j - (i + n))) (drop-drop n i xs)

-- a window's first n octets
pub window_front : (i j n : ℕ) (xs : List ℕ) → i + n ≤ j → take n (between i j xs) ≡ between i (i + n) xs
window_front i j n xs h =
    let within : n ≤ j - i = omega arith in
    let long : n ≡ i + n - i = omega arith in
    take-take n (j - i) (drop i xs) within ∙ ap (λ m. take m (drop i xs)) long

-- a value that is not held whole is at fault itself
pub value_cut : (n p : ℕ) (xs : List ℕ) → 0 < n → begins_with_value xs ≡ false → bad_value n p xs ≡ Some p
value_cut n p xs h cut = value_step n p xs h ∙ cond-false _ _ _ cut

-- a primitive value is well
pub value_plain : (n p : ℕ) (xs : List ℕ) → 0 < n → begins_with_value xs ≡ true → is_constructed (tag xs) ≡ false → bad_value n p xs ≡ None
value_plain n p xs h whole plain = value_step n p xs h ∙ cond-true _ _ _ whole ∙ cond-false _ _ _ plain

-- a constructed value is as well as its contents
pub value_nested : (n p : ℕ) (xs : List ℕ) → 0 < n → begins_with_value xs ≡ true → is_constructed (tag xs) ≡ true → bad_value n p xs ≡ bad_list (n - 1) (p + 2) (contents xs)
value_nested n p xs h whole nested = value_step n p xs h ∙ cond-true _ _ _ whole ∙ cond-true _ _ _ nested

-- a list is at fault where its first value is, and else where the values behind it are
pub list_first : (n p q : ℕ) (xs : List ℕ) → 0 < length xs → bad_value n p xs ≡ Some q → bad_list n p xs ≡ Some q
list_first n p q xs h bad = list_step n p xs h ∙ ap (λ o. or_else o (bad_list n (p + size xs) (behind xs))) bad

pub list_later : (n p : ℕ) (xs : List ℕ) → 0 < length xs → bad_value n p xs ≡ None → bad_list n p xs ≡ bad_list n (p + size xs) (behind xs)
list_later n p xs h well = list_step n p xs h ∙ ap (λ o. or_else o (bad_list n (p + size xs) (behind xs))) well

-- what it takes to begin with a value that is held whole
pub record Whole (xs : List ℕ) : Type 0 where
  pub two : 2 ≤ length xs
  pub tag_short : is_short_tag (tag xs) ≡ true
  pub length_short : get_or xs 1 0 ≤ 127
  pub held : size xs ≤ length xs

-- the test, taken apart and put together
pub whole_parts : (xs : List ℕ) → begins_with_value xs ≡ true → Whole xs
whole_parts xs whole = record { two = grind (arith, nat_tests); tag_short = grind (arith, nat_tests); length_short = grind (arith, nat_tests); held = grind (arith, nat_tests) }

pub whole_from : (xs : List ℕ) → Whole xs → begins_with_value xs ≡ true
whole_from xs w = let two = w.two in let short = w.tag_short in let few = w.length_short in let held = w.held in grind (arith, nat_tests)

-- a value that is held whole is no longer than what holds it
pub held_whole : (xs : List ℕ) → begins_with_value xs ≡ true → size xs ≤ length xs
held_whole xs whole = (whole_parts xs whole).held

-- the value at the front has its size, and its tag
pub front_length : (xs : List ℕ) → begins_with_value xs ≡ true → length (front xs) ≡ size xs
front_length xs whole = length-take-le (size xs) xs (held_whole xs whole)

pub front_tag : (xs : List ℕ) → get_or (front xs) 0 0 ≡ tag xs
front_tag xs = let some : 0 < size xs = omega arith in get_or-take (size xs) xs 0 0 some

-- the octets from i up to j, as a window shows them
module _ (i j : ℕ) (xs : List ℕ) (forward : i ≤ j) (inside : j ≤ length xs) where
  -- how many octets it shows
  pub window_length : length (between i j xs) ≡ j - i
  window_length = simp (length-take, length-drop) (omega arith)

  -- the value at the front lies within
  pub value_within : begins_with_value (between i j xs) ≡ true → i + size (between i j xs) ≤ j
  value_within whole = omega (arith, held_whole (between i j xs) whole, window_length)

  -- a constructed value is as well as the narrower window over its contents
  pub nested_window : (n k m : ℕ) → 0 < n → k ≡ n - 1 → begins_with_value (between i j xs) ≡ true → is_constructed (tag (between i j xs)) ≡ true → m ≡ size (between i j xs) → bad_value n i (between i j xs) ≡ bad_list k (i + 2) (between (i + 2) (i + m) xs)
  nested_window n k m some inner whole nested long =
      let within : i + m ≤ j = omega (arith, value_within whole) in
      let two : i + 2 ≤ i + m = omega arith in
      value_nested n i (between i j xs) some whole nested
      ∙ ap (λ d. bad_list d (i + 2) (contents (between i j xs))) (sym inner)
      ∙ ap (λ d. bad_list k (i + 2) (drop 2 (take d (between i j xs)))) (sym long)
      ∙ ap (λ ys. bad_list k (i + 2) (drop 2 ys)) (window_front i j m xs within)
      ∙ ap (bad_list k (i + 2)) (window_behind i (i + m) 2 xs two)

  -- behind a well-structured value the window goes on
  pub later_window : (n m : ℕ) → i < j → bad_value n i (between i j xs) ≡ None → m ≡ i + size (between i j xs) → m ≤ j → bad_list n i (between i j xs) ≡ bad_list n m (between m j xs)
  later_window n m some well next within =
      let more : 0 < length (between i j xs) = omega (arith, window_length) in
      let fits : i + size (between i j xs) ≤ j = omega arith in
      list_later n i (between i j xs) more well
      ∙ ap (bad_list n (i + size (between i j xs))) (window_behind i j (size (between i j xs)) xs fits)
      ∙ ap (λ k. bad_list n k (between k j xs)) (sym next)
