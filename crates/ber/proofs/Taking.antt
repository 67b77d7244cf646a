-- What well-structured octets give when their values are taken one by one. Assumes nothing.
use Rattle.std.proofs.Common.{◌≡◌, ℕ, zero, suc, ◌+◌, ◌-◌, ◌<◌, ◌≤◌, true, false, cond, eqb, List, [], ◌∷◌, length, drop, None, Option, sym, refl, ap, ◌∙◌, arith, length-drop}
use Rattle.std.proofs.lemmas.List.{take_all, get_or-take}
use Rattle.std.proofs.lemmas.Bool.{cond-true, and_parts, eqb-true}
use Rattle.ber.specs.Structure.{or_else, bad_value, bad_list, values}
use Rattle.ber.specs.Value.{begins_with_value, is_short_tag, is_constructed, is_tagged, tag, size, front, behind, contents}
use Rattle.ber.proofs.Nesting.{list_step, values_step, value_step, value_cut, value_nested, no_level, whole_parts, whole_from, front_length, front_tag}

-- the first of two places is none, and so is the second
pub both_none : (o later : Option ℕ) → or_else o later ≡ None → (o ≡ None) × (later ≡ None)
both_none o later h = grind arith

-- in a list that is well, the value at the front is, and so is the list behind it
pub well_parts : (n p : ℕ) (xs : List ℕ) → 0 < length xs → bad_list n p xs ≡ None → (bad_value n p xs ≡ None) × (bad_list n (p + size xs) (behind xs) ≡ None)
well_parts n p xs some well = both_none (bad_value n p xs) (bad_list n (p + size xs) (behind xs)) (sym (list_step n p xs some) ∙ well)

-- a value that is well has a level to stand on
pub well_level : (n p : ℕ) (xs : List ℕ) → bad_value n p xs ≡ None → 0 < n
well_level zero p xs well = let e = no_level p xs in grind arith
well_level (suc n) p xs well = omega arith

-- and is held whole
pub well_whole : (n p : ℕ) (xs : List ℕ) → bad_value n p xs ≡ None → begins_with_value xs ≡ true
well_whole n p xs well = grind (arith, well_level n p xs well, value_cut n p xs)

-- the value at the front, alone, has the size that it had
front_size : (xs : List ℕ) → size (front xs) ≡ size xs
front_size xs = let inside : 1 < size xs = omega arith in ap (λ n. 2 + n) (get_or-take (size xs) xs 1 0 inside)

-- the value at the front, alone, is as well as it was
pub front_whole : (xs : List ℕ) → begins_with_value xs ≡ true → begins_with_value (front xs) ≡ true
front_whole xs whole =
    let w = whole_parts xs whole in
    let long = front_length xs whole in
    let same = front_size xs in
    whole_from (front xs) (record {
      two = omega arith;
      tag_short = ap is_short_tag (front_tag xs) ∙ w.tag_short;
      length_short = omega (arith, w.length_short);
      held = omega arith;
    })

-- and the same fault, if any
pub front_same : (n p : ℕ) (xs : List ℕ) → begins_with_value xs ≡ true → bad_value n p (front xs) ≡ bad_value n p xs
front_same zero p xs whole = no_level p (front xs) ∙ sym (no_level p xs)
front_same (suc n) p xs whole =
    let some : 0 < suc n = omega arith in
    let within : length (front xs) ≤ size (front xs) = omega (arith, front_length xs whole, front_size xs) in
    let same : contents (front xs) ≡ contents xs = ap (drop 2) (take_all (size (front xs)) (front xs) within) in
    value_step (suc n) p (front xs) some
    ∙ cond-true _ _ _ (front_whole xs whole)
    ∙ ap (λ t. cond (is_constructed t) (bad_list (suc n - 1) (p + 2) (contents (front xs))) None) (front_tag xs)
    ∙ ap (λ ys. cond (is_constructed (tag xs)) (bad_list (suc n - 1) (p + 2) ys) None) same
    ∙ sym (value_step (suc n) p xs some ∙ cond-true _ _ _ whole)

-- octets that are well and do not begin with a value are none
pub nothing_left : (n p : ℕ) (xs : List ℕ) → bad_list n p xs ≡ None → begins_with_value xs ≡ false → length xs ≡ 0
nothing_left n p [] well cut = refl
nothing_left n p (x ∷ xs) well cut =
    let whole = well_whole n p (x ∷ xs) (well_parts n p (x ∷ xs) (omega arith) well).0 in
    grind arith

-- one value is taken from octets that are well: which values they have, and that the rest is well
module _ (p : ℕ) (xs octets rest : List ℕ) (whole : begins_with_value xs ≡ true) (is_front : octets ≡ front xs) (is_behind : rest ≡ behind xs) where
  -- its length is its size
  taken_length : length octets ≡ size xs
  taken_length = ap length is_front ∙ front_length xs whole

  -- there was something to take
  some : 0 < length xs
  some = omega (arith, (whole_parts xs whole).two)

  -- it is a whole value
  pub taken_size : size octets ≡ length octets
  taken_size = ap size is_front ∙ front_size xs ∙ sym taken_length

  -- nothing is lost between the two parts
  pub taken_whole : length octets + length rest ≡ length xs
  taken_whole = omega (arith, taken_length, ap length is_behind ∙ length-drop (size xs) xs, (whole_parts xs whole).held)

  -- it is the first of the values, and the others are those of the rest
  pub taken_values : values p xs ≡ record { octets = octets; place = p } ∷ values (p + length octets) rest
  taken_values =
      values_step p xs some ∙ sym (ap (λ l. record { octets = l; place = p } ∷ values (p + length l) rest) is_front ∙ simp (is_behind, front_length xs whole))

  -- it is well, and so is the rest
  pub taken_well : (n : ℕ) → bad_list n p xs ≡ None → (bad_value n p octets ≡ None) × (bad_list n (p + length octets) rest ≡ None)
  taken_well n well =
      let parts = well_parts n p xs some well in
      (ap (bad_value n p) is_front ∙ front_same n p xs whole ∙ parts.0, ap (λ m. bad_list n (p + m) rest) taken_length ∙ ap (bad_list n (p + size xs)) is_behind ∙ parts.1)

-- the contents of a well-structured SEQUENCE are well structured
pub sequence_well : (n p : ℕ) (xs : List ℕ) → bad_value n p xs ≡ None → is_tagged 0x30 xs ≡ true → bad_list (n - 1) (p + 2) (drop 2 xs) ≡ None
sequence_well n p xs well tagged =
    let parts = and_parts (eqb (tag xs) 0x30) (eqb (size xs) (length xs)) tagged in
    let all : length xs ≤ size xs = omega (arith, eqb-true (size xs) (length xs) parts.1) in
    let nested : is_constructed (tag xs) ≡ true = ap is_constructed (eqb-true (tag xs) 0x30 parts.0) in
    ap (λ ys. bad_list (n - 1) (p + 2) (drop 2 ys)) (sym (take_all (size xs) xs all))
    ∙ sym (value_nested n p xs (well_level n p xs well) (well_whole n p xs well) nested)
    ∙ well
