-- A whole value in front of other octets. Assumes nothing.
use Rattle.std.proofs.Common.{◌≡◌, ℕ, ◌+◌, ◌<◌, true, List, [], ◌∷◌, ◌++◌, length, get_or, None, sym, refl, ap, ◌∙◌, append-nil, arith, length-append}
use Rattle.std.proofs.lemmas.List.{take_at, drop_at, get_or_append_left}
use Rattle.ber.specs.Structure.{or_else, bad_value, bad_list, values}
use Rattle.ber.specs.Value.{begins_with_value, is_short_tag, tag, size, front, behind}
use Rattle.ber.proofs.Nesting.{whole_parts, whole_from, list_step, values_step, empty_list, no_values}
use Rattle.ber.proofs.Taking.{front_same}

-- one value alone: held whole, with nothing behind it
pub record Alone (x : List ℕ) : Type 0 where
  pub whole : begins_with_value x ≡ true
  pub all : size x ≡ length x

module _ (x ys : List ℕ) (one : Alone x) where
  -- the length octet, the tag and the size are those of the value in front
  second : get_or (x ++ ys) 1 0 ≡ get_or x 1 0
  second = let inside : 1 < length x = omega (arith, (whole_parts x one.whole).two) in get_or_append_left x ys 0 1 inside

  same_tag : tag (x ++ ys) ≡ tag x
  same_tag = let inside : 0 < length x = omega (arith, (whole_parts x one.whole).two) in get_or_append_left x ys 0 0 inside

  same_size : size (x ++ ys) ≡ length x
  same_size = ap (λ n. 2 + n) second ∙ one.all

  -- the value in front is held whole
  joint_whole : begins_with_value (x ++ ys) ≡ true
  joint_whole =
      let w = whole_parts x one.whole in
      let long = length-append x ys in
      whole_from (x ++ ys) (record {
        two = omega (arith, w.two);
        tag_short = ap is_short_tag same_tag ∙ w.tag_short;
        length_short = omega (arith, w.length_short, second);
        held = omega (arith, same_size);
      })

  -- and what is taken from the front is that value, with the rest behind it
  joint_front : front (x ++ ys) ≡ x
  joint_front = take_at x ys (size (x ++ ys)) (sym same_size)

  joint_behind : behind (x ++ ys) ≡ ys
  joint_behind = drop_at x ys (size (x ++ ys)) (sym same_size)

  -- there is something to take
  some : 0 < length (x ++ ys)
  some = omega (arith, length-append x ys, (whole_parts x one.whole).two)

  -- the values are it and those behind it
  pub joint_values : (p : ℕ) → values p (x ++ ys) ≡ record { octets = x; place = p } ∷ values (p + length x) ys
  joint_values p =
      values_step p (x ++ ys) some
      ∙ ap (λ l. record { octets = l; place = p } ∷ values (p + size (x ++ ys)) (behind (x ++ ys))) joint_front
      ∙ ap (λ l. record { octets = x; place = p } ∷ values (p + size (x ++ ys)) l) joint_behind
      ∙ ap (λ n. record { octets = x; place = p } ∷ values (p + n) ys) same_size

  -- the first fault is in it, or behind it
  pub joint_list : (n p : ℕ) → bad_list n p (x ++ ys) ≡ or_else (bad_value n p x) (bad_list n (p + length x) ys)
  joint_list n p =
      list_step n p (x ++ ys) some
      ∙ ap (λ o. or_else o (bad_list n (p + size (x ++ ys)) (behind (x ++ ys)))) (sym (front_same n p (x ++ ys) joint_whole) ∙ ap (bad_value n p) joint_front)
      ∙ ap (λ l. or_else (bad_value n p x) (bad_list n (p + size (x ++ ys)) l)) joint_behind
      ∙ ap (λ k. or_else (bad_value n p x) (bad_list n (p + k) ys)) same_size

-- one value alone, with nothing behind it
pub alone_values : (p : ℕ) (x : List ℕ) → Alone x → values p x ≡ record { octets = x; place = p } ∷ []
alone_values p x one = ap (values p) (sym (append-nil x)) ∙ joint_values x [] one p ∙ ap (λ l. record { octets = x; place = p } ∷ l) (no_values (p + length x) [] refl)

-- and as well as it is by itself
pub alone_list : (n p : ℕ) (x : List ℕ) → Alone x → bad_value n p x ≡ None → bad_list n p x ≡ None
alone_list n p x one well =
    ap (bad_list n p) (sym (append-nil x)) ∙ joint_list x [] one n p ∙ ap (λ o. or_else o (bad_list n (p + length x) [])) well ∙ empty_list n (p + length x) [] refl
