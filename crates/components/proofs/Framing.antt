-- When a whole component is well structured. Assumes nothing.
use Rattle.std.proofs.Common.{◌≡◌, ℕ, ◌+◌, ◌≤◌, true, false, List, length, drop, Some, None, Err, sym, ap, ◌∙◌, ⊎_elim, arith, lit<}
use Rattle.std.proofs.lemmas.List.{take_all}
use Rattle.std.proofs.lemmas.Bool.Decides.{nat_tests}
use Rattle.std.proofs.lemmas.Bool.{cond-true, cond-false, cases_eq}
use Rattle.components.specs.declared.fault.Cause.TheVariants.{Tag, Structure}
use Rattle.components.specs.declared.fault.Fault.{Fault}
use Rattle.components.specs.Faults.{at}
use Rattle.components.specs.Reading.{is_component_tag, bad_component, by_tag, structured, head_fault, unless, reading_component, reading}
use Rattle.ber.specs.Structure.{bad_value, bad_list, values}
use Rattle.ber.specs.Value.{is_constructed, tag, size}
use Rattle.ber.proofs.Nesting.{value_nested}
use Rattle.ber.proofs.Taking.{well_whole}

-- nothing is at fault where every value is well, and nothing stands behind it
pub component_parts : (xs : List ℕ) → bad_component xs ≡ None → (bad_value 8 3 xs ≡ None) × (size xs ≡ length xs)
component_parts xs well = grind (arith, nat_tests)

-- it has a tag and a length
pub component_long : (xs : List ℕ) → bad_component xs ≡ None → 2 ≤ length xs
component_long xs well = omega (arith, (component_parts xs well).1)

-- its tag says that it holds values
pub component_constructed : (t : ℕ) → is_component_tag t ≡ true → is_constructed t ≡ true
component_constructed t known =
    ⊎_elim (λ e. ap is_constructed e) (λ n1. ⊎_elim (λ e. ap is_constructed e) (λ n2. ⊎_elim (λ e. ap is_constructed e)
    (λ n3. let e : t ≡ 0xa4 = grind (arith, nat_tests) in ap is_constructed e) (cases_eq t 0xa3)) (cases_eq t 0xa2)) (cases_eq t 0xa1)

-- and they are well structured
pub component_contents_well : (xs : List ℕ) → bad_component xs ≡ None → is_component_tag (tag xs) ≡ true → bad_list 7 5 (drop 2 xs) ≡ None
component_contents_well xs well known =
    let parts = component_parts xs well in
    let all : length xs ≤ size xs = omega (arith, parts.1) in
    ap (λ ys. bad_list 7 5 (drop 2 ys)) (sym (take_all (size xs) xs all))
    ∙ sym (value_nested 8 3 xs (lit< tt) (well_whole 8 3 xs parts.0) (component_constructed (tag xs) known))
    ∙ parts.0

-- what reading answers, cause by cause
pub reading_head : (xs : List ℕ) (f : Fault) → head_fault xs ≡ Some f → reading xs ≡ Err f
unfolding reading
reading_head xs f bad = ap (λ o. unless o (reading_component (drop 3 xs))) bad

module _ (xs ys : List ℕ) (head : head_fault xs ≡ None) (is : ys ≡ drop 3 xs) where
  -- with a good head, reading goes on with the component
  pub behind_head : reading xs ≡ reading_component ys
  unfolding reading
  behind_head = ap (λ o. unless o (reading_component (drop 3 xs))) head ∙ ap reading_component (sym is)

  -- cause 15
  pub reading_tag : is_component_tag (tag ys) ≡ false → reading xs ≡ Err (at Tag 3)
  unfolding reading_component
  reading_tag bad = behind_head ∙ cond-false _ _ _ bad

  -- cause 16
  pub reading_structure : (p : ℕ) → is_component_tag (tag ys) ≡ true → bad_component ys ≡ Some p → reading xs ≡ Err (at Structure p)
  unfolding reading_component
  reading_structure p known bad = behind_head ∙ cond-true _ _ _ known ∙ ap (λ o. structured o (by_tag (tag ys) (3 + length ys) (values 5 (drop 2 ys)))) bad

  -- and else the values by their types
  pub reading_typed : is_component_tag (tag ys) ≡ true → bad_component ys ≡ None → reading xs ≡ by_tag (tag ys) (3 + length ys) (values 5 (drop 2 ys))
  unfolding reading_component
  reading_typed known well = behind_head ∙ cond-true _ _ _ known ∙ ap (λ o. structured o (by_tag (tag ys) (3 + length ys) (values 5 (drop 2 ys)))) well
