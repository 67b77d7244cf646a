-- What reading answers for the octets of a component, by the values that it holds. Assumes nothing.
use Rattle.std.proofs.Common.{◌≡◌, ℕ, ◌+◌, ◌≤◌, true, List, length, Some, None, Option, refl, ◌∙◌, arith, lit<}
use Rattle.std.proofs.lemmas.List.{take_all}
use Rattle.std.proofs.lemmas.Bool.{eq-eqb}
use Rattle.std.proofs.lemmas.Bool.Decides.{nat_tests}
use Rattle.components.specs.Component.{Said, invoke, result, error, reject}
use Rattle.components.specs.Reading.{is_component_tag, bad_component, by_tag, structured, head_fault, reading_component, reading}
use Rattle.ber.specs.Structure.{or_else, bad_value, bad_list, values}
use Rattle.ber.specs.Value.{begins_with_value, is_short_tag, is_constructed, tagged}
use Rattle.components.specs.Writing.{encoded, component_tag, component_contents}
use Rattle.components.proofs.Framing.{component_constructed, behind_head}
use Rattle.ber.proofs.Nesting.{whole_from, value_nested}

-- a value under a short tag, with at most 127 octets of contents
pub tagged_whole : (t : ℕ) (xs : List ℕ) → is_short_tag t ≡ true → length xs ≤ 127 → begins_with_value (tagged t xs) ≡ true
tagged_whole t xs short few = whole_from (tagged t xs) (record { two = omega arith; tag_short = short; length_short = few; held = omega arith })

-- the four tags are short, and known
tags_short : (s : Said) → is_short_tag (component_tag s) ≡ true
tags_short (invoke id operation argument) = refl
tags_short (result id answer) = refl
tags_short (error id code parameter) = refl
tags_short (reject id why) = refl

pub tags_known : (s : Said) → is_component_tag (component_tag s) ≡ true
tags_known (invoke id operation argument) = refl
tags_known (result id answer) = refl
tags_known (error id code parameter) = refl
tags_known (reject id why) = refl

-- nothing later changes nothing
or_none : (o : Option ℕ) → or_else o None ≡ o
or_none None = refl
or_none (Some p) = refl

-- a component that is not too long is as well structured as its contents
tagged_fault : (t : ℕ) (xs : List ℕ) → is_short_tag t ≡ true → is_constructed t ≡ true → length xs ≤ 127 → bad_component (tagged t xs) ≡ bad_list 7 5 xs
tagged_fault t xs short nested few =
    let same = eq-eqb (2 + length xs) (length (tagged t xs)) (omega arith) in
    rw (same, or_none (bad_value 8 3 (tagged t xs)), value_nested 8 3 (tagged t xs) (lit< tt) (tagged_whole t xs short few) nested, take_all (2 + length xs) (tagged t xs) (omega arith)) refl

-- the head of an element that is not too long is well
encoded_head : (s : Said) → length (component_contents s) ≤ 127 → head_fault (encoded s) ≡ None
encoded_head s few = grind (arith, nat_tests)

-- reading the octets of a component that is not too long
pub reading_encoded : (s : Said) → length (component_contents s) ≤ 127
    → reading (encoded s) ≡ structured (bad_list 7 5 (component_contents s)) (by_tag (component_tag s) (5 + length (component_contents s)) (values 5 (component_contents s)))
unfolding reading_component
reading_encoded s few =
    let t = component_tag s in
    let cs = component_contents s in
    let long : 3 + length (tagged t cs) ≡ 5 + length cs = omega arith in
    behind_head (encoded s) (tagged t cs) (encoded_head s few) refl
    ∙ rw (tags_known s, tagged_fault t cs (tags_short s) (component_constructed t (tags_known s)) few, long) refl
