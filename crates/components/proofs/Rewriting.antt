-- A component that was read writes back as the octets that it was read from. Assumes nothing.
use Rattle.std.proofs.Common.{◌≡◌, ℕ, ◌+◌, ◌-◌, ◌<◌, true, List, [], ◌∷◌, ◌++◌, length, get_or, drop, ℤ, Some, None, Ok, Option, sym, refl, ap, ◌∙◌, subst, ⊎_elim, append-nil, arith, w8, Fits}
use Rattle.std.specs.Option.{option_map}
use Rattle.std.specs.List.{AllByRecursion as All}
use Rattle.std.proofs.ByRecursion.{All-drop, All-from_get_or}
use Rattle.std.proofs.lemmas.List.{drop_more, drop_all}
use Rattle.std.proofs.lemmas.Bool.Decides.{nat_tests}
use Rattle.std.proofs.lemmas.Bool.{cond-true, cond-false, cases_Bool}
use Rattle.components.specs.declared.component.Problem.{Problem}
use Rattle.components.specs.Component.{Said, invoke, result, error, reject}
use Rattle.ber.specs.Integer.{integer_octets}
use Rattle.components.specs.Reading.{is_component_tag, by_tag}
use Rattle.ber.specs.Structure.{Part, bad_value, values}
use Rattle.components.specs.Typed.{and_then, first, nothing_more, at_most_one, any, an_integer, integer_or_null, code_under, as_problem, a_problem, integer_and_value, an_answer, two_integers, an_invoke, a_result, an_error, a_reject}
use Rattle.ber.specs.Value.{is_tagged, tagged}
use Rattle.components.specs.Writing.{optional_octets, id_octets, problem_octets, answer_octets, moved, answer_moved, component_tag, component_contents, placed}
use Rattle.components.proofs.Inverting.{then_parts, first_parts, nothing_parts, one_parts}
use Rattle.ber.proofs.Lying.{Lie, together, values_lie, all_front, all_behind}
use Rattle.ber.proofs.Numbers.{integer_writes, tagged_is}
use Rattle.ber.proofs.Taking.{sequence_well}

-- octets are below 256
abbrev pub Octets : List ℕ → Type 0
Octets xs = All (λ x. x < 256) xs

-- as they are in any slice
pub octets_of_slice : (xs : List ℕ) → ((i : ℕ) → Fits w8 (get_or xs i 0)) → Octets xs
octets_of_slice xs fits = All-from_get_or (λ x. x < 256) xs 0 (λ i _. (fits i).fits)

-- the component has these contents, with its parameter where it lies
pub record Rewrites (s : Said) (vs : List Part) : Type 0 where
  pub contents : component_contents s ≡ together vs
  pub same : placed s ≡ s

-- a part at its place
at_place : (p : ℕ) (v : Part) → v.place ≡ p → moved p v ≡ v
at_place p v h = ap (λ q. moved q v) (sym h)

-- the values from two INTEGERs on, with at most one behind them, and the place of that one
pub record Two (vs : List Part) (a b : ℤ) (o : Option Part) : Type 0 where
  pub octets : integer_octets a ++ (integer_octets b ++ optional_octets o) ≡ together vs
  pub place : option_map (moved (5 + (length (integer_octets a) + length (integer_octets b)))) o ≡ o

-- two INTEGERs, read and written
two : (n : ℕ) (v w : Part) (us : List Part) (a b : ℤ) (o : Option Part) → Lie n 5 (v ∷ w ∷ us) → Octets (together (v ∷ w ∷ us))
    → an_integer v ≡ Some a → an_integer w ≡ Some b → at_most_one any us ≡ Ok o → Two (v ∷ w ∷ us) a b o
two n v w us a b o lie all v_is w_is o_is =
    let va = integer_writes v.octets a (all_front _ v.octets (together (w ∷ us)) all) v_is in
    let rest = all_behind (λ x. x < 256) v.octets (together (w ∷ us)) all in
    let wb = integer_writes w.octets b (all_front _ w.octets (together us) rest) w_is in
    last us o o_is lie.2.2 va wb
  where
    both : integer_octets a ≡ v.octets → integer_octets b ≡ w.octets → (l : List ℕ) → integer_octets a ++ (integer_octets b ++ l) ≡ v.octets ++ (w.octets ++ l)
    both va wb l = ap (λ m. m ++ (integer_octets b ++ l)) va ∙ ap (λ m. v.octets ++ (m ++ l)) wb

    last : (us : List Part) (o : Option Part) → at_most_one any us ≡ Ok o → Lie n (5 + length v.octets + length w.octets) us → integer_octets a ≡ v.octets → integer_octets b ≡ w.octets → Two (v ∷ w ∷ us) a b o
    last [] o is lie va wb = grind arith
    last (u ∷ []) o is lie va wb = grind (arith, append-nil)
    last (u ∷ t ∷ ts) o is lie va wb = grind arith

-- which are the two INTEGERs and the value of an invoke or an error, and how they are written; `made` is the component
-- that they make
pub two_rewrites : (made : ℤ → ℤ → Option Part → Said) (n end : ℕ) (vs : List Part) (s : Said) → Lie n 5 vs → Octets (together vs)
    → and_then (two_integers end vs) (λ p. Ok (made p.0 p.1 p.2)) ≡ Ok s → (a b : ℤ) × (o : Option Part) × (s ≡ made a b o) × Two vs a b o
two_rewrites made n end vs s lie all is =
    let p = then_parts (two_integers end vs) (λ p. Ok (made p.0 p.1 p.2)) s is in
    let i = then_parts (first an_integer end vs) (λ a. and_then (first an_integer end a.1) (λ b. and_then (at_most_one any b.1) (λ value. Ok (a.0, b.0, value)))) p.0 p.1 in
    let o = then_parts (first an_integer end i.0.1) (λ b. and_then (at_most_one any b.1) (λ value. Ok (i.0.0, b.0, value))) p.0 i.2 in
    let g = then_parts (at_most_one any o.0.1) (λ value. Ok (i.0.0, o.0.0, value)) p.0 o.2 in
    let v = first_parts an_integer end vs i.0.0 i.0.1 i.1 in
    let w = first_parts an_integer end i.0.1 o.0.0 o.0.1 o.1 in
    let whole : v.0 ∷ w.0 ∷ o.0.1 ≡ vs = sym (v.1 ∙ ap (λ l. v.0 ∷ l) w.1) in
    let P : List Part → Type 0 = λ l. Lie n 5 l × Octets (together l) in
    let Q : List Part → Type 0 = λ l. Two l i.0.0 o.0.0 g.0 in
    let known = subst P (sym whole) (lie, all) in
    let same : ◌≡◌ {A = ℤ × ℤ × Option Part} p.0 (i.0.0, o.0.0, g.0) = cc in
    let said : s ≡ made i.0.0 o.0.0 g.0 = let made_of : made p.0.0 p.0.1 p.0.2 ≡ s = cc in sym made_of ∙ ap (λ q. made q.0 q.1 q.2) same in
    (i.0.0, o.0.0, g.0, said, subst Q whole (two n v.0 w.0 o.0.1 i.0.0 o.0.0 g.0 known.0 known.1 v.2 w.2 g.1))

-- an invoke
pub invoke_rewrites : (n end : ℕ) (vs : List Part) (s : Said) → Lie n 5 vs → Octets (together vs) → an_invoke end vs ≡ Ok s → (component_tag s ≡ 0xa1) × Rewrites s vs
invoke_rewrites n end vs s lie all is =
    let t = two_rewrites invoke n end vs s lie all is in
    let P : Said → Type 0 = λ y. (component_tag y ≡ 0xa1) × Rewrites y vs in
    subst P (sym t.3) (refl, record { contents = t.4.octets; same = ap (invoke t.0 t.1) t.4.place })

-- a return error
pub error_rewrites : (n end : ℕ) (vs : List Part) (s : Said) → Lie n 5 vs → Octets (together vs) → an_error end vs ≡ Ok s → (component_tag s ≡ 0xa3) × Rewrites s vs
error_rewrites n end vs s lie all is =
    let t = two_rewrites error n end vs s lie all is in
    let P : Said → Type 0 = λ y. (component_tag y ≡ 0xa3) × Rewrites y vs in
    subst P (sym t.3) (refl, record { contents = t.4.octets; same = ap (error t.0 t.1) t.4.place })

-- the contents of a value of three octets
one_left : (xs : List ℕ) → length xs ≡ 3 → drop 2 xs ≡ get_or xs 2 0 ∷ []
one_left xs long = drop_more xs 2 0 (omega arith) ∙ ap (λ l. get_or xs 2 0 ∷ l) (drop_all 3 xs (omega arith))

-- one octet under a tag
pub code_rewrites : (t : ℕ) (xs : List ℕ) (code : ℕ) → code_under t xs ≡ Some code → tagged t (code ∷ []) ≡ xs
code_rewrites t xs code is = grind (arith, nat_tests, tagged_is t xs, one_left xs)

-- the problem of a reject
problem_rewrites : (xs : List ℕ) (why : Problem) → as_problem xs ≡ Some why → problem_octets why ≡ xs
problem_rewrites xs why is = grind (arith, code_rewrites 0x80 xs, code_rewrites 0x81 xs, code_rewrites 0x82 xs, code_rewrites 0x83 xs)

-- the id of a reject
id_rewrites : (v : Part) (id : Option ℤ) → Octets v.octets → integer_or_null v ≡ Some id → id_octets id ≡ v.octets
id_rewrites v id all is = grind (arith, nat_tests, tagged_is 5 v.octets, drop_all 2 v.octets, integer_writes v.octets)

-- a reject
pub reject_rewrites : (n end : ℕ) (vs : List Part) (s : Said) → Lie n 5 vs → Octets (together vs) → a_reject end vs ≡ Ok s → (component_tag s ≡ 0xa4) × Rewrites s vs
reject_rewrites n end vs s lie all is =
    let i = then_parts (first integer_or_null end vs) (λ id. and_then (first a_problem end id.1) (λ why. and_then (nothing_more why.1) (λ _. Ok (reject id.0 why.0)))) s is in
    let o = then_parts (first a_problem end i.0.1) (λ why. and_then (nothing_more why.1) (λ _. Ok (reject i.0.0 why.0))) s i.2 in
    let g = then_parts (nothing_more o.0.1) (λ _. Ok (reject i.0.0 o.0.0)) s o.2 in
    let v = first_parts integer_or_null end vs i.0.0 i.0.1 i.1 in
    let w = first_parts a_problem end i.0.1 o.0.0 o.0.1 o.1 in
    let whole : vs ≡ v.0 ∷ w.0 ∷ [] = v.1 ∙ ap (λ l. v.0 ∷ l) (w.1 ∙ ap (λ l. w.0 ∷ l) (nothing_parts o.0.1 g.1)) in
    let P : List Part → Type 0 = λ l. Octets (together l) in
    let known = all_front _ v.0.octets (together (w.0 ∷ [])) (subst P whole all) in
    let said : s ≡ reject i.0.0 o.0.0 = cc in
    let octets = ap (λ l. l ++ problem_octets o.0.0) (id_rewrites v.0 i.0.0 known v.2) ∙ ap (λ l. v.0.octets ++ l) (problem_rewrites w.0.octets o.0.0 w.2 ∙ sym (append-nil w.0.octets)) in
    let Q : Said → Type 0 = λ y. (component_tag y ≡ 0xa4) × Rewrites y vs in
    subst Q (sym said) (refl, record { contents = octets ∙ sym (ap together whole); same = refl })

-- the SEQUENCE of a result
answer_rewrites : (n : ℕ) (w : Part) (a : ℤ × Part) → Octets w.octets → bad_value n w.place w.octets ≡ None → an_answer w ≡ Some a
    → (tagged 0x30 (integer_octets a.0 ++ a.1.octets) ≡ w.octets) × (a.1.place ≡ w.place + 2 + length (integer_octets a.0))
answer_rewrites n w a all well is =
    ⊎_elim
    (λ sequence.
    let inner = drop 2 w.octets in
    let nested = sequence_well n w.place w.octets well sequence in
    let lies = values_lie (length inner) (n - 1) (w.place + 2) inner (omega arith) nested in
    let pair = sym (cond-true (is_tagged 0x30 w.octets) (integer_and_value (values (w.place + 2) inner)) None sequence) ∙ is in
    let made = two_left (n - 1) (w.place + 2) (values (w.place + 2) inner) a lies.0 (subst Octets (sym lies.1) (All-drop _ 2 w.octets all)) pair in
    (sym (tagged_is 0x30 w.octets sequence ∙ ap (tagged 0x30) (sym (made.0 ∙ lies.1))), made.1))
    (λ other. let e = sym (cond-false (is_tagged 0x30 w.octets) (integer_and_value (values (w.place + 2) (drop 2 w.octets))) None other) ∙ is in grind arith)
    (cases_Bool (is_tagged 0x30 w.octets))
  where
    two_left : (n p : ℕ) (vs : List Part) (a : ℤ × Part) → Lie n p vs → Octets (together vs) → integer_and_value vs ≡ Some a
        → (integer_octets a.0 ++ a.1.octets ≡ together vs) × (a.1.place ≡ p + length (integer_octets a.0))
    two_left n p [] a lie all e = grind arith
    two_left n p (v ∷ []) a lie all e = grind arith
    two_left n p (v ∷ u ∷ []) a lie all e =
        let number : an_integer v ≡ Some a.0 = grind arith in
        let value : u ≡ a.1 = grind arith in
        let writes = integer_writes v.octets a.0 (all_front _ v.octets (together (u ∷ [])) all) number in
        grind (arith, append-nil)
    two_left n p (v ∷ u ∷ t ∷ ts) a lie all e = grind arith

-- a return result
pub result_rewrites : (n end : ℕ) (vs : List Part) (s : Said) → Lie n 5 vs → Octets (together vs) → a_result end vs ≡ Ok s → (component_tag s ≡ 0xa2) × Rewrites s vs
result_rewrites n end vs s lie all is =
    let i = then_parts (first an_integer end vs) (λ id. and_then (at_most_one an_answer id.1) (λ answer. Ok (result id.0 answer))) s is in
    let g = then_parts (at_most_one an_answer i.0.1) (λ answer. Ok (result i.0.0 answer)) s i.2 in
    let v = first_parts an_integer end vs i.0.0 i.0.1 i.1 in
    let said : s ≡ result i.0.0 g.0 = cc in
    let P : List Part → Type 0 = λ l. Lie n 5 l × Octets (together l) in
    let known = subst P v.1 (lie, all) in
    let id = integer_writes v.0.octets i.0.0 (all_front _ v.0.octets (together i.0.1) known.1) v.2 in
    let rest = answered_rewrites i.0.0 v.0 i.0.1 g.0 id known.0.2 (all_behind _ v.0.octets (together i.0.1) known.1) g.1 in
    let Q : Said → Type 0 = λ y. (component_tag y ≡ 0xa2) × Rewrites y vs in
    subst Q (sym said) (refl, record { contents = rest.0 ∙ sym (ap together v.1); same = ap (result i.0.0) rest.1 })
  where
    answered_rewrites : (id : ℤ) (v : Part) (ws : List Part) (o : Option (ℤ × Part)) → integer_octets id ≡ v.octets → Lie n (5 + length v.octets) ws → Octets (together ws) → at_most_one an_answer ws ≡ Ok o
        → (integer_octets id ++ answer_octets o ≡ together (v ∷ ws)) × (option_map (answer_moved id) o ≡ o)
    answered_rewrites id v ws o writes lie all is =
        ⊎_elim
        (λ none. (
          ap (λ l. l ++ answer_octets o) writes ∙ ap (λ q. v.octets ++ answer_octets q) none.1 ∙ ap (λ l. v.octets ++ together l) (sym none.0),
          ap (option_map (answer_moved id)) none.1 ∙ sym none.1,
        ))
        (λ one.
        let w = one.0 in
        let a = one.1 in
        let P : List Part → Type 0 = λ l. Lie n (5 + length v.octets) l × Octets (together l) in
        let known = subst P one.2 (lie, all) in
        let wall = all_front _ w.octets [] known.1 in
        let Q : ℕ → Type 0 = λ q. bad_value n q w.octets ≡ None in
        let here = known.0.0 in
        let made = answer_rewrites n w a wall (subst Q (sym here) known.0.1) one.3 in
        let there : a.1.place ≡ 5 + (length (integer_octets id) + (2 + length (integer_octets a.0))) = omega (arith, made.1, here, ap length writes) in (
          ap (λ l. l ++ answer_octets o) writes ∙ ap (λ q. v.octets ++ answer_octets q) one.4 ∙ ap (λ l. v.octets ++ l) (made.0 ∙ sym (append-nil w.octets)) ∙ ap (λ l. v.octets ++ together l) (sym one.2),
          ap (option_map (answer_moved id)) one.4 ∙ ap (λ u. Some (a.0, u)) (at_place _ a.1 there) ∙ sym one.4,
        ))
        (one_parts an_answer ws o is)

-- the component by its tag
pub tag_rewrites : (t n end : ℕ) (vs : List Part) (s : Said) → Lie n 5 vs → Octets (together vs) → is_component_tag t ≡ true → by_tag t end vs ≡ Ok s → (component_tag s ≡ t) × Rewrites s vs
tag_rewrites t n end vs s lie all known is =
    grind (arith, nat_tests, invoke_rewrites n end vs s lie all, result_rewrites n end vs s lie all, error_rewrites n end vs s lie all, reject_rewrites n end vs s lie all)
