-- A component that is sound and not too long reads back from its octets, and no other does. Assumes nothing.
use Rattle.std.proofs.Common.{◌≡◌, ℕ, ◌+◌, ◌/◌, ◌%◌, ◌<◌, ◌≤◌, cond, List, [], ◌∷◌, ◌++◌, length, ℤ, Some, None, Ok, Option, sym, refl, ap, ◌∙◌, ⊎_elim, add_assoc, arith, w8, w16, SFits, of_z}
use Rattle.std.specs.Option.{option_map}
use Rattle.std.proofs.lemmas.Bool.{cond_both}
use Rattle.components.specs.Component.{Said}
use Rattle.ber.specs.Integer.{is_short, integer_octets}
use Rattle.ber.specs.Structure.{bad_value, bad_list, Part, values}
use Rattle.components.specs.Typed.{and_then, at_most_one, any, two_integers}
use Rattle.ber.specs.Value.{front}
use Rattle.components.specs.Writing.{optional_octets, moved, One, Fit}
use Rattle.ber.proofs.Appending.{Alone, joint_values, joint_list, alone_values, alone_list}
use Rattle.ber.proofs.Carrying.{value_carries}
use Rattle.components.proofs.Encoding.{tagged_whole}
use Rattle.components.proofs.Inverting.{then_parts, one_parts}
use Rattle.ber.proofs.Nesting.{value_plain, no_values, empty_list, values_step, front_length}
use Rattle.ber.proofs.Numbers.{integer_reads}
use Rattle.ber.proofs.Taking.{well_parts, well_whole}

-- an INTEGER has at most four octets, is one value alone, and well
few_octets : (z : ℤ) → length (cond (is_short z) (of_z w8 z ∷ []) (of_z w16 z / 256 ∷ of_z w16 z % 256 ∷ [])) ≤ 2
few_octets z = cond_both (is_short z) (of_z w8 z ∷ []) (of_z w16 z / 256 ∷ of_z w16 z % 256 ∷ []) (λ l. length l ≤ 2) (λ _. omega arith) (λ _. omega arith)

pub integer_long : (z : ℤ) → length (integer_octets z) ≤ 4
integer_long z = omega (arith, few_octets z)

pub integer_alone : (z : ℤ) → Alone (integer_octets z)
integer_alone z =
    let few : length (cond (is_short z) (of_z w8 z ∷ []) (of_z w16 z / 256 ∷ of_z w16 z % 256 ∷ [])) ≤ 127 = omega (arith, few_octets z) in
    record { whole = tagged_whole 2 _ refl few; all = omega arith }

pub integer_well : (n p : ℕ) (z : ℤ) → 0 < n → bad_value n p (integer_octets z) ≡ None
integer_well n p z some = value_plain n p (integer_octets z) some (integer_alone z).whole refl

-- what stands behind one INTEGER, and behind two
module _ (p n : ℕ) (some : 0 < n) where
  -- its values, and its first fault, are those of what stands behind
  pub one_values : (a : ℤ) (xs : List ℕ) → values p (integer_octets a ++ xs) ≡ record { octets = integer_octets a; place = p } ∷ values (p + length (integer_octets a)) xs
  one_values a xs = joint_values (integer_octets a) xs (integer_alone a) p

  pub one_list : (a : ℤ) (xs : List ℕ) → bad_list n p (integer_octets a ++ xs) ≡ bad_list n (p + length (integer_octets a)) xs
  one_list a xs = rw (joint_list (integer_octets a) xs (integer_alone a) n p, integer_well n p a some) refl

-- the place behind two INTEGERs at the front of a component
abbrev pub behind_two : ℤ → ℤ → ℕ
behind_two a b = 5 + (length (integer_octets a) + length (integer_octets b))

-- the same behind two INTEGERs
pub two_values : (a b : ℤ) (xs : List ℕ) → values 5 (integer_octets a ++ (integer_octets b ++ xs))
    ≡ record { octets = integer_octets a; place = 5 } ∷ record { octets = integer_octets b; place = 5 + length (integer_octets a) } ∷ values (behind_two a b) xs
two_values a b xs =
    rw (one_values 5 1 (omega arith) a (integer_octets b ++ xs), one_values (5 + length (integer_octets a)) 1 (omega arith) b xs, add_assoc 5 (length (integer_octets a)) (length (integer_octets b))) refl

pub two_list : (a b : ℤ) (xs : List ℕ) → bad_list 7 5 (integer_octets a ++ (integer_octets b ++ xs)) ≡ bad_list 7 (behind_two a b) xs
two_list a b xs =
    rw (one_list 5 7 (omega arith) a (integer_octets b ++ xs), one_list (5 + length (integer_octets a)) 7 (omega arith) b xs, add_assoc 5 (length (integer_octets a)) (length (integer_octets b))) refl

-- a parameter that is one value reads as itself, where it lies
pub fit_reads : (n p : ℕ) (o : Option Part) → Fit n o → (bad_list n p (optional_octets o) ≡ None) × (at_most_one any (values p (optional_octets o)) ≡ Ok (option_map (moved p) o))
fit_reads n p None fit = (empty_list n p [] refl, rw (no_values p [] refl) refl)
fit_reads n p (Some v) fit =
    let well = value_carries n n 0 p v.octets (omega arith) fit.well in
    let one : Alone v.octets = record { whole = well_whole n p v.octets well; all = fit.all } in
    (alone_list n p v.octets one well, rw (alone_values p v.octets one) refl)

-- and one that reads as itself is one value
pub reads_fit : (n p : ℕ) (o : Option Part) → bad_list n p (optional_octets o) ≡ None → at_most_one any (values p (optional_octets o)) ≡ Ok (option_map (moved p) o) → Fit n o
reads_fit n p None well is = tt
reads_fit n p (Some v) well is = alone v.octets well is
  where
    alone : (xs : List ℕ) → bad_list n p xs ≡ None → at_most_one any (values p xs) ≡ Ok (Some (record { octets = xs; place = p })) → One n xs
    alone [] well is = let e = ap (at_most_one any) (no_values p [] refl) in cc
    alone (x ∷ xs) well is =
        let ys = x ∷ xs in
        let some : 0 < length ys = omega arith in
        let parts = well_parts n p ys some well in
        let whole = well_whole n p ys parts.0 in
        let step = values_step p ys some in
        let same : front ys ≡ ys =
        ⊎_elim
        (λ none. let e = sym step ∙ none.0 in cc)
        (λ one.
        let e = sym step ∙ one.2 in
        let here : ◌≡◌ {A = Part} (record { octets = front ys; place = p }) one.0 = cc in
        let read : one.0 ≡ one.1 = cc in
        let asked : ◌≡◌ {A = Part} (record { octets = ys; place = p }) one.1 = cc in
        ap (λ v. v.octets) (here ∙ read ∙ sym asked))
        (one_parts any (values p ys) (Some (record { octets = ys; place = p })) is) in
        record { well = value_carries n n p 0 ys (omega arith) parts.0; all = sym (front_length ys whole) ∙ ap length same }

-- the contents of an invoke and of an error, read: `made` is the component made of them
module _ (made : ℤ → ℤ → Option Part → Said) (end : ℕ) (a b : ℤ) (o : Option Part) (fa : SFits w16 a) (fb : SFits w16 b) where
  -- the contents
  abbrev pub two_contents : List ℕ
  two_contents = integer_octets a ++ (integer_octets b ++ optional_octets o)

  -- both INTEGERs read, and what comes behind them is left
  typed_as : two_integers end (values 5 two_contents) ≡ and_then (at_most_one any (values (behind_two a b) (optional_octets o))) (λ g. Ok (a, b, g))
  typed_as =
      rw (two_values a b (optional_octets o), integer_reads a fa, integer_reads b fb) refl

  -- with one value or none behind them they read as the component
  pub two_reads : Fit 7 o → (bad_list 7 5 two_contents ≡ None)
      × (and_then (two_integers end (values 5 two_contents)) (λ p. Ok (made p.0 p.1 p.2)) ≡ Ok (made a b (option_map (moved (behind_two a b)) o)))
  two_reads fit =
      let r = fit_reads 7 (behind_two a b) o fit in
      (rw (two_list a b (optional_octets o)) r.0, rw (typed_as, r.1) refl)

  -- and if they read as the component, one value or none stands behind them
  pub two_fit : ((g h : Option Part) → made a b g ≡ made a b h → g ≡ h) → bad_list 7 5 two_contents ≡ None
      → and_then (two_integers end (values 5 two_contents)) (λ p. Ok (made p.0 p.1 p.2)) ≡ Ok (made a b (option_map (moved (behind_two a b)) o))
      → Fit 7 o
  two_fit apart well is =
      let p = then_parts (two_integers end (values 5 two_contents)) (λ p. Ok (made p.0 p.1 p.2)) (made a b (option_map (moved (behind_two a b)) o)) is in
      let t = then_parts (at_most_one any (values (behind_two a b) (optional_octets o))) (λ g. Ok (a, b, g)) p.0 (sym typed_as ∙ p.1) in
      let whole : ◌≡◌ {A = ℤ × ℤ × Option Part} (a, b, t.0) p.0 = cc in
      let said : made p.0.0 p.0.1 p.0.2 ≡ made a b (option_map (moved (behind_two a b)) o) = cc in
      let same : made a b t.0 ≡ made a b (option_map (moved (behind_two a b)) o) = ap (λ q. made q.0 q.1 q.2) whole ∙ said in
      reads_fit 7 (behind_two a b) o (sym (two_list a b (optional_octets o)) ∙ well) (t.1 ∙ ap Ok (apart _ _ same))
