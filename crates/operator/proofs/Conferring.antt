-- The conferences are those linked, after an edit.
use Rattle.std.proofs.Common.{◌≡◌, ℕ, cond, eqb, not, List, [], ◌∷◌, ◌++◌, map, Some, None, Option, refl, subst, ap, ◌∙◌, sym, inl, inr}
use Rattle.std.specs.List.{filter, find}
use Rattle.std.specs.Option.{option_to_list}
use Rattle.std.proofs.lemmas.Bool.{cases_Bool, cases_eq, ne_eqb, eq-eqb, eqb-true}
use Rattle.std.proofs.lemmas.List.{append-nil, map-append}
use Rattle.std.proofs.lemmas.List.Elements.{filter-append}
use Rattle.tables.specs.declared.conference.Conference.{Conference}
use Rattle.operator.proofs.Holding.{Linked, Once}
use Rattle.operator.proofs.Lists.{In, in_filter, in_filtered, in_found, none_found, in_map, filter_swap, filter_map_kept, filter_none}

-- what a map has
pub in_mapped : {X Y : Type 0} (f : X → Y) (x : X) (xs : List X) → In x xs → In (f x) (map f xs)
in_mapped f x [] is = absurd is
in_mapped f x (y ∷ ys) (inl is) = inl (ap f is)
in_mapped f x (y ∷ ys) (inr is) = inr (in_mapped f x ys is)

-- what an option has
in_option : (x : ℕ) (o : Option ℕ) → In x (option_to_list o) → o ≡ Some x
in_option x None is = absurd is
in_option x (Some y) (inl is) = ap (λ z. Some z) (sym is)
in_option x (Some y) (inr is) = absurd is

-- each conference is linked by its reference
pub there_linked : (links : ℕ → Option ℕ) (cs : List Conference) (c : Conference) → Linked links cs → In c cs → links c.link ≡ Some c.id
there_linked links cs c linked is =
    let kept = in_filter (λ d. eqb d.link c.link) c cs is (eq-eqb c.link c.link refl) in
    in_option c.id (links c.link) (subst (λ l. In c.id l) (linked c.link) (in_mapped (λ d. d.id) c _ kept))

-- what is linked is there
pub linked_there : (links : ℕ → Option ℕ) (cs : List Conference) (ref id : ℕ) → Linked links cs → links ref ≡ Some id → (c : Conference) × In c cs × (c.link ≡ ref) × (c.id ≡ id)
linked_there links cs ref id linked is =
    let has : In id (map (λ d. d.id) (filter (λ d. eqb d.link ref) cs)) = rw (linked ref, is) (inl refl) in
    let c = in_map (λ d. d.id) id (filter (λ d. eqb d.link ref) cs) has in
    let there = in_filtered (λ d. eqb d.link ref) c.0 cs c.1 in
    (c.0, there.0, eqb-true c.0.link ref there.1, sym c.2)

-- the conference found by its reference
pub found_linked : (links : ℕ → Option ℕ) (cs : List Conference) (ref : ℕ) (c : Conference) → Linked links cs → find (λ d. eqb d.link ref) cs ≡ Some c → links ref ≡ Some c.id
found_linked links cs ref c linked is =
    let there = in_found (λ d. eqb d.link ref) c cs is in
    rw (← eqb-true c.link ref there.1) (there_linked links cs c linked there.0)

-- where none is found by its reference, nothing is linked
pub none_linked : (links : ℕ → Option ℕ) (cs : List Conference) (ref : ℕ) → Linked links cs → find (λ d. eqb d.link ref) cs ≡ None → links ref ≡ None
none_linked links cs ref linked none = empty (links ref) (sym (linked ref) ∙ ap (map (λ d. d.id)) (filter_none (λ d. eqb d.link ref) cs (λ c is. none_found (λ d. eqb d.link ref) c cs none is)))
  where
    empty : (o : Option ℕ) → option_to_list o ≡ [] → o ≡ None
    empty None is = refl
    empty (Some x) is = cc

-- a conference is begun on a reference that had none
pub linked_begun : (links : ℕ → Option ℕ) (cs : List Conference) (c : Conference) → links c.link ≡ None → Linked links cs → Linked (λ r. cond (eqb r c.link) (Some c.id) (links r)) (cs ++ (c ∷ []))
linked_begun links cs c none linked r =
    ap (map (λ d. d.id)) (filter-append (λ d. eqb d.link r) cs (c ∷ [])) ∙ map-append (λ d. d.id) (filter (λ d. eqb d.link r) cs) (filter (λ d. eqb d.link r) (c ∷ [])) ∙ rw (linked r) (elim (cases_eq r c.link) [
      | inl is ↦ let same = eq-eqb c.link c.link refl in rw (is, none, same)
      | inr ne ↦ let other = ne_eqb c.link r (λ is. ne (sym is)) in let other' = ne_eqb r c.link ne in rw (other, other') (append-nil _)
    ])

-- a new id is linked once
pub once_begun : (links : ℕ → Option ℕ) (ref id : ℕ) → ((r : ℕ) → links r ≡ Some id → ⊥) → Once links → Once (λ r. cond (eqb r ref) (Some id) (links r))
once_begun links ref id fresh once r r' c is is' = elim (cases_eq r ref) [
  | inl a ↦ elim (cases_eq r' ref) [
    | inl b ↦ a ∙ sym b
    | inr b ↦ absurd (fresh r' ((rw (ne_eqb r' ref b) at is') ∙ sym (rw (eq-eqb r ref a) at is)))
  ]
  | inr a ↦ elim (cases_eq r' ref) [
    | inl b ↦ absurd (fresh r ((rw (ne_eqb r ref a) at is) ∙ sym (rw (eq-eqb r' ref b) at is')))
    | inr b ↦ once r r' c (rw (ne_eqb r ref a) at is) (rw (ne_eqb r' ref b) at is')
  ]
]

-- what changes neither ids nor references leaves the links
ids_kept : (f : Conference → Conference) → ((c : Conference) → (f c).id ≡ c.id) → (cs : List Conference) → map (λ c. c.id) (map f cs) ≡ map (λ c. c.id) cs
ids_kept f kept [] = refl
ids_kept f kept (c ∷ cs) = let rest = ids_kept f kept cs in rw (kept c, rest)

-- so the links fit after such a change
pub linked_map : (links : ℕ → Option ℕ) (f : Conference → Conference) (cs : List Conference) → ((c : Conference) → (f c).id ≡ c.id) → ((c : Conference) → (f c).link ≡ c.link) → Linked links cs → Linked links (map f cs)
linked_map links f cs id_kept link_kept linked r =
    ap (map (λ d. d.id)) (filter_map_kept (λ d. eqb d.link r) f (λ c. ap (λ l. eqb l r) (link_kept c)) cs) ∙ ids_kept f id_kept (filter (λ d. eqb d.link r) cs) ∙ linked r

-- a conference ends
ids_filtered : (id : ℕ) (cs : List Conference) → map (λ c. c.id) (filter (λ c. not (eqb c.id id)) cs) ≡ filter (λ i. not (eqb i id)) (map (λ c. c.id) cs)
ids_filtered id [] = refl
ids_filtered id (c ∷ cs) =
    let rest = ids_filtered id cs in
    elim (cases_Bool (eqb c.id id)) [ inl a ↦ rw a rest | inr a ↦ rw a (ap (λ l. c.id ∷ l) rest) ]

-- the links fit once a conference has ended
pub linked_ended : (links : ℕ → Option ℕ) (cs : List Conference) (ref id : ℕ) → links ref ≡ Some id → Once links → Linked links cs → Linked (λ r. cond (eqb r ref) None (links r)) (filter (λ c. not (eqb c.id id)) cs)
linked_ended links cs ref id is once linked r =
    ap (map (λ d. d.id)) (filter_swap (λ d. eqb d.link r) (λ c. not (eqb c.id id)) cs) ∙ ids_filtered id (filter (λ d. eqb d.link r) cs) ∙ ap (filter (λ i. not (eqb i id))) (linked r) ∙ elim (cases_eq r ref) [
      | inl a ↦ let same = eq-eqb id id refl in let here = eq-eqb ref ref refl in rw (a, is, here, same)
      | inr ne ↦ rw (ne_eqb r ref ne) (other (links r) (λ has. ne (once r ref id has is)))
    ]
  where
    other : (o : Option ℕ) → (o ≡ Some id → ⊥) → filter (λ i. not (eqb i id)) (option_to_list o) ≡ option_to_list o
    other None not_it = refl
    other (Some x) not_it = rw (ne_eqb x id (λ e. not_it (ap (λ z. Some z) e)))

-- and each id is linked once still
pub once_ended : (links : ℕ → Option ℕ) (ref : ℕ) → Once links → Once (λ r. cond (eqb r ref) None (links r))
once_ended links ref once r r' c is is' = elim (cases_eq r ref) [
  | inl a ↦ let here = rw (eq-eqb r ref a) at is in cc
  | inr a ↦ elim (cases_eq r' ref) [
    | inl b ↦ let here = rw (eq-eqb r' ref b) at is' in cc
    | inr b ↦ once r r' c (rw (ne_eqb r ref a) at is) (rw (ne_eqb r' ref b) at is')
  ]
]
