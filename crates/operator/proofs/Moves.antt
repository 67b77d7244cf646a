-- What holds goes on holding when a leg comes up, goes down, joins, leaves or is marked, and when a conference begins or ends.
use Rattle.std.proofs.Common.{◌≡◌, ℕ, pos, ◌≤◌, ◌≢◌, Bool, true, false, cond, eqb, not, zero-add, ◌&&◌, List, [], ◌∷◌, ◌++◌, map, Some, None, Option, refl, ap, ◌∙◌, sym, ◌⊎◌, inl, inr, arith}
use Rattle.std.specs.List.{filter}
use Rattle.std.proofs.lemmas.Bool.Decides.{nat_tests}
use Rattle.std.proofs.lemmas.Bool.{cases_Bool, cases_eq, ne_eqb, eq-eqb, eqb-true, true≢false, and_parts}
use Rattle.line.specs.declared.notice.Notice.{Notice}
use Rattle.line.specs.declared.notice.Notice.TheVariants.{Established, OtherAdded, OtherDisconnected}
use Rattle.line.specs.declared.standing.Standing.{Standing}
use Rattle.line.specs.Acts.{heard}
use Rattle.line.specs.Meaning.{Standings}
use Rattle.line.specs.Notices.{after}
use Rattle.tables.specs.declared.call.Call.{Call}
use Rattle.tables.specs.declared.conference.Conference.{Conference}
use Rattle.tables.specs.declared.conference.Mark.TheVariants.{Joined}
use Rattle.tables.specs.declared.conference.Party.{Party}
use Rattle.tables.specs.Edits.{marked}
use Rattle.operator.specs.Company.{is_isolated}
use Rattle.operator.specs.Roster.{Entry, is_on, down, party, is_up, is_in, is_party, others_in}
use Rattle.operator.proofs.Calling.{calls_same}
use Rattle.operator.proofs.Conferring.{linked_begun, once_begun, linked_map, linked_ended, once_ended}
use Rattle.operator.proofs.Counts.{by_leg, Changed, members_changed, others_changed, others_own, count_same, count_none}
use Rattle.operator.proofs.Entries.{ranged_changed, one_leg_changed, no_other_leg, housed_changed, sized_changed}
use Rattle.operator.proofs.Holding.{Holds, Calls, RightAt, Right, Sized, Linked, Once, as_parties, mark_of}
use Rattle.operator.proofs.Lists.{In, in_append, in_map, in_filtered}
use Rattle.operator.proofs.Looking.{nobody_in}
use Rattle.operator.proofs.Partying.{parties_joined, parties_left, parties_marked, parties_ended, parties_same}
use Rattle.operator.proofs.Telling.{quiet_at, joined_at, left_at, others_most}

-- nobody moves: a call changes, and nobody hears anything
pub unmoved : (legs : ℕ → Entry) (links : ℕ → Option ℕ) (calls calls' : List Call) (cs : List Conference) (ps : List Party) (s s' : Standings)
    → Calls legs links calls' → ((k : ℕ) → s' k ≡ s k) → Holds legs links calls cs ps s → Holds legs links calls' cs ps s'
unmoved legs links calls calls' cs ps s s' fit same h = record {
  ranged = h.ranged;
  one_leg_each = h.one_leg_each;
  calls_fit = fit;
  parties_fit = h.parties_fit;
  linked = h.linked;
  once = h.once;
  housed = h.housed;
  sized = h.sized;
  told = λ k. quiet_at k (legs k) legs legs s s' (λ m is. refl) (same k) (h.told k);
}

-- a conference of the same id and size is as good
pub sized_same : (legs : ℕ → Entry) (c d : Conference) → c.id ≡ d.id → c.size ≡ d.size → Sized legs d → Sized legs c
sized_same legs c d id_is size_is sized = record { members = rw (id_is, size_is) sized.members; most = rw size_is sized.most }

-- conferences change in nothing that counts here
pub remapped : (f : Conference → Conference) (legs : ℕ → Entry) (links : ℕ → Option ℕ) (calls : List Call) (cs : List Conference) (ps : List Party) (s : Standings)
    → ((c : Conference) → (f c).id ≡ c.id) → ((c : Conference) → (f c).link ≡ c.link) → ((c : Conference) → (f c).size ≡ c.size)
    → Holds legs links calls cs ps s → Holds legs links calls (map f cs) ps s
remapped f legs links calls cs ps s id_is link_is size_is h = record {
  ranged = h.ranged;
  one_leg_each = h.one_leg_each;
  calls_fit = h.calls_fit;
  parties_fit = h.parties_fit;
  linked = linked_map links f cs id_is link_is h.linked;
  once = h.once;
  housed = h.housed;
  sized = λ c is.
      let was = in_map f c cs is in
      let sized = h.sized was.0 was.1 in
      let id_same : c.id ≡ was.0.id = ap (λ x. x.id) was.2 ∙ id_is was.0 in
      let size_same : c.size ≡ was.0.size = ap (λ x. x.size) was.2 ∙ size_is was.0 in
      sized_same legs c was.0 id_same size_same sized;
  told = h.told;
}

-- a leg that is no party before comes to be none after: up on a call, or down
pub placed : (l : ℕ) (e : Entry) (legs legs' : ℕ → Entry) (links : ℕ → Option ℕ) (calls calls' : List Call) (cs : List Conference) (ps : List Party) (s s' : Standings)
    → Changed l e legs legs' → as_parties l (legs l) ≡ [] → as_parties l e ≡ [] → ((c : ℕ) → is_in c (legs l) ≡ false) → ((c : ℕ) → is_in c e ≡ false) → ((c p : ℕ) → is_party c p e ≡ false) → RightAt l e legs' s'
    → Calls legs' links calls' → ((k : ℕ) → s' k ≡ s k) → Holds legs links calls cs ps s → Holds legs' links calls' cs ps s'
placed l e legs legs' links calls calls' cs ps s s' ch none none' out out' no_party right fit same h = record {
  ranged = ranged_changed ch h.ranged;
  one_leg_each = one_leg_changed ch (λ k c p ne is is'. true≢false (sym is ∙ no_party c p)) h.one_leg_each;
  calls_fit = fit;
  parties_fit = parties_same l e legs legs' ps ch none none' h.parties_fit;
  linked = h.linked;
  once = h.once;
  housed = housed_changed ch (λ c is. absurd (true≢false (sym is ∙ out' c))) (λ ref c is. is) h.housed;
  sized = λ c is. sized_changed c ch (out' c.id) (h.sized c is);
  told = by_leg (λ k e. RightAt k e legs' s') ch right (λ k ne. quiet_at k (legs k) legs legs' s s' (λ m is. let count = rw (out m, out' m) at (others_changed m k (λ is. ne (sym is)) ch) in omega arith) (same k) (h.told k));
}

-- a leg that is no party joins a conference: it hears that the conference is established, and the others that one was added
pub joined : (l id p : ℕ) (legs legs' : ℕ → Entry) (links links' : ℕ → Option ℕ) (calls calls' : List Call) (cs cs' : List Conference) (ps : List Party) (s s' : Standings)
    → Changed l (party id p (others_in id l legs) false) legs legs' → as_parties l (legs l) ≡ [] → ((c : ℕ) → is_in c (legs l) ≡ false) → ((k : ℕ) → is_party id p (legs k) ≡ false)
    → Calls legs' links' calls' → Linked links' cs' → Once links' → ((ref c : ℕ) → links ref ≡ Some c → links' ref ≡ Some c) → (ref : ℕ) × (links' ref ≡ Some id)
    → ((c : Conference) → In c cs' → Sized legs' c)
    → s' l ≡ after Established (s l)
    → ((k : ℕ) → k ≢ l → s' k ≡ heard (map (λ p. OtherAdded) (filter (λ p. eqb p.conference id) (as_parties k (legs k)))) (s k))
    → Holds legs links calls cs ps s → Holds legs' links' calls' cs' (ps ++ (record { conference = id; id = p; leg = l; mark = Joined } ∷ [])) s'
joined l id p legs legs' links links' calls calls' cs cs' ps s s' ch none out fresh fit linked once kept there sized own hears h = record {
  ranged = ranged_changed ch h.ranged;
  one_leg_each = one_leg_changed ch (λ k c q ne is is'. taken k c q is is') h.one_leg_each;
  calls_fit = fit;
  parties_fit = parties_joined l id p (others_in id l legs) legs legs' ps ch none h.parties_fit;
  linked = linked;
  once = once;
  housed = housed_changed ch (λ c is. rw (← eqb-true id c is) there) kept h.housed;
  sized = sized;
  told = by_leg (λ k e. RightAt k e legs' s') ch (record {
    company = rw (own, others_own id ch) (ap pos (zero-add _));
    few = others_most id l legs;
    isolation = rw own refl;
  }) (λ k ne. joined_at k id (legs k) legs legs' s s' (λ m. let count = rw (out m) at (others_changed m k (λ is. ne (sym is)) ch) in omega arith) (hears k ne) (h.told k));
}
  where
    taken : (k c q : ℕ) → (eqb id c && eqb p q) ≡ true → is_party c q (legs k) ≡ true → ⊥
    taken k c q is is' =
        let both = and_parts (eqb id c) (eqb p q) is in
        let same_c = eqb-true id c both.0 in
        let same_p = eqb-true p q both.1 in
        true≢false (sym is' ∙ rw (← same_c, ← same_p) (fresh k))

-- a party leaves its conference, and the others hear that one is gone
pub left : (l id p j : ℕ) (b : Bool) (e : Entry) (n : Notice) (legs legs' : ℕ → Entry) (links : ℕ → Option ℕ) (calls calls' : List Call) (cs : List Conference) (ps : List Party) (s s' : Standings)
    → Changed l e legs legs' → legs l ≡ party id p j b → as_parties l e ≡ [] → ((c : ℕ) → is_in c e ≡ false) → ((c p : ℕ) → is_party c p e ≡ false) → RightAt l e legs' s'
    → Calls legs' links calls' → ((z : Standing) → after n z ≡ after OtherDisconnected z)
    → ((k : ℕ) → k ≢ l → s' k ≡ heard (map (λ p. n) (filter (λ q. not (eqb q.id p)) (filter (λ q. eqb q.conference id) (as_parties k (legs k))))) (s k))
    → Holds legs links calls cs ps s → Holds legs' links calls' cs (filter (λ q. not (eqb q.conference id && eqb q.id p)) ps) s'
left l id p j b e n legs legs' links calls calls' cs ps s s' ch was none out no_party right fit gone hears h = record {
  ranged = ranged_changed ch h.ranged;
  one_leg_each = one_leg_changed ch (λ k c p ne is is'. true≢false (sym is ∙ no_party c p)) h.one_leg_each;
  calls_fit = fit;
  parties_fit = parties_left l id p j b e legs legs' ps ch none was no_other h.parties_fit;
  linked = h.linked;
  once = h.once;
  housed = housed_changed ch (λ c is. absurd (true≢false (sym is ∙ out c))) (λ ref c is. is) h.housed;
  sized = λ c is. sized_changed c ch (out c.id) (h.sized c is);
  told = by_leg (λ k e. RightAt k e legs' s') ch right (λ k ne. left_at k id p n (legs k) legs legs' s s' gone (no_other k ne) (λ m. let count = rw (was, out m) at (others_changed m k (λ is. ne (sym is)) ch) in omega arith) (hears k ne) (h.told k));
}
  where
    no_other : (k : ℕ) → k ≢ l → is_party id p (legs k) ≡ false
    no_other = no_other_leg l id p j b legs h.one_leg_each was

-- a party is marked: it hears so, and the others hear what changes nothing for them
pub remarked : (l id p j : ℕ) (b b' : Bool) (legs legs' : ℕ → Entry) (links : ℕ → Option ℕ) (calls : List Call) (cs : List Conference) (ps : List Party) (s s' : Standings)
    → Changed l (party id p j b') legs legs' → legs l ≡ party id p j b
    → (s' l).heard ≡ (s l).heard → is_isolated (s' l).latest ≡ b'
    → ((k : ℕ) → k ≢ l → s' k ≡ s k)
    → Holds legs links calls cs ps s → Holds legs' links calls cs (map (marked id p (mark_of b')) ps) s'
remarked l id p j b b' legs legs' links calls cs ps s s' ch was sum latest hears h = record {
  ranged = ranged_changed ch h.ranged;
  one_leg_each = one_leg_changed ch (λ k c q ne is is'. absurd (ne (h.one_leg_each k l c q is' (rw was is)))) h.one_leg_each;
  calls_fit = calls_same legs legs' links calls h.calls_fit (λ k q. by_leg (λ k e. is_on q e ≡ is_on q (legs k)) ch (rw was) (λ k ne. refl) k);
  parties_fit = parties_marked l id p j b b' legs legs' ps ch was no_other h.parties_fit;
  linked = h.linked;
  once = h.once;
  housed = housed_changed ch (λ c is. h.housed l c (rw was is)) (λ ref c is. is) h.housed;
  sized = λ c is. let sized = h.sized c is in let count = rw was at (members_changed c.id ch) in record { members = let m = sized.members in omega arith; most = sized.most };
  told = by_leg (λ k e. RightAt k e legs' s') ch (record {
    company = rw (sum, others_own id ch) was_right.company;
    few = was_right.few;
    isolation = latest;
  }) (λ k ne. quiet_at k (legs k) legs legs' s s' (λ m is. let count = rw was at (others_changed m k (λ is. ne (sym is)) ch) in omega arith) (hears k ne) (h.told k));
}
  where
    no_other : (k : ℕ) → k ≢ l → is_party id p (legs k) ≡ false
    no_other = no_other_leg l id p j b legs h.one_leg_each was

    was_right : Right l id j b legs s
    was_right = rw was at (h.told l)

-- a conference begins on a reference that had none, and nobody is in it
pub begun : (c : Conference) (legs : ℕ → Entry) (links : ℕ → Option ℕ) (calls calls' : List Call) (cs : List Conference) (ps : List Party) (s s' : Standings)
    → links c.link ≡ None → ((r : ℕ) → links r ≡ Some c.id → ⊥) → c.size ≤ 30 → Calls legs (λ r. cond (eqb r c.link) (Some c.id) (links r)) calls' → ((k : ℕ) → s' k ≡ s k)
    → Holds legs links calls cs ps s → Holds legs (λ r. cond (eqb r c.link) (Some c.id) (links r)) calls' (cs ++ (c ∷ [])) ps s'
begun c legs links calls calls' cs ps s s' none fresh most fit same h = record {
  ranged = h.ranged;
  one_leg_each = h.one_leg_each;
  calls_fit = fit;
  parties_fit = h.parties_fit;
  linked = linked_begun links cs c none h.linked;
  once = once_begun links c.link c.id fresh h.once;
  housed = λ k m is. let was = h.housed k m is in (was.0, kept was.0 m was.1);
  sized = λ d is. elim (in_append d cs (c ∷ []) is) [
    | inl old ↦ h.sized d old
    | inr new ↦ elim new [ inl here ↦ sized_same legs d c (ap (λ x. x.id) here) (ap (λ x. x.size) here) empty | inr other ↦ absurd other ]
  ];
  told = λ k. quiet_at k (legs k) legs legs s s' (λ m is. refl) (same k) (h.told k);
}
  where
    kept : (r m : ℕ) → links r ≡ Some m → cond (eqb r c.link) (Some c.id) (links r) ≡ Some m
    kept r m is = elim (cases_eq r c.link) [
      | inl e ↦ let was : links r ≡ None = ap links e ∙ none in cc
      | inr ne ↦ rw (ne_eqb r c.link ne) is
    ]

    empty : Sized legs c
    empty = record { members = let count = count_none (λ k. is_in c.id (legs k)) (nobody_in legs links c.id fresh h.housed) in omega arith; most = most }

-- who was in a conference that ends is down
struck_party : (m c p : ℕ) (e : Entry) → is_party c p (cond (is_in m e) down e) ≡ true → is_party c p e ≡ true
struck_party m c p e is = grind arith

-- who is up then was up
struck_up : (m : ℕ) (e : Entry) → is_up (cond (is_in m e) down e) ≡ true → is_up e ≡ true
struck_up m e is = grind arith

-- who is in a conference then was in it, and it is another one
struck_in : (m c : ℕ) (e : Entry) → is_in c (cond (is_in m e) down e) ≡ true → (is_in c e ≡ true) × (is_in m e ≡ false)
struck_in m c e is = grind arith

-- and the other conferences keep their parties
struck_other : (m c : ℕ) (e : Entry) → c ≢ m → is_in c (cond (is_in m e) down e) ≡ is_in c e
struck_other m c e ne = grind (arith, nat_tests)

-- a conference ends with its link, and all in it go down
pub ended : (m ref : ℕ) (legs : ℕ → Entry) (links : ℕ → Option ℕ) (calls calls' : List Call) (cs : List Conference) (ps : List Party) (s s' : Standings)
    → links ref ≡ Some m → Calls (λ k. cond (is_in m (legs k)) down (legs k)) (λ r. cond (eqb r ref) None (links r)) calls' → ((k : ℕ) → s' k ≡ s k)
    → Holds legs links calls cs ps s
    → Holds (λ k. cond (is_in m (legs k)) down (legs k)) (λ r. cond (eqb r ref) None (links r)) calls' (filter (λ c. not (eqb c.id m)) cs) (filter (λ q. not (eqb q.conference m)) ps) s'
ended m ref legs links calls calls' cs ps s s' linked fit same h = record {
  ranged = λ k up. h.ranged k (struck_up m (legs k) up);
  one_leg_each = λ k l c p is is'. h.one_leg_each k l c p (struck_party m c p (legs k) is) (struck_party m c p (legs l) is');
  calls_fit = fit;
  parties_fit = parties_ended m legs ps h.parties_fit;
  linked = linked_ended links cs ref m linked h.once h.linked;
  once = once_ended links ref h.once;
  housed = λ k c is.
      let was = struck_in m c (legs k) is in
      let home = h.housed k c was.0 in
      let other : home.0 ≢ ref = λ e. true≢false (sym was.0 ∙ ap (λ d. is_in d (legs k)) (same_id c home.0 e home.1) ∙ was.1) in
      (home.0, rw (ne_eqb home.0 ref other) home.1);
  sized = λ c is.
      let was = in_filtered (λ c. not (eqb c.id m)) c cs is in
      let sized = h.sized c was.0 in
      let other : c.id ≢ m = λ e. true≢false (sym was.1 ∙ ap not (eq-eqb c.id m e)) in
      let count = count_same (λ k. is_in c.id (cond (is_in m (legs k)) down (legs k))) (λ k. is_in c.id (legs k)) (λ k. struck_other m c.id (legs k) other) in
      record { members = let most = sized.members in omega arith; most = sized.most };
  told = λ k. told (legs k) (cases_Bool (is_in m (legs k))) k (h.told k);
}
  where
    same_id : (c r : ℕ) → r ≡ ref → links r ≡ Some c → c ≡ m
    same_id c r e is = let there : links r ≡ Some m = ap links e ∙ linked in cc

    told : (e : Entry) → (is_in m e ≡ true) ⊎ (is_in m e ≡ false) → (k : ℕ) → RightAt k e legs s → RightAt k (cond (is_in m e) down e) (λ k. cond (is_in m (legs k)) down (legs k)) s'
    told e (inl a) k right = rw a tt
    told e (inr a) k right = rw a (quiet_at k e legs (λ k. cond (is_in m (legs k)) down (legs k)) s s'
        (λ c is. count_same (λ j. not (eqb j k) && is_in c (cond (is_in m (legs j)) down (legs j))) (λ j. not (eqb j k) && is_in c (legs j)) (λ j. ap (λ x. not (eqb j k) && x) (struck_other m c (legs j) (λ same. true≢false (sym is ∙ ap (λ d. is_in d e) same ∙ a)))))
        (same k) right)
