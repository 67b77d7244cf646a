-- Legs stay apart where no leg is up more often than before.
use Rattle.std.proofs.Common.{◌≡◌, ℕ, ◌+◌, ◌≤◌, ◌==◌, ◌&&◌, not, Bool, true, false, cond, List, [], ◌∷◌, ◌++◌, map, filter, get_or, set, Some, unwrap_or, refl, ap, suc, zero, arith}
use Rattle.std.proofs.lemmas.Bool.{false≢true}
use Rattle.std.specs.List.{count_by, find}
use Rattle.std.proofs.lemmas.List.Sums.{sum_by-cons}
use Rattle.tables.specs.declared.call.Call.{Call}
use Rattle.tables.specs.declared.conference.Mark.{Mark}
use Rattle.tables.specs.declared.conference.Party.{Party}
use Rattle.tables.specs.Calls.{absent, leads_to_leg}
use Rattle.tables.specs.Edits.{marked, with_call}
use Rattle.std.proofs.lemmas.List.Folds.{sum_by-replicate}
use Rattle.tables.specs.Table.{Table, empty, call_at}
use Rattle.controller.specs.Apart.{Apart, times_up}

-- how many calls, or parties, a leg is up on
abbrev pub on_calls : ℕ → List Call → ℕ
on_calls k cs = count_by (λ c. leads_to_leg k c.state) cs

abbrev pub on_parties : ℕ → List Party → ℕ
on_parties k ps = count_by (λ p. p.leg == k) ps

-- the call in front is counted
on_calls-cons : (k : ℕ) (c : Call) (cs : List Call) → on_calls k (c ∷ cs) ≡ cond (leads_to_leg k c.state) 1 0 + on_calls k cs
on_calls-cons k c cs = sum_by-cons (λ d. cond (leads_to_leg k d.state) 1 0) c cs

-- so is the party in front
on_parties-cons : (k : ℕ) (p : Party) (ps : List Party) → on_parties k (p ∷ ps) ≡ cond (p.leg == k) 1 0 + on_parties k ps
on_parties-cons k p ps = sum_by-cons (λ q. cond (q.leg == k) 1 0) p ps

-- none is up more often than before
pub apart_still : (t t' : Table) → Apart t → ((k : ℕ) → times_up t' k ≤ times_up t k) → Apart t'
apart_still t t' apart fewer = record {
  once = λ k. omega (arith, fewer k, apart.once k);
  legs = λ k up. apart.legs k (omega (arith, fewer k, up));
}

-- a call at its reference: the one before leads nowhere then
pub on_calls-set : (k r : ℕ) (c : Call) (cs : List Call) → on_calls k (set cs r c) + cond (leads_to_leg k (get_or cs r absent).state) 1 0 ≤ on_calls k cs + cond (leads_to_leg k c.state) 1 0
on_calls-set k r c [] = omega arith
on_calls-set k zero c (x ∷ cs) = omega (arith, on_calls-cons k x cs, on_calls-cons k c cs)
on_calls-set k (suc r) c (x ∷ cs) = omega (arith, on_calls-cons k x cs, on_calls-cons k x (set cs r c), on_calls-set k r c cs)

-- a mark changes no leg
pub on_parties-marked : (k id p : ℕ) (m : Mark) (ps : List Party) → on_parties k (map (marked id p m) ps) ≡ on_parties k ps
on_parties-marked k id p m [] = refl
on_parties-marked k id p m (q ∷ ps) = grind (arith, on_parties-cons k q ps, on_parties-cons k (marked id p m q) (map (marked id p m) ps), on_parties-marked k id p m ps)

-- fewer parties
pub on_parties-filter-le : (k : ℕ) (f : Party → Bool) (ps : List Party) → on_parties k (filter f ps) ≤ on_parties k ps
on_parties-filter-le k f [] = omega arith
on_parties-filter-le k f (q ∷ ps) = grind (arith, on_parties-cons k q ps, on_parties-cons k q (filter f ps), on_parties-filter-le k f ps)

-- one party more, which is found and goes, or is passed over and stays
left-step : (k : ℕ) (f : Party → Bool) (a b : Bool) (x q : Party) (L F ps : List Party) → f x ≡ b → find f (cond a (x ∷ L) L) ≡ Some q
    → (find f L ≡ Some q → on_parties k F + cond (q.leg == k) 1 0 ≤ on_parties k ps) → on_parties k F ≤ on_parties k ps
    → on_parties k (cond (not (a && b)) (x ∷ F) F) + cond (q.leg == k) 1 0 ≤ on_parties k (x ∷ ps)
left-step k f true true x q L F ps is found rest le =
    let here : Some x ≡ Some q = rw is at found in
    let leg : x.leg ≡ q.leg = ap (λ o. (unwrap_or o x).leg) here in
    rw (← leg) (omega (arith, on_parties-cons k x ps, le))
left-step k f true false x q L F ps is found rest le =
    let later : find f L ≡ Some q = rw is at found in
    omega (arith, on_parties-cons k x ps, on_parties-cons k x F, rest later)
left-step k f false b x q L F ps is found rest le = omega (arith, on_parties-cons k x ps, on_parties-cons k x F, rest found)

-- a party that is found is counted, and is not left
pub on_parties-left : (k id p : ℕ) (q : Party) (ps : List Party) → find (λ x. x.id == p) (filter (λ x. x.conference == id) ps) ≡ Some q
    → on_parties k (filter (λ x. not (x.conference == id && x.id == p)) ps) + cond (q.leg == k) 1 0 ≤ on_parties k ps
on_parties-left k id p q [] found = cc
on_parties-left k id p q (x ∷ ps) found =
    left-step k (λ x. x.id == p) (x.conference == id) (x.id == p) x q (filter (λ x. x.conference == id) ps) (filter (λ x. not (x.conference == id && x.id == p)) ps) ps refl found
    (on_parties-left k id p q ps) (on_parties-filter-le k (λ x. not (x.conference == id && x.id == p)) ps)

-- one who joins
pub on_parties-joined : (k : ℕ) (ps : List Party) (p : Party) → on_parties k (ps ++ (p ∷ [])) ≡ on_parties k ps + cond (p.leg == k) 1 0
on_parties-joined k [] p = grind (arith, on_parties-cons k p [])
on_parties-joined k (q ∷ ps) p = grind (arith, on_parties-cons k q ps, on_parties-cons k q (ps ++ (p ∷ [])), on_parties-joined k ps p)

-- one leg is up once more
at_most : (leg k now before : ℕ) → now ≤ before + cond (leg == k) 1 0 → (leg ≡ k → before ≡ 0) → before ≤ 1 → now ≤ 1
at_most leg k now before le down once = grind arith

-- and each leg that is up is still a leg
in_range : (leg k now before : ℕ) → now ≤ before + cond (leg == k) 1 0 → (1 ≤ leg) × (leg ≤ 64) → (1 ≤ before → (1 ≤ k) × (k ≤ 64)) → 1 ≤ now → (1 ≤ k) × (k ≤ 64)
in_range leg k now before le range legs up = grind arith

-- a leg that is down comes up on a call
pub apart_more : (t : Table) (r leg : ℕ) (c : Call) → Apart t → (1 ≤ leg) × (leg ≤ 64) → times_up t leg ≡ 0
    → ((k : ℕ) → leads_to_leg k c.state ≡ (leg == k)) → Apart (with_call r c t)
apart_more t r leg c apart range down leads =
    let more : (k : ℕ) → times_up (with_call r c t) k ≤ times_up t k + cond (leg == k) 1 0 =
    λ k. rw (← leads k) (omega (arith, on_calls-set k r c t.calls)) in
    record {
      once = λ k. at_most leg k _ _ (more k) (λ same. rw (← same) down) (apart.once k);
      legs = λ k up. in_range leg k _ _ (more k) range (apart.legs k) up;
    }

-- what is true only where it was true before counts for no more
fewer : (now before : Bool) (m n l : ℕ) → (now ≡ true → before ≡ true) → m + cond before 1 0 ≤ n + cond now 1 0 → m + l ≤ n + l
fewer true true m n l was le = omega (arith, le)
fewer true false m n l was le = absurd (false≢true (was refl))
fewer false true m n l was le = omega (arith, le)
fewer false false m n l was le = omega (arith, le)

-- a call changes, and leads to no leg that it did not lead to
pub apart_call : (t : Table) (r : ℕ) (c : Call) → Apart t → ((k : ℕ) → leads_to_leg k c.state ≡ true → leads_to_leg k (call_at t r).state ≡ true) → Apart (with_call r c t)
apart_call t r c apart leads = apart_still t (with_call r c t) apart (λ k. fewer (leads_to_leg k c.state) (leads_to_leg k (call_at t r).state) _ _ _ (leads k) (on_calls-set k r c t.calls))

-- in empty tables no leg is up
pub apart_empty : Apart empty
apart_empty =
    let none : (k : ℕ) → times_up empty k ≡ 0 = λ k. omega (arith, sum_by-replicate (λ c. cond (leads_to_leg k c.state) 1 0) 128 absent) in
    record { once = λ k. omega (arith, none k); legs = λ k up. let off : 1 ≤ 0 = omega (arith, none k, up) in absurd (omega arith) }
