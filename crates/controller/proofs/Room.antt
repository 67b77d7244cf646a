-- Where legs are apart, a call that leads to one leaves room for it as a party.
use Rattle.std.proofs.Common.{◌≡◌, ℕ, ◌<◌, ◌≤◌, ◌==◌, Bool, true, cond, List, [], ◌∷◌, length, get_or, Some, Ok, refl, false, sym, ◌∙◌, suc, zero, arith}
use Rattle.std.proofs.lemmas.List.{length-map}
use Rattle.std.proofs.lemmas.Bool.{false≢true}
use Rattle.std.proofs.lemmas.Bool.Decides.{nat_tests}
use Rattle.std.specs.List.{count_by}
use Rattle.std.proofs.lemmas.List.Sums.{sum_by-cons}
use Rattle.facility.specs.declared.request.Request.{Request}
use Rattle.tables.specs.declared.call.State.{State}
use Rattle.tables.specs.declared.conference.Party.{Party}
use Rattle.tables.specs.declared.level.Level.{Level}
use Rattle.tables.specs.Calls.{absent, leads_to_leg, own_leg}
use Rattle.tables.specs.Table.{Table, call_at, legs_of}
use Rattle.controller.specs.declared.carrier.Carrier.{Carrier}
use Rattle.controller.specs.declared.deed.Deed.{Deed}
use Rattle.controller.specs.Apart.{Apart, times_up}
use Rattle.controller.specs.Deeds.{HasRoom}
use Rattle.controller.specs.Judging.{verdict}
use Rattle.controller.proofs.Distinct.{times, times-cons, length-distinct_but}
use Rattle.controller.proofs.Passing.{Grants, begin_by_setup, begin_on_call, add, split, drop, isolate, reattach, granted}

-- what passes a test is counted
counted : {X : Type 0} (p : X → Bool) (xs : List X) (r : ℕ) (d : X) → p d ≡ false → p (get_or xs r d) ≡ true → 1 ≤ count_by p xs
counted p [] r d fails passes = absurd (false≢true (sym fails ∙ passes))
counted p (x ∷ xs) zero d fails passes = grind (arith, sum_by-cons (λ y. cond (p y) 1 0) x xs)
counted p (x ∷ xs) (suc r) d fails passes = grind (arith, sum_by-cons (λ y. cond (p y) 1 0) x xs, counted p xs r d fails passes)

-- a call leads to its own leg
pub own_leads : (s : State) (k : ℕ) → own_leg s ≡ Some k → leads_to_leg k s ≡ true
own_leads s k own = grind (arith, nat_tests)

-- so that leg is up on a call
pub own_up : (t : Table) (r k : ℕ) → own_leg (call_at t r).state ≡ Some k → 1 ≤ count_by (λ c. leads_to_leg k c.state) t.calls
own_up t r k own = counted (λ c. leads_to_leg k c.state) t.calls r absent refl (own_leads (call_at t r).state k own)

-- a leg's parties are counted by their legs
times-legs : (k : ℕ) (ps : List Party) → times k (legs_of ps) ≡ count_by (λ p. p.leg == k) ps
times-legs k [] = refl
times-legs k (p ∷ ps) = grind (arith, times-cons k p.leg (legs_of ps), sum_by-cons (λ q. cond (q.leg == k) 1 0) p ps, times-legs k ps)

-- a leg that a call leads to is no party's
pub room_for_party : (t : Table) (r k : ℕ) → Apart t → own_leg (call_at t r).state ≡ Some k → length t.parties < 64
room_for_party t r k apart own =
    let on_call = own_up t r k own in
    let up : 1 ≤ times_up t k = omega (arith, on_call) in
    let none : times k (legs_of t.parties) ≡ 0 = rw times-legs (omega (arith, on_call, apart.once k)) in
    let fewer : length (legs_of t.parties) < 64 =
    length-distinct_but 64 k (legs_of t.parties) (apart.legs k up).0 (apart.legs k up).1 none
    (λ j. rw times-legs (omega (arith, apart.once j)))
    (λ j there. apart.legs j (let is : 1 ≤ count_by (λ p. p.leg == j) t.parties = rw (← times-legs j t.parties) there in omega (arith, is))) in
    rw length-map at fewer

-- what is granted has room in the tables
pub granted_room : (level : Level) (t : Table) (room : ℕ) (carrier : Carrier) (q : Request) (d : Deed) → verdict level t room carrier q ≡ Ok d → Apart t → HasRoom t d
granted_room level t room carrier q d is apart = go (granted level t room carrier q d is).comes
  where
    go : {carrier : Carrier} {q : Request} {d : Deed} → Grants level t carrier q d → HasRoom t d
    go (begin_by_setup r speech size begins) = begins.room
    go (begin_on_call r size leg begins some own) = (begins.room, room_for_party t r leg apart own)
    go (add r id leg c there few own) = room_for_party t r leg apart own
    go (split r speech id p c q there has) = tt
    go (drop r p c q is has) = tt
    go (isolate r p c q is has) = tt
    go (reattach r p c q is has) = tt
