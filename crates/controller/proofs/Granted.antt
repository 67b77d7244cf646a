-- Legs stay apart whatever is granted.
use Rattle.std.proofs.Common.{◌≡◌, ℕ, ◌+◌, ◌≤◌, ◌==◌, ◌&&◌, not, Bool, true, false, cond, [], ◌∷◌, ◌++◌, filter, set, Some, Ok, refl, arith}
use Rattle.std.proofs.lemmas.Bool.{eqb-true, false≢true}
use Rattle.std.proofs.lemmas.Bool.Decides.{nat_tests}
use Rattle.tables.specs.declared.call.Call.{Call}
use Rattle.tables.specs.declared.call.End.TheVariants as end
use Rattle.tables.specs.declared.call.State.{State}
use Rattle.tables.specs.declared.call.State.TheVariants.{Idle, Clearing}
use Rattle.tables.specs.declared.conference.Mark.{Mark}
use Rattle.tables.specs.declared.conference.Mark.TheVariants as mark
use Rattle.tables.specs.declared.conference.Party.{Party}
use Rattle.tables.specs.declared.level.Level.{Level}
use Rattle.tables.specs.Calls.{own_leg, leads_to_leg}
use Rattle.tables.specs.Edits.{with_call, with_left, with_marked}
use Rattle.tables.specs.Table.{Table, call_at, next_conference, next_party, parties_of, party_with}
use Rattle.facility.specs.declared.request.Request.{Request}
use Rattle.line.specs.declared.notice.Notice.{Notice}
use Rattle.line.specs.declared.notice.Notice.TheVariants.{Isolated, Reattached, OtherIsolated, OtherReattached}
use Rattle.controller.specs.declared.carrier.Carrier.{Carrier}
use Rattle.controller.specs.declared.deed.Deed.{Deed}
use Rattle.controller.specs.Apart.{Apart, times_up}
use Rattle.controller.specs.Deeds.{deed_effect}
use Rattle.controller.specs.Granting.{added, begun_by_setup, begun_on_call, led_to, remarked, same_mark, split as split_of}
use Rattle.controller.specs.Judging.{asked_size, verdict}
use Rattle.controller.specs.Steps.{Effect}
use Rattle.controller.proofs.Finding.{found}
use Rattle.controller.proofs.Passing.{Grants, begin_by_setup, begin_on_call, add, split, drop, isolate, reattach, granted}
use Rattle.controller.proofs.Staying.{apart_call, apart_still, on_calls, on_calls-set, on_parties, on_parties-filter-le, on_parties-joined, on_parties-left, on_parties-marked}

-- a call leads to its own leg alone
leads_own : (k l : ℕ) (s : State) → own_leg s ≡ Some l → leads_to_leg k s ≡ (l == k)
leads_own k l s own = grind (arith, nat_tests)

-- a call that leads to a conference leads to no leg
pub led_to_none : (k id : ℕ) (s : State) → leads_to_leg k (led_to id s) ≡ false
led_to_none k id s = grind arith

-- a call's own leg becomes a party's
moved : (t : Table) (r : ℕ) (c : Call) (p : Party) (k : ℕ) → own_leg (call_at t r).state ≡ Some p.leg → leads_to_leg k c.state ≡ false
    → on_calls k (set t.calls r c) + on_parties k (t.parties ++ (p ∷ [])) ≤ times_up t k
moved t r c p k own none =
    let before : leads_to_leg k (call_at t r).state ≡ (p.leg == k) = leads_own k p.leg (call_at t r).state own in
    let none' : cond {A = ℕ} (leads_to_leg k c.state) 1 0 ≡ 0 = rw none refl in
    let calls : on_calls k (set t.calls r c) + cond (leads_to_leg k (call_at t r).state) 1 0 ≤ on_calls k t.calls = omega (arith, none', on_calls-set k r c t.calls) in
    let own_gone : on_calls k (set t.calls r c) + cond (p.leg == k) 1 0 ≤ on_calls k t.calls = rw before at calls in
    omega (arith, own_gone, on_parties-joined k t.parties p)

-- a party becomes a call's leg
moved_back : (t : Table) (r id p : ℕ) (c : Call) (q : Party) (k : ℕ) → party_with t id p ≡ Some q → leads_to_leg k c.state ≡ (q.leg == k)
    → on_calls k (set t.calls r c) + on_parties k (filter (λ x. not (x.conference == id && x.id == q.id)) t.parties) ≤ times_up t k
moved_back t r id p c q k is leads =
    let same : q.id ≡ p = eqb-true q.id p (found (λ x. x.id == p) q (parties_of t id) is).1 in
    let calls : on_calls k (set t.calls r c) ≤ on_calls k t.calls + cond (q.leg == k) 1 0 = rw (← leads) (omega (arith, on_calls-set k r c t.calls)) in
    rw same (omega (arith, calls, on_parties-left k id p q t.parties is))

-- a party leaves
left_apart : (t : Table) (id p : ℕ) → Apart t → Apart (with_left id p t)
left_apart t id p apart =
    apart_still t (with_left id p t) apart (λ k. omega (arith, on_parties-filter-le k (λ x. not (x.conference == id && x.id == p)) t.parties))

-- of two effects, whichever it is
either_apart : (b : Bool) (e f : Effect) → Apart e.table → Apart f.table → Apart (cond b e f).table
either_apart true e f this other = this
either_apart false e f this other = other

-- a party is marked
remarked_apart : (m : Mark) (own other : Notice) (id : ℕ) (p : Party) (t : Table) → Apart t → Apart (remarked m own other id p t).table
remarked_apart m own other id p t apart =
    either_apart (same_mark p.mark m) _ _ apart (apart_still t (with_marked id p.id m t) apart (λ k. omega (arith, on_parties-marked k id p.id m t.parties)))

-- a conference begins by SETUP
by_setup_apart : (id size r : ℕ) (t : Table) → Apart t → Apart (begun_by_setup id size r t).table
by_setup_apart id size r t apart =
    let c : Call = record { state = Idle (end.Conference id); speech = true } in
    let still : Apart (with_call r c t) = apart_call t r c apart (λ k leads. absurd (false≢true leads)) in
    apart_still (with_call r c t) (begun_by_setup id size r t).table still (λ k. omega arith)

-- one begins on a call in progress
on_call_apart : (id size r leg : ℕ) (t : Table) → own_leg (call_at t r).state ≡ Some leg → Apart t → Apart (begun_on_call id size r leg t).table
on_call_apart id size r leg t own apart =
    apart_still t (begun_on_call id size r leg t).table apart
    (λ k. moved t r (record { state = led_to id (call_at t r).state; speech = (call_at t r).speech }) (record { conference = id; id = 0; leg = leg; mark = mark.Joined }) k own (led_to_none k id (call_at t r).state))

-- a call is added
added_apart : (id p r leg : ℕ) (t : Table) → own_leg (call_at t r).state ≡ Some leg → Apart t → Apart (added id p r leg t).table
added_apart id p r leg t own apart =
    apart_still t (added id p r leg t).table apart
    (λ k. moved t r (record { state = Clearing; speech = (call_at t r).speech }) (record { conference = id; id = p; leg = leg; mark = mark.Joined }) k own refl)

-- a party is split off
split_apart : (id p r : ℕ) (q : Party) (t : Table) → party_with t id p ≡ Some q → Apart t → Apart (split_of id q r t).table
split_apart id p r q t found apart =
    apart_still t (split_of id q r t).table apart
    (λ k. moved_back t r id p (record { state = Idle (end.Leg q.leg); speech = true }) q k found refl)

-- whatever a granted request does, each leg is up once at most
pub granted_apart : (level : Level) (t : Table) (room : ℕ) (carrier : Carrier) (q : Request) (d : Deed) → verdict level t room carrier q ≡ Ok d → Apart t → Apart (deed_effect t d).table
granted_apart level t room carrier q d is apart = go (granted level t room carrier q d is).comes
  where
    go : {carrier : Carrier} {q : Request} {d : Deed} → Grants level t carrier q d → Apart (deed_effect t d).table
    go (begin_by_setup r speech size begins) = by_setup_apart (next_conference t) (asked_size level size) r t apart
    go (begin_on_call r size leg begins some own) = on_call_apart (next_conference t) (asked_size level size) r leg t own apart
    go (add r id leg c there few own) = added_apart c.id (next_party t c) r leg t own apart
    go (split r speech id p c q there has) = split_apart c.id p r q t has apart
    go (drop r p c q is has) = left_apart t c.id q.id apart
    go (isolate r p c q is has) = remarked_apart mark.Isolated Isolated OtherIsolated c.id q t apart
    go (reattach r p c q is has) = remarked_apart mark.Joined Reattached OtherReattached c.id q t apart
