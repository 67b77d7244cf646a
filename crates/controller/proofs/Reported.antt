-- Legs stay apart whatever is reported.
use Rattle.std.proofs.Common.{◌≡◌, ◌||◌, cond, List, [], ◌∷◌, ℕ, ◌+◌, ◌≤◌, ◌==◌, ◌&&◌, not, Bool, true, false, Some, None, Ok, Option, Result, IfOk, length, nat_le, refl, subst, arith}
use Rattle.std.proofs.lemmas.Bool.{true≢false}
use Rattle.std.proofs.lemmas.List.Sums.{sum_by-cons}
use Rattle.std.specs.List.{count_by, list_any}
use Rattle.tables.specs.declared.call.Call.{Call}
use Rattle.tables.specs.declared.call.Event.TheVariants as event
use Rattle.tables.specs.declared.call.State.{State}
use Rattle.tables.specs.declared.conference.Conference.{Conference}
use Rattle.tables.specs.declared.conference.Party.{Party}
use Rattle.tables.specs.declared.refusal.Refusal.{Refusal}
use Rattle.tables.specs.declared.refusal.Refusal.TheVariants.{OutOfRange, WrongLeg, NoRoom}
use Rattle.tables.specs.Calls.{leads_to_leg, next_call}
use Rattle.tables.specs.Edits.{with_call, with_left}
use Rattle.tables.specs.Table.{Table, call_at, call_to, conference_with, is_up, linked_to, party_on}
use Rattle.controller.specs.declared.disc.Disc.{Disc}
use Rattle.controller.specs.declared.report.Report.{Report}
use Rattle.controller.specs.declared.report.Report.TheVariants as report
use Rattle.controller.specs.Apart.{Apart, times_up}
use Rattle.controller.specs.Reports.{Accepted, by_event, disc_for, disconnected, quiet, reported, with_sent, leg_cleared, party_cleared, released, unless}
use Rattle.controller.specs.Steps.{is_leg, is_reference, others}
use Rattle.controller.proofs.Staying.{apart_call, apart_more, apart_still, on_parties-filter-le}

-- what is accepted leaves the legs apart
abbrev LeftApart : Result Accepted Refusal → Type 0
LeftApart r = IfOk r (λ a. Apart a.effect.table)

-- what holds of a report that passes the test
pub unless_so : (P : Accepted → Type 0) (ok : Bool) (why : Refusal) (go : Result Accepted Refusal) → (ok ≡ true → IfOk go P) → IfOk (unless ok why go) P
unless_so P true why go passed = passed refl
unless_so P false why go passed = tt

-- and of an event that belongs to the state of the call
pub event_so : (P : Accepted → Type 0) (o : Option Call) (more : Call → Result Accepted Refusal) → ((c : Call) → o ≡ Some c → IfOk (more c) P) → IfOk (by_event o more) P
event_so P None more each = tt
event_so P (Some c) more each = each c refl

-- so it is where the legs are left apart
unless_apart : (ok : Bool) (why : Refusal) (go : Result Accepted Refusal) → (ok ≡ true → LeftApart go) → LeftApart (unless ok why go)
unless_apart = unless_so (λ a. Apart a.effect.table)

event_apart : (o : Option Call) (more : Call → Result Accepted Refusal) → ((c : Call) → o ≡ Some c → LeftApart (more c)) → LeftApart (by_event o more)
event_apart = event_so (λ a. Apart a.effect.table)

-- after each event but an answer the call leads to no leg that it did not lead to
after_calling : (k : ℕ) (old c : Call) → next_call event.Calling old ≡ Some c → leads_to_leg k c.state ≡ true → leads_to_leg k old.state ≡ true
after_calling k old c is leads = grind arith

after_hold : (k : ℕ) (old c : Call) → next_call event.Hold old ≡ Some c → leads_to_leg k c.state ≡ true → leads_to_leg k old.state ≡ true
after_hold k old c is leads = grind arith

after_retrieve : (k : ℕ) (old c : Call) → next_call event.Retrieve old ≡ Some c → leads_to_leg k c.state ≡ true → leads_to_leg k old.state ≡ true
after_retrieve k old c is leads = grind arith

after_clearing : (k : ℕ) (old c : Call) → next_call event.RemoteClearing old ≡ Some c → leads_to_leg k c.state ≡ true → leads_to_leg k old.state ≡ true
after_clearing k old c is leads = grind arith

after_disconnect : (k : ℕ) (old c : Call) → next_call event.Disconnect old ≡ Some c → leads_to_leg k c.state ≡ true → leads_to_leg k old.state ≡ true
after_disconnect k old c is leads = grind arith

after_released : (k : ℕ) (old c : Call) → next_call event.Released old ≡ Some c → leads_to_leg k c.state ≡ true → leads_to_leg k old.state ≡ true
after_released k old c is leads = grind arith

-- after an answer it leads to the leg that answered
after_answer : (k leg : ℕ) (speech : Bool) (old c : Call) → next_call (event.Answer leg speech) old ≡ Some c → leads_to_leg k c.state ≡ (leg == k)
after_answer k leg speech old c is = grind arith

-- the conference of a link that is disconnected is ending: no leg changes
disconnected_apart : (s : State) (t : Table) → Apart t → Apart (disconnected s t)
disconnected_apart s t apart = apart_still t (disconnected s t) apart (λ k. same s k)
  where
    same : (s' : State) (k : ℕ) → times_up (disconnected s' t) k ≤ times_up t k
    same s' k = grind arith

-- the parties of a conference that ends are no more
released_apart : (c : Option Conference) (t : Table) → Apart t → Apart (released c t).effect.table
released_apart None t apart = apart
released_apart (Some c) t apart = apart_still t _ apart (λ k. omega (arith, on_parties-filter-le k (λ q. not (q.conference == c.id)) t.parties))

-- a party clears; the PartyDISC changes no leg
sent_apart : (d : Option Disc) (t : Table) → Apart t → Apart (with_sent d t)
sent_apart None t apart = apart
sent_apart (Some d) t apart = apart_still t _ apart (λ k. omega arith)

party_cleared_apart : (t : Table) (p : Party) → Apart t → Apart (party_cleared t p).effect.table
party_cleared_apart t p apart =
    sent_apart (disc_for t p (conference_with t p.conference)) (with_left p.conference p.id t)
    (apart_still t (with_left p.conference p.id t) apart (λ k. omega (arith, on_parties-filter-le k (λ q. not (q.conference == p.conference && q.id == p.id)) t.parties)))

-- the remote user of a leg clears
leg_cleared_apart : (room : ℕ) (t : Table) (r : Option ℕ) (p : Option Party) → Apart t → LeftApart (leg_cleared room t r p)
leg_cleared_apart room t (Some r) p apart =
    event_apart (next_call event.RemoteClearing (call_at t r)) _ (λ c is. apart_call t r c apart (λ k. after_clearing k (call_at t r) c is))
leg_cleared_apart room t None (Some p) apart =
    unless_apart (nat_le (length (others t p.conference p.id)) room) NoRoom _ (λ _. party_cleared_apart t p apart)
leg_cleared_apart room t None None apart = tt

-- what no element passes is not counted
count-none : {X : Type 0} (p : X → Bool) (xs : List X) → list_any p xs ≡ false → count_by p xs ≡ 0
count-none p [] none = refl
count-none p (x ∷ xs) none = count-none_step (p x) (list_any p xs) _ _ none (sum_by-cons (λ y. cond (p y) 1 0) x xs) (count-none p xs)
  where
    count-none_step : (b rest : Bool) (n m : ℕ) → (b || rest) ≡ false → n ≡ cond b 1 0 + m → (rest ≡ false → m ≡ 0) → n ≡ 0
    count-none_step true rest n m none' is later = absurd (true≢false none')
    count-none_step false rest n m none' is later = omega (arith, is, later none')

-- a leg that is not up is on no call, and no party's
down : (k : ℕ) (t : Table) → is_up k t ≡ false → times_up t k ≡ 0
down k t not_up = neither (list_any (λ c. leads_to_leg k c.state) t.calls) _ not_up
    (count-none (λ c. leads_to_leg k c.state) t.calls) (count-none (λ p. p.leg == k) t.parties)
  where
    neither : (a b : Bool) → (a || b) ≡ false → {m n : ℕ} → (a ≡ false → m ≡ 0) → (b ≡ false → n ≡ 0) → m + n ≡ 0
    neither true b up calls parties = absurd (true≢false up)
    neither false b up calls parties = omega (arith, calls refl, parties up)

-- a leg that answers is a leg
in_reach : (r leg : ℕ) → (is_reference r && is_leg leg) ≡ true → (1 ≤ leg) × (leg ≤ 64)
in_reach r leg is = grind arith

-- a call changes by an event other than an answer
event_only : (t : Table) (r gone : ℕ) (o : Option Call) → Apart t → ((c : Call) → o ≡ Some c → (k : ℕ) → leads_to_leg k c.state ≡ true → leads_to_leg k (call_at t r).state ≡ true)
    → LeftApart (unless (is_reference r) OutOfRange (by_event o (λ c. Ok (quiet (with_call r c t) gone))))
event_only t r gone o apart leads = unless_apart (is_reference r) OutOfRange _ (λ _. event_apart o _ (λ c is. apart_call t r c apart (leads c is)))

-- whatever an accepted report does, each leg is up once at most
reported_apart : (room : ℕ) (asked : Report) (t : Table) → Apart t → LeftApart (reported room asked t)
reported_apart room (report.Calling r) t apart = event_only t r 0 _ apart (λ c is k. after_calling k (call_at t r) c is)
reported_apart room (report.Hold r) t apart = event_only t r 0 _ apart (λ c is k. after_hold k (call_at t r) c is)
reported_apart room (report.Retrieve r) t apart = event_only t r 0 _ apart (λ c is k. after_retrieve k (call_at t r) c is)
reported_apart room (report.Answer r leg speech) t apart =
    unless_apart (is_reference r && is_leg leg) OutOfRange _
    (λ reach. event_apart (next_call (event.Answer leg speech) (call_at t r)) _
    (λ c is. unless_apart (not (is_up leg t)) WrongLeg _
    (λ free. apart_more t r leg c apart (in_reach r leg reach) (down leg t (grind arith)) (λ k. after_answer k leg speech (call_at t r) c is))))
reported_apart room (report.RemoteClearing leg) t apart =
    unless_apart (is_leg leg) OutOfRange _ (λ _. leg_cleared_apart room t (call_to t leg) (party_on t leg) apart)
reported_apart room (report.Disconnect r) t apart =
    unless_apart (is_reference r) OutOfRange _ (λ _. event_apart (next_call event.Disconnect (call_at t r)) _
    (λ c is. disconnected_apart (call_at t r).state (with_call r c t) (apart_call t r c apart (λ k. after_disconnect k (call_at t r) c is))))
reported_apart room (report.Released r) t apart =
    unless_apart (is_reference r) OutOfRange _ (λ _. event_apart (next_call event.Released (call_at t r)) _
    (λ c is. released_apart (linked_to t r) (with_call r c t) (apart_call t r c apart (λ k. after_released k (call_at t r) c is))))

-- whatever report was accepted, each leg is up once at most
pub accepted_apart : (room : ℕ) (asked : Report) (t : Table) → Apart t → (a : Accepted) → reported room asked t ≡ Ok a → Apart a.effect.table
accepted_apart room asked t apart a is = subst LeftApart is (reported_apart room asked t apart)
