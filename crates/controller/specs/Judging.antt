-- What becomes of a request: it is granted, and comes to a deed; or something is wrong with it. Assumes nothing.
use Rattle.std.specs.Prelude.{ℕ, Bool, true, false, cond, not, ◌||◌, ◌==◌, List, [], ◌∷◌, length, Some, None, Option, Ok, Err, Result, nat_le, nat_lt}
use Rattle.tables.specs.declared.call.State.{State}
use Rattle.tables.specs.declared.call.State.TheVariants.{Absent, Idle, Held}
use Rattle.tables.specs.declared.conference.Conference.{Conference}
use Rattle.tables.specs.declared.conference.Mark.TheVariants.{Joined, Isolated}
use Rattle.tables.specs.declared.conference.Party.{Party}
use Rattle.tables.specs.declared.conference.Phase.{Phase}
use Rattle.tables.specs.declared.conference.Phase.TheVariants.{Open, Ending}
use Rattle.tables.specs.declared.level.Level.{Level}
pub use Rattle.tables.specs.Calls.{leads_to_conference, own_leg}
pub use Rattle.tables.specs.Table.{next_conference, next_party}
use Rattle.tables.specs.Table.{Table, call_at, conference_with, parties_of, party_with}
use Rattle.facility.specs.declared.request.Request.{Request}
use Rattle.facility.specs.declared.request.Request.TheVariants as request
use Rattle.controller.specs.declared.carrier.Carrier.{Carrier}
use Rattle.controller.specs.declared.carrier.Carrier.TheVariants.{Facility, Setup}
use Rattle.controller.specs.declared.deed.Deed.{Deed}
use Rattle.controller.specs.declared.deed.Deed.TheVariants.{BeginBySetup, BeginOnCall, Add, Split, Drop, Remark}
use Rattle.components.specs.declared.problem.InvokeProblem.TheVariants.{UnrecognizedOperation, ResourceLimitation}
use Rattle.controller.specs.declared.verdict.OperationError.TheVariants.{NotSubscribed, NotAvailable, InvalidCallState, ResourceUnavailable, IllConferenceId, IllPartyId, NumberOfPartiesExceeded, NotActive, NotAllowed}
use Rattle.controller.specs.declared.verdict.Wrong.{Wrong}
use Rattle.controller.specs.declared.verdict.Wrong.TheVariants.{Failed, Rejected}
use Rattle.controller.specs.Deeds.{deed_effect}

-- granted, with the deed that it comes to; or what is wrong
abbrev pub Verdict : Type 0
Verdict = Result Deed Wrong

-- the first test that holds says what is wrong; where none does, judging goes on
abbrev pub unless_wrong : List (Bool × Wrong) → Verdict → Verdict
unless_wrong [] rest = rest
unless_wrong (c ∷ cs) rest = cond c.0 (Err c.1) (unless_wrong cs rest)

-- what has to be there is there, and judging goes on with it; or that is wrong
abbrev pub with_found : {X : Type 0} → Option X → Wrong → (X → Verdict) → Verdict
with_found None why go = Err why
with_found (Some x) why go = go x

-- the reference that carried a request
abbrev pub reference_of : Carrier → ℕ
reference_of (Facility r) = r
reference_of (Setup r speech) = r

-- split needs SETUP, begin takes either, and the others need FACILITY
abbrev pub carries : Carrier → Request → Bool
carries carrier (request.Begin size) = true
carries (Facility r) (request.Split conference party) = false
carries (Setup r speech) (request.Split conference party) = true
carries (Facility r) _ = true
carries (Setup r speech) _ = false

abbrev pub is_absent : State → Bool
is_absent Absent = true
is_absent _ = false

-- a SETUP makes a call, so its reference is that of no call
abbrev pub in_use : Carrier → Table → Bool
in_use (Facility r) t = false
in_use (Setup r speech) t = not (is_absent (call_at t r).state)

-- a conference that is Open
abbrev pub opened : Option Conference → Option Conference
opened None = None
opened (Some c) = by c.phase
  where
    by : Phase → Option Conference
    by Open = Some c
    by Ending = None

-- a call in progress: it is idle or held
abbrev pub in_progress : State → Bool
in_progress (Idle to) = true
in_progress (Held to) = true
in_progress _ = false

-- the conference that a call in progress is the link of
abbrev pub controlled : Table → Option ℕ → Option Conference
controlled t None = None
controlled t (Some id) = conference_with t id

abbrev pub control_of : Table → ℕ → Option Conference
control_of t r = controlled t (leads_to_conference (call_at t r).state)

-- a size not given is the level's
abbrev pub asked_size : Level → Option ℕ → ℕ
asked_size level None = level.size
asked_size level (Some n) = n

abbrev pub is_full : Table → Conference → Bool
is_full t c = nat_le c.size (length (parties_of t c.id))

-- a conference begun by SETUP
abbrev pub begin_by_setup : Level → Table → ℕ → ℕ → Bool → Verdict
begin_by_setup level t r size speech = unless_wrong
    ((not level.subscribed, Failed NotSubscribed)
    ∷ (nat_lt level.size size, Failed NumberOfPartiesExceeded)
    ∷ (nat_le level.conferences (length t.conferences), Failed ResourceUnavailable)
    ∷ (not speech, Failed NotAvailable) ∷ [])
    (Ok (BeginBySetup (next_conference t) size r))

-- one begun on a call in progress, with a size that is not 0; the link of a conference has no leg of its own
abbrev pub begin_on_call : Level → Table → ℕ → ℕ → Verdict
begin_on_call level t r size = unless_wrong
    ((not level.subscribed, Failed NotSubscribed)
    ∷ (size == 0 || nat_lt level.size size, Failed NumberOfPartiesExceeded)
    ∷ (nat_le level.conferences (length t.conferences), Failed ResourceUnavailable)
    ∷ (not (in_progress (call_at t r).state), Failed InvalidCallState)
    ∷ (not (call_at t r).speech || not level.active, Failed NotAvailable) ∷ [])
    (with_found (own_leg (call_at t r).state) (Failed NotAvailable) (λ leg. Ok (BeginOnCall (next_conference t) size r leg)))

-- a call added to a conference
abbrev pub add_to : Table → ℕ → ℕ → Verdict
add_to t id r = with_found (opened (conference_with t id)) (Failed IllConferenceId) (λ c. unless_wrong
    ((is_full t c, Failed NumberOfPartiesExceeded)
    ∷ (not (in_progress (call_at t r).state), Failed InvalidCallState)
    ∷ (not (call_at t r).speech, Failed NotAllowed) ∷ [])
    (with_found (own_leg (call_at t r).state) (Failed NotAllowed) (λ leg. Ok (Add c.id (next_party t c) r leg))))

-- a party split off; without speech that is rejected
abbrev pub split_off : Table → ℕ → ℕ → ℕ → Bool → Verdict
split_off t id p r speech = with_found (opened (conference_with t id)) (Failed IllConferenceId) (λ c.
    with_found (party_with t c.id p) (Failed IllPartyId) (λ q.
    unless_wrong ((not speech, Rejected ResourceLimitation) ∷ []) (Ok (Split c.id q r))))

-- a party dropped, isolated or reattached: the call has to be the link of an Open conference
abbrev pub control_party : Table → ℕ → ℕ → (ℕ → Party → Deed) → Verdict
control_party t r p deed = with_found (opened (control_of t r)) (Failed NotActive) (λ c.
    with_found (party_with t c.id p) (Failed IllPartyId) (λ q. Ok (deed c.id q)))

-- the errors of an operation, in their order; none of them is what it comes to
abbrev pub operation_verdict : Level → Table → Carrier → Request → Verdict
operation_verdict level t (Setup r speech) (request.Begin size) = begin_by_setup level t r (asked_size level size) speech
operation_verdict level t (Facility r) (request.Begin size) = begin_on_call level t r (asked_size level size)
operation_verdict level t (Facility r) (request.Add conference) = add_to t conference r
operation_verdict level t (Setup r speech) (request.Split conference party) = split_off t conference party r speech
operation_verdict level t (Facility r) (request.Drop party) = control_party t r party (λ c q. Drop c q)
operation_verdict level t (Facility r) (request.Isolate party) = control_party t r party (λ c q. Remark c q Isolated)
operation_verdict level t (Facility r) (request.Reattach party) = control_party t r party (λ c q. Remark c q Joined)
operation_verdict level t carrier _ = Err (Rejected UnrecognizedOperation)

-- the carrier's checks first, and then the operation's errors
abbrev pub judged : Level → Table → Carrier → Request → Verdict
judged level t carrier asked = unless_wrong
    ((not (carries carrier asked), Rejected UnrecognizedOperation)
    ∷ (in_use carrier t, Rejected ResourceLimitation) ∷ [])
    (operation_verdict level t carrier asked)

-- how many notices a deed needs room for
abbrev pub needed : Table → Deed → ℕ
needed t deed = length (deed_effect t deed).told

-- room last: there has to be as much as a deed needs
abbrev pub with_room : ℕ → Table → Verdict → Verdict
with_room room t (Ok deed) = unless_wrong ((nat_lt room (needed t deed), Rejected ResourceLimitation) ∷ []) (Ok deed)
with_room room t (Err why) = Err why

-- what becomes of a request, with room for so many notices
abbrev pub verdict : Level → Table → ℕ → Carrier → Request → Verdict
verdict level t room carrier asked = with_room room t (judged level t carrier asked)
