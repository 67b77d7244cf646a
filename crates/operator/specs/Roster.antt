-- The roster: who is where, written from the steps and their answers alone. Assumes nothing.
use Rattle.std.specs.Prelude.{ℕ, ◌+◌, ◌-◌, zero, suc, Bool, true, false, cond, not, ◌&&◌, ◌||◌, ◌==◌, List, length, Some, None, Option, slice_index}
use Rattle.components.specs.declared.message.types.MessageType.TheVariants.{Disconnect}
use Rattle.components.specs.MessageTypes.{type_octet}
use Rattle.components.specs.Reading.{result_tag}
use Rattle.facility.specs.declared.request.Request.{Request}
use Rattle.facility.specs.declared.request.Request.TheVariants as request
use Rattle.facility.specs.declared.request.RequestInvoke.{RequestInvoke}
use Rattle.controller.specs.declared.carrier.Carrier.{Carrier}
use Rattle.controller.specs.declared.carrier.Carrier.TheVariants.{Facility, Setup}
use Rattle.controller.specs.declared.report.Report.{Report}
use Rattle.controller.specs.declared.report.Report.TheVariants as report
use Rattle.operator.specs.declared.steps.Step.{Step}
use Rattle.operator.specs.declared.steps.Step.TheVariants as step
use Rattle.operator.specs.Turns.{Answer, refused, done, replied}

-- where a leg is: down; on a reference; or in a conference as a PartyId, with the number of others in it just after it joined, and
-- whether its last isolate or reattach since then was isolate
pub data Entry : Type 0 where
  down : Entry
  on : (reference : ℕ) → Entry
  party : (conference id joined : ℕ) (isolated : Bool) → Entry

-- the entry of each leg; the conference that each reference is the link of; how many answer reports were accepted; how many
-- legs are gone in all answers
pub record Roster : Type 0 where
  pub legs : ℕ → Entry
  pub links : ℕ → Option ℕ
  pub answered : ℕ
  pub gone : ℕ

-- at first all are down, and nothing is linked
abbrev pub empty : Roster
empty = record { legs = λ k. down; links = λ r. None; answered = 0; gone = 0 }

-- questions of an entry: is the leg up, on a reference, in a conference, or there as a PartyId
abbrev pub is_up : Entry → Bool
is_up down = false
is_up _ = true

abbrev pub is_on : ℕ → Entry → Bool
is_on r (on ref) = ref == r
is_on r _ = false

abbrev pub is_in : ℕ → Entry → Bool
is_in c (party conference id joined isolated) = conference == c
is_in c _ = false

abbrev pub is_party : ℕ → ℕ → Entry → Bool
is_party c p (party conference id joined isolated) = conference == c && id == p
is_party c p _ = false

-- how many of the legs below n pass a test; legs are 1 to 64
abbrev pub count_below : (ℕ → Bool) → ℕ → ℕ
count_below test zero = 0
count_below test (suc n) = count_below test n + cond (test n) 1 0

unfoldable pub count : (ℕ → Bool) → ℕ
count test = count_below test 65

-- how many legs are up, how many are in a conference, and how many but one
abbrev pub ups : (ℕ → Entry) → ℕ
ups legs = count (λ k. is_up (legs k))

abbrev pub members : ℕ → (ℕ → Entry) → ℕ
members c legs = count (λ k. is_in c (legs k))

abbrev pub others_in : ℕ → ℕ → (ℕ → Entry) → ℕ
others_in c k legs = count (λ j. not (j == k) && is_in c (legs j))

-- the legs whose entry passes a test get a new entry
abbrev pub changed : (Entry → Bool) → (ℕ → Entry → Entry) → Roster → Roster
changed test new r = record { legs = λ k. cond (test (r.legs k)) (new k (r.legs k)) (r.legs k); links = r.links; answered = r.answered; gone = r.gone }

-- joined a conference, with the others that are in it then
abbrev pub joins : ℕ → ℕ → (ℕ → Entry) → ℕ → Entry → Entry
joins c p legs k e = party c p (others_in c k legs) false

-- marked by isolate or reattach; nobody else is
abbrev pub isolated_as : Bool → Entry → Entry
isolated_as b (party c p joined isolated) = party c p joined b
isolated_as b e = e

-- a reference is the link of a conference, or of none
abbrev pub linked : ℕ → Option ℕ → Roster → Roster
linked ref o r = record { legs = r.legs; links = λ r'. cond (r' == ref) o (r.links r'); answered = r.answered; gone = r.gone }

-- one leg gets an entry
abbrev pub placed : ℕ → Entry → Roster → Roster
placed leg e r = record { legs = λ k. cond (k == leg) e (r.legs k); links = r.links; answered = r.answered; gone = r.gone }

-- so many more answer reports accepted, and legs gone
abbrev pub counted : ℕ → ℕ → Roster → Roster
counted answered gone r = record { legs = r.legs; links = r.links; answered = r.answered + answered; gone = r.gone + gone }

-- struck: the legs whose entry passes a test are down
abbrev pub struck : (Entry → Bool) → Roster → Roster
struck test r = changed test (λ k e. down) r

-- released: the conference linked, and all in it
abbrev pub ended : ℕ → Option ℕ → Roster → Roster
ended ref None r = r
ended ref (Some c) r = linked ref None (struck (is_in c) r)

-- what an accepted report writes
abbrev pub by_report : Report → Roster → Roster
by_report (report.Answer ref leg speech) r = counted 1 0 (placed leg (on ref) r)
by_report (report.RemoteClearing leg) r = placed leg down r
by_report (report.Disconnect ref) r = struck (is_on ref) r
by_report (report.Released ref) r = ended ref (r.links ref) r
by_report _ r = r

-- a party of the conference that a reference is the link of
abbrev pub of_linked : Option ℕ → ℕ → Entry → Bool
of_linked None p e = false
of_linked (Some c) p e = is_party c p e

-- what an accepted request writes, by the ids that its answer gives
abbrev pub by_request : Carrier → Request → ℕ → ℕ → Roster → Roster
by_request (Setup ref speech) (request.Begin size) c p r = linked ref (Some c) r
by_request (Facility ref) (request.Begin size) c p r = linked ref (Some c) (changed (is_on ref) (joins c p r.legs) r)
by_request (Facility ref) (request.Add to) c p r = changed (is_on ref) (joins to p r.legs) r
by_request (Setup ref speech) (request.Split from id) c p r = changed (is_party from id) (λ k e. on ref) r
by_request (Facility ref) (request.Drop id) c p r = struck (of_linked (r.links ref) id) r
by_request (Facility ref) (request.Isolate id) c p r = changed (of_linked (r.links ref) id) (λ k e. isolated_as true e) r
by_request (Facility ref) (request.Reattach id) c p r = changed (of_linked (r.links ref) id) (λ k e. isolated_as false e) r
by_request carrier asked c p r = r

-- an octet, counted from the last
abbrev pub from_last : ℕ → List ℕ → ℕ
from_last n xs = slice_index xs (length xs - (n + 1))

-- a message body is DISCONNECT, or its component is a return result: the request was accepted
abbrev pub accepts : List ℕ → Bool
accepts body = slice_index body 0 == type_octet Disconnect || slice_index body 4 == result_tag

-- the ConferenceId and the PartyId that an accepted request is answered: the last number is the one or the other, or where there
-- are both, the PartyId
abbrev pub conference_answered : Carrier → List ℕ → ℕ
conference_answered (Setup ref speech) body = from_last 0 body
conference_answered (Facility ref) body = from_last 3 body

abbrev pub party_answered : List ℕ → ℕ
party_answered body = from_last 0 body

-- what a request writes, by the message that answers it: nothing unless it is accepted
abbrev pub by_message : Carrier → RequestInvoke → List ℕ → Roster → Roster
by_message carrier asked body r = cond (accepts body) (by_request carrier asked.request (conference_answered carrier body) (party_answered body) r) r

-- what a step writes, by its answer: a refusal writes nothing
abbrev pub by_step : Step → Answer → Roster → Roster
by_step (step.Reported report) (done gone disc) r = by_report report r
by_step (step.Settled carrier asked) (replied body gone) r = by_message carrier asked body r
by_step (step.TurnedAway carrier asked) (replied body gone) r = by_message carrier asked body r
by_step _ answer r = r

-- the legs gone in an answer
abbrev pub gone_in : Answer → ℕ
gone_in (refused why) = 0
gone_in (done gone disc) = gone
gone_in (replied body gone) = gone

-- what a step and its answer write, and the legs gone in the answer
abbrev pub written : Step → Answer → Roster → Roster
written step answer r = counted 0 (gone_in answer) (by_step step answer r)
