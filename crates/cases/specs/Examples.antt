-- The worked examples: two tables, each row what the rules give and what that is. Assumes nothing.
use Rattle.std.specs.Prelude.{◌≡◌, ℕ, true, List, [], ◌∷◌, ◌++◌, drop, ℤ, pos, negsuc, Some, None, Ok, Err, Option, Result}
use Rattle.std.specs.List.{AllByRecursion}
use Rattle.components.specs.declared.fault.Cause.{Cause}
use Rattle.components.specs.declared.fault.Cause.TheVariants as cause
use Rattle.components.specs.declared.fault.Fault.{Fault}
use Rattle.components.specs.Component.{Said, result}
use Rattle.components.specs.Reading.{reading}
use Rattle.facility.specs.declared.request.Request.TheVariants as request
use Rattle.facility.specs.declared.request.RequestInvoke.{RequestInvoke}
use Rattle.facility.specs.Requests.{a_number, requesting}
use Rattle.line.specs.Acts.{heard, notices_to}
use Rattle.line.specs.Notices.{fresh}
use Rattle.tables.specs.declared.level.Level.{Level}
use Rattle.tables.specs.declared.refusal.LevelRefusal.{LevelRefusal}
use Rattle.tables.specs.LevelWords.{Offers}
use Rattle.tables.specs.Refusals.{level_refusal_number}
use Rattle.controller.specs.declared.carrier.Carrier.TheVariants.{Setup}
use Rattle.controller.specs.declared.report.Report.TheVariants as report
use Rattle.operator.specs.declared.steps.Step.TheVariants as step
use Rattle.operator.specs.Turns.{Answer, replied}
use Rattle.reel.specs.declared.open.Open.{Open}
use Rattle.reel.specs.declared.refusal.Refusal.{Refusal}
use Rattle.reel.specs.Reels.{append_refused, Holds}
use Rattle.reel.specs.Refusals.{refusal_number}
use Rattle.script.specs.Levels.{no_level}
use Rattle.cases.specs.Conferring.{after, answer_after, asking, begun, call, facility, joined}

-- what an example comes to: a level is made, or a record fits; a refusal; a drop with its invoke id; a fault with its place;
-- a message, with how many legs are gone; a PartyId given; a sum heard; or none of these
pub data Outcome : Type 0 where
  made fits : Outcome
  refused : (number : ℕ) → Outcome
  drops : (id : ℤ) (party : ℕ) → Outcome
  fault : (why : Cause) (place : ℕ) → Outcome
  message : (octets : List ℕ) (gone : ℕ) → Outcome
  party : (id : ℕ) → Outcome
  sum : (heard : ℤ) → Outcome
  other : Outcome

-- a level, by why there is no such one
abbrev pub level : Option LevelRefusal → Outcome
level None = made
level (Some why) = refused (level_refusal_number why)

-- what an element is read as
abbrev pub asked : ℤ → request.the_data → Outcome
asked id (request.Drop p) = drops id p
asked id _ = other

abbrev pub element : Result RequestInvoke Fault → Outcome
element (Ok r) = asked r.id r.request
element (Err f) = fault f.cause f.place

-- the message that answers a request
abbrev pub answer : Answer → Outcome
answer (replied body gone) = message body gone
answer _ = other

-- the PartyId in the result that answers an add: its element stands behind five octets of DISCONNECT
abbrev pub id_in : Option ℕ → Outcome
id_in (Some n) = party n
id_in None = other

abbrev pub result_of : Result Said Fault → Outcome
result_of (Ok (result id (Some v))) = id_in (a_number v.1.octets)
result_of _ = other

abbrev pub id_given : Answer → Outcome
id_given (replied body gone) = result_of (reading (drop 5 body))
id_given _ = other

-- a record, by why it is not appended
abbrev pub appended : Option Refusal → Outcome
appended None = fits
appended (Some why) = refused (refusal_number why)

-- an invoke, id 1, of the operation `code` with the number 5
abbrev pub octets : ℕ → List ℕ
octets code = 0x1c ∷ 0x0c ∷ 0x91 ∷ 0xa1 ∷ 0x09 ∷ 0x02 ∷ 0x01 ∷ 0x01 ∷ 0x02 ∷ 0x01 ∷ code ∷ 0x02 ∷ 0x01 ∷ 0x05 ∷ []

-- a conference of one party, which is dropped; and then a second call
abbrev pub dropped : List step.the_data
dropped = begun 1 ++ (facility 1 (request.Drop 0) ∷ call 2 2)

-- a hold on reference 1, as a record
abbrev pub hold : List ℕ
hold = 3 ∷ 1 ∷ []

-- the examples of levels and elements
abbrev pub elements : List (Outcome × Outcome)
elements =
    -- a level of at most 30 parties in 8 conferences is made; of 31 and 9 it is the 31 that is refused
    (level (no_level 30 8), made)
    ∷ (level (no_level 31 9), refused 1)
    -- 2B, 43, is a drop of party 5; 2E, 46, is no request: cause 18 at the operation, of an invoke with id 1
    ∷ (element (requesting (octets 0x2b)), drops (pos 1) 5)
    ∷ (element (requesting (octets 0x2e)), fault (cause.Operation (pos 1)) 8)
    ∷ []

-- the examples of conferences and reels, at level Round, subscribed, and on a new reel
abbrev pub table : Level → Open → List (Outcome × Outcome)
table round new =
    -- a begin by SETUP gets CONNECT with ConferenceId 0
    (
      answer (answer_after round [] (step.Settled (Setup 1 true) (asking (request.Begin (Some 10))))),
      message (0x07 ∷ 0x1c ∷ 0x10 ∷ 0x91 ∷ 0xa2 ∷ 0x0d ∷ 0x02 ∷ 0x01 ∷ 0x07 ∷ 0x30 ∷ 0x08 ∷ 0x02 ∷ 0x01 ∷ 0x28
          ∷ 0x30 ∷ 0x03 ∷ 0x02 ∷ 0x01 ∷ 0x00 ∷ []) 0,
    )
    -- a begin of size 0 by FACILITY on an idle call gets error 30
    ∷ (
      answer (answer_after round (call 1 1) (facility 1 (request.Begin (Some 0)))),
      message (0x62 ∷ 0x1c ∷ 0x09 ∷ 0x91 ∷ 0xa3 ∷ 0x06 ∷ 0x02 ∷ 0x01 ∷ 0x07 ∷ 0x02 ∷ 0x01 ∷ 0x1e ∷ []) 0,
    )
    -- legs 1 and 2 join in turn; leg 1 clears: leg 2 has a sum of -1
    ∷ (
      sum (heard (notices_to 2 (after round (joined ++ (step.Reported (report.RemoteClearing 1) ∷ []))).1) fresh).heard,
      sum (negsuc 0),
    )
    -- a party is dropped: the next to join gets PartyId 1, by DISCONNECT
    ∷ (
      answer (answer_after round dropped (facility 2 (request.Add 0))),
      message (0x45 ∷ 0x08 ∷ 0x02 ∷ 0x82 ∷ 0x9f ∷ 0x1c ∷ 0x0e ∷ 0x91 ∷ 0xa2 ∷ 0x0b ∷ 0x02 ∷ 0x01 ∷ 0x07 ∷ 0x30 ∷ 0x06
          ∷ 0x02 ∷ 0x01 ∷ 0x29 ∷ 0x02 ∷ 0x01 ∷ 0x01 ∷ []) 0,
    )
    ∷ (id_given (answer_after round dropped (facility 2 (request.Add 0))), party 1)
    -- a hold does not fit in 14 octets of memory, and does in 15
    ∷ (appended (append_refused new hold 14), refused 8)
    ∷ (appended (append_refused new hold 15), fits)
    ∷ []

-- every row agrees
abbrev pub Agree : List (Outcome × Outcome) → Type 0
Agree rows = AllByRecursion (λ row. row.0 ≡ row.1) rows

-- the examples hold, those of elements without a level and a reel
abbrev pub ExamplesHold : Type 0
ExamplesHold =
    Agree elements
    × ((round : Level) (new : Open) → Offers 10 4 true true round → Holds [] new [] → Agree (table round new))
