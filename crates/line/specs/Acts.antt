-- Tellings and collections, and the standings that they lead to. Assumes nothing.
use Rattle.std.specs.Prelude.{◌≡◌, ℕ, ◌≤◌, List, [], ◌∷◌, ◌++◌, fold, map, Ok, Err, filter, Result, nat_eq, nat_le, nat_lt, Bool, cond, ◌&&◌, length}
use Rattle.line.specs.declared.acts.Act.{Act}
use Rattle.line.specs.declared.acts.Act.TheVariants.{Tell, Collect}
use Rattle.line.specs.declared.acts.BothLines.{BothLines}
use Rattle.line.specs.declared.meaning.Refusal.{Refusal}
use Rattle.line.specs.declared.notice.Notice.{Notice}
use Rattle.line.specs.declared.standing.Standing.{Standing}
use Rattle.line.specs.Boards.{board_standing}
use Rattle.line.specs.Meaning.{Standings, Same, Tells, Collects}
use Rattle.line.specs.Notices.{fresh, after}
use Rattle.line.specs.Order.{Telling}
use Rattle.line.specs.Outboxes.{messages, outbox_standing, outbox_room, waiting}

-- the notices told to a leg, in their order
abbrev pub notices_to : ℕ → List Telling → List Notice
notices_to k ts = map (λ t. t.1) (filter (λ t. nat_eq k t.0) ts)

-- the standing once notices are heard, one after another
abbrev pub heard : List Notice → Standing → Standing
heard notices s = fold (λ s notice. after notice s) s notices

-- the standing of each leg is what the notices told to it alone make of a new one
abbrev pub Alone : List Telling → Standings → Type 0
Alone ts s = (k : ℕ) → s k ≡ heard (notices_to k ts) fresh

-- what an act answers and leaves: a collection is never refused
abbrev pub CarriedOut : Act → Standings → Standings → ℕ → ℕ → Result Unit Refusal → Type 0
CarriedOut (Tell leg notice) s s' room room' r = Tells leg notice s s' room room' r
CarriedOut Collect s s' room room' (Ok _) = Collects s s' room'
CarriedOut Collect s s' room room' (Err _) = ⊥

-- what was told by an act, by its answer: nothing by a refusal, nor by a collection
abbrev pub told : Act → Result Unit Refusal → List Telling
told (Tell leg notice) (Ok _) = (leg, notice) ∷ []
told (Tell leg notice) (Err _) = []
told Collect r = []

-- what was told since the last collection, with an act more
abbrev pub since : Act → Result Unit Refusal → List Telling → List Telling
since (Tell leg notice) r waits = waits ++ told (Tell leg notice) r
since Collect r waits = []

-- what an act does to a line of any kind: a telling tells, unless it is refused and leaves the line as it was, and a collection
-- collects
abbrev pub DoesAct : {L : Type 0} → (L → ℕ → Notice → L → Type 0) → (L → L → Type 0) → Act → L → L → Result Unit Refusal → Type 0
DoesAct tells collects (Tell leg notice) l l' (Ok _) = tells l leg notice l'
DoesAct tells collects (Tell leg notice) l l' (Err _) = l' ≡ l
DoesAct tells collects Collect l l' r = collects l l'

-- a line on which a list of acts was done since it was new, with the room of a collected line: each act with an answer that
-- the line's contract gives, where the one before it left off. `ts` are the tellings among them that were not refused, and `ws`
-- those since the last collection
pub data Run : List Act → List Telling → List Telling → Standings → ℕ → Type 0 where
  new : (s : Standings) (room : ℕ) → ((k : ℕ) → s k ≡ fresh) → 64 ≤ room → Run [] [] [] s room
  next : (acts : List Act) (ts ws : List Telling) (act : Act) (r : Result Unit Refusal) (s s' : Standings) (room room' : ℕ)
      → Run acts ts ws s room → CarriedOut act s s' room room' r
      → Run (acts ++ (act ∷ [])) (ts ++ told act r) (since act r ws) s' room'

-- an act carries on whatever run led to the line: then, too, each leg's standing is what the notices told
-- to it alone give
pub record GoesOn (act : Act) (r : Result Unit Refusal) (s s' : Standings) (room room' : ℕ) : Type 0 where
  pub run : (acts : List Act) (ts ws : List Telling) → Run acts ts ws s room → Run (acts ++ (act ∷ [])) (ts ++ told act r) (since act r ws) s' room'
  pub alone : (acts : List Act) (ts ws : List Telling) → Run acts ts ws s room → Alone (ts ++ told act r) s'

-- what an act adds on an outbox, to what was told and to what waits of it: a leg's telling, unless 128 wait; a collection leaves none
abbrev pub fits : ℕ → List Telling → Bool
fits leg ws = nat_le 1 leg && nat_le leg 64 && nat_lt (length ws) 128

abbrev pub taken_in : List Telling × List Telling → Act → List Telling × List Telling
taken_in x (Tell leg notice) = cond (fits leg x.1) (x.0 ++ ((leg, notice) ∷ []), x.1 ++ ((leg, notice) ∷ [])) x
taken_in x Collect = (x.0, [])

abbrev pub all_taken_in : List Act → List Telling × List Telling
all_taken_in acts = fold (λ x act. taken_in x act) ([], []) acts

-- an outbox on which acts were done, and a board on which those were done that the outbox did not refuse: the same was told
-- on both, and what was told since the last collection waits on the outbox, and nothing else
pub record Both (acts : List Act) (lines : BothLines) : Type 0 where
  pub taken : List Act
  pub ts : List Telling
  pub ws : List Telling
  pub just : all_taken_in acts ≡ (ts, ws)
  pub outbox : Run acts ts ws (outbox_standing lines.outbox) (outbox_room lines.outbox)
  pub waits : waiting lines.outbox ≡ messages ws
  pub since_then : List Telling
  pub board : Run taken ts since_then (board_standing lines.board) 128

-- an act carries on whatever acts were done on both
abbrev pub BothGoOn : Act → BothLines → BothLines → Type 0
BothGoOn act lines lines' = (acts : List Act) → Both acts lines → Both (acts ++ (act ∷ [])) lines'

-- new lines of both kinds, on which a list of acts was done
pub record NewLines (acts : List Act) (lines : BothLines) : Type 0 where
  pub done : Both acts lines
  -- on either line the standing of a leg is what the notices told to it alone give
  pub outbox : Alone done.ts (outbox_standing lines.outbox)
  pub board : Alone done.ts (board_standing lines.board)
  -- told the same, both have equal standings
  pub alike : Same (outbox_standing lines.outbox) (board_standing lines.board)
