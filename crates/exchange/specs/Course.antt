-- What the lines of a script are answered, and what they do to the exchange that goes on. Assumes nothing.
use Rattle.std.specs.Prelude.{◌≡◌, ℕ, ◌⊎◌, Bool, List, [], ◌∷◌, ◌++◌, Some, None, codes, Option}
use Rattle.std.specs.Io.KnownBytes.{Appends, Consumes, IsAtEnd}
use Rattle.lines.specs.Cutting.{ended, input_lines}
use Rattle.line.specs.Outboxes.{waiting}
use Rattle.tables.specs.LevelWords.{Offers}
use Rattle.tables.specs.declared.refusal.LevelRefusal.{LevelRefusal}
use Rattle.operator.specs.declared.steps.Step.TheVariants as step
use Rattle.exchange.specs.Answers.{answer_text, collected_text, reply_text}
use Rattle.script.specs.Levels.{no_level}
use Rattle.script.specs.Script.{Said, blank, not_understood, level, reported, request, collect, parsed}
use Rattle.exchange.specs.Services.{account, answer_in, New, request_text, Requested, Stepped}
use Rattle.exchange.specs.declared.answer.Reply.TheVariants.{LevelRefused, NoLevel, NotUnderstood}
use Rattle.exchange.specs.declared.service.Service.{Service}

-- a text on a line of its own
abbrev pub line : List ℕ → List ℕ
line text = text ++ codes "\n"

-- the account of the exchange that goes on, if one does
abbrev pub last_account : Option Service → List ℕ
last_account None = []
last_account (Some x) = line (account x)

-- a level is answered by the account of the exchange before it, or by why there is none
abbrev pub level_text : Option LevelRefusal → Option Service → List ℕ
level_text None s = last_account s
level_text (Some why) s = line (reply_text (LevelRefused why))

-- the answer in the exchange that goes on; where none does, that is said
abbrev pub in_service : (Service → List ℕ) → Option Service → List ℕ
in_service text None = line (reply_text NoLevel)
in_service text (Some x) = line (text x)

-- what a line is answered
abbrev pub answered : Said → Option Service → List ℕ
answered blank s = []
answered not_understood s = line (reply_text NotUnderstood)
answered (level size conferences subscribed active) s = level_text (no_level size conferences) s
answered (reported what) s = in_service (λ x. answer_text (answer_in x (step.Reported what))) s
answered (request away by octets) s = in_service (λ x. request_text x away by octets) s
answered collect s = in_service (λ x. collected_text (waiting x.outbox)) s

-- a new exchange at a level that offers so much
abbrev pub IsNew : ℕ → ℕ → Bool → Bool → Option Service → Type 0
IsNew size conferences subscribed active None = ⊥
IsNew size conferences subscribed active (Some x) = Offers size conferences subscribed active x.controller.level × New x.controller.level x

-- a new exchange goes on from a level; without one, that before it
abbrev pub Levels : Option LevelRefusal → (Option Service → Type 0) → Option Service → Option Service → Type 0
Levels None is_new s s' = is_new s'
Levels (Some why) is_new s s' = s' ≡ s

-- the exchange that goes on becomes another, if one does
abbrev pub Becomes : (Service → Service → Type 0) → Option Service → Option Service → Type 0
Becomes how None s' = s' ≡ None
Becomes how (Some x) None = ⊥
Becomes how (Some x) (Some x') = how x x'

-- what a line does
abbrev pub Does : Said → Option Service → Option Service → Type 0
Does blank s s' = s' ≡ s
Does not_understood s s' = s' ≡ s
Does (level size conferences subscribed active) s s' = Levels (no_level size conferences) (IsNew size conferences subscribed active) s s'
Does (reported what) s s' = Becomes (Stepped (step.Reported what)) s s'
Does (request away by octets) s s' = Becomes (Requested away by octets) s s'
Does collect s s' = Becomes (Stepped step.Collected) s s'

-- lines, one after another: the exchange that goes on before and behind them, and all their answers
pub data Runs : List (List ℕ) → Option Service → Option Service → List ℕ → Type 0 where
  none : (s : Option Service) → Runs [] s s []
  then : (l : List ℕ) (ls : List (List ℕ)) (s s' s'' : Option Service) (text : List ℕ)
      → Does (parsed l) s s' → Runs ls s' s'' text → Runs (l ∷ ls) s s'' (answered (parsed l) s ++ text)

-- the output of a script: its lines, answered from the start, and the account of its last exchange
pub record IsOutput (input output : List ℕ) : Type 0 where
  pub last : Option Service
  pub text : List ℕ
  pub runs : Runs (input_lines input) None last text
  pub ends : output ≡ text ++ last_account last

-- some of the lines of a script, from the first on, were answered so from the start
pub record BeginsRun (lines : List (List ℕ)) (text : List ℕ) : Type 0 where
  pub first : List (List ℕ)
  pub others : List (List ℕ)
  pub are : lines ≡ first ++ others
  pub last : Option Service
  pub runs : Runs first None last text

-- a script was read so far, and what was written is a beginning of the answers to the lines that ended in that; once the script is at
-- its end, of its output
pub record BeginsOutput (input left output grown : Option (List ℕ)) : Type 0 where
  pub read : List ℕ
  pub text : List ℕ
  pub unwritten : List ℕ
  pub consumes : Consumes input left read
  pub appends : Appends output grown text
  pub due : BeginsRun (ended [] read) (text ++ unwritten) ⊎ (IsAtEnd left × IsOutput read (text ++ unwritten))
