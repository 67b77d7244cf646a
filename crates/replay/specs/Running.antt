-- What is written where an input is replayed. Assumes nothing.
use Rattle.std.specs.Prelude.{◌≡◌, ℕ, ◌≤◌, ◌⊎◌, Bool, List, [], ◌++◌, length, take, is_ok, Some, None, Option, codes}
use Rattle.std.specs.Io.KnownBytes.{Appends}
use Rattle.components.specs.Wording.{fault_text}
use Rattle.components.specs.declared.fault.Fault.{Fault}
use Rattle.tables.specs.declared.level.Level.{Level}
use Rattle.reel.specs.Checking.{checked}
use Rattle.replay.specs.Text.{blamed_in, replay_text}

-- what is told of the fault of an element
abbrev pub fault_line : Option Fault → List ℕ
fault_line None = []
fault_line (Some fault) = codes "replay: " ++ (fault_text fault ++ codes "\n")

-- the whole input was replayed: just its text was written, just the fault that checking it finds was told, and it was answered
-- whether it is a reel
pub record Replays (level : Level) (octets : List ℕ) (is_reel : Bool)
    (output grown faults told : Option (List ℕ)) : Type 0 where
  pub text : Appends output grown (replay_text level octets)
  pub fault : Appends faults told (fault_line (blamed_in (checked octets)))
  pub reel : is_reel ≡ is_ok (checked octets)

-- a beginning of a text was written, and a beginning of a line was told, of which nothing is told before the text is whole
pub record BeginsTelling (text line : List ℕ) (output grown faults told : Option (List ℕ)) : Type 0 where
  pub written : ℕ
  pub said : ℕ
  pub appends : Appends output grown (take written text)
  pub tells : Appends faults told (take said line)
  pub order : (said ≡ 0) ⊎ (length text ≤ written)

-- the same of what is due to an input
abbrev pub BeginsReplay : Level → List ℕ → (output grown faults told : Option (List ℕ)) → Type 0
BeginsReplay level octets output grown faults told =
    BeginsTelling (replay_text level octets) (fault_line (blamed_in (checked octets))) output grown faults told
