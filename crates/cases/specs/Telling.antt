-- What is told is what waits. Assumes nothing.
use Rattle.std.specs.Prelude.{◌≡◌, ℕ, List, [], ◌∷◌, pos, negsuc, Some, None, Option}
use Rattle.line.specs.declared.notice.Notice.{Notice}
use Rattle.line.specs.declared.notice.Notice.TheVariants.{Established, OtherAdded, OtherDisconnected}
use Rattle.line.specs.declared.standing.OwnNotice.TheVariants as latest
use Rattle.line.specs.Acts.{notices_to, heard}
use Rattle.line.specs.Order.{Telling}
use Rattle.line.specs.Meaning.{Leg}
use Rattle.line.specs.Notices.{fresh}
use Rattle.line.specs.Outboxes.{notify}

-- the notice for the leg waits first; nothing waits for what is no leg
abbrev pub FirstWaits : ℕ → Notice → Option (List ℕ) → Type 0
FirstWaits leg notice None = Leg leg → ⊥
FirstWaits leg notice (Some octets) = Leg leg × (octets ≡ notify leg notice)

-- legs 1 and 2 join a conference in turn; then leg 1 clears
abbrev pub clearing : List Telling
clearing = (1, Established) ∷ (2, Established) ∷ (1, OtherAdded) ∷ (2, OtherDisconnected) ∷ []

-- leg 2 then has a sum of -1, leg 1 of 1, and another leg has heard nothing
pub record OneClears : Type 0 where
  pub first : heard (notices_to 1 clearing) fresh ≡ record { latest = Some latest.Established; heard = pos 1 }
  pub second : heard (notices_to 2 clearing) fresh ≡ record { latest = Some latest.Established; heard = negsuc 0 }
  pub third : heard (notices_to 3 clearing) fresh ≡ fresh
