-- An outbox: the messages that wait in it, its standings and its room. Assumes nothing.
use Rattle.std.specs.Prelude.{◌≡◌, ℕ, ◌-◌, ◌<◌, ◌≤◌, List, [], ◌∷◌, ◌++◌, length, map, Some, None, Option, slice_index_or}
use Rattle.line.specs.declared.notice.Notice.{Notice}
use Rattle.line.specs.declared.outbox.Outbox.{Outbox}
use Rattle.line.specs.declared.outbox.queue.Waiting.{Waiting}
use Rattle.line.specs.declared.standing.Standing.{Standing}
use Rattle.line.specs.Boards.{board_standing}
use Rattle.line.specs.Meaning.{Same}
use Rattle.line.specs.Order.{Telling}
use Rattle.line.specs.Notices.{code_of}

-- the message type NOTIFY, and the Notification indicator, an information element of one octet
abbrev pub notify_type : ℕ
notify_type = 0x6e

abbrev pub notification_indicator : ℕ
notification_indicator = 0x27

-- the five octets of a message: the leg, NOTIFY, the Notification indicator with its length, the code
abbrev pub notify : ℕ → Notice → List ℕ
notify leg notice = leg ∷ notify_type ∷ notification_indicator ∷ 1 ∷ code_of notice ∷ []

-- the messages of what is told, in its order
abbrev pub messages : List Telling → List (List ℕ)
messages told = map (λ telling. notify telling.0 telling.1) told

-- the messages that wait, the oldest first
abbrev pub waiting : Outbox → List (List ℕ)
waiting o = o.messages.items

abbrev pub outbox_standing : Outbox → ℕ → Standing
outbox_standing o k = board_standing o.board k

-- there is room for 128 messages in all
abbrev pub outbox_room : Outbox → ℕ
outbox_room o = 128 - length (waiting o)

-- a telling has its message wait behind the others, and a collection leaves none: then every standing stays
abbrev pub OutboxTells : Outbox → ℕ → Notice → Outbox → Type 0
OutboxTells o leg notice o' = waiting o' ≡ waiting o ++ (notify leg notice ∷ [])

pub record OutboxCollects (o o' : Outbox) : Type 0 where
  pub handed_over : waiting o' ≡ []
  pub kept : Same (outbox_standing o) (outbox_standing o')

-- the message at a place, with that place; none past the last
abbrev pub HandsOut : Outbox → ℕ → Option Waiting → Type 0
HandsOut o place None = length (waiting o) ≤ place
HandsOut o place (Some w) = (place < length (waiting o)) × (w.place ≡ place) × (w.octets.now ≡ slice_index_or (waiting o) place [])
