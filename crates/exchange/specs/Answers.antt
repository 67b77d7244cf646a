-- The text of the answers. Assumes nothing.
use Rattle.std.specs.Prelude.{ℕ, List, [], ◌++◌, drop, length, Some, None, Option, codes, decimal, slice_index}
use Rattle.std.specs.List.{flat_map}
use Rattle.components.specs.Wording.{pairs}
use Rattle.facility.specs.Wording.{replied_text}
use Rattle.tables.specs.Refusals.{refusal_number, level_refusal_number}
use Rattle.controller.specs.Discs.{disc_octets}
use Rattle.controller.specs.declared.disc.Disc.{Disc}
use Rattle.operator.specs.Answers.{in_octets}
use Rattle.operator.specs.Turns.{Answer, refused, done, replied}
use Rattle.exchange.specs.declared.answer.Reply.{Reply}
use Rattle.exchange.specs.declared.answer.Reply.TheVariants.{Answered, Faulty, LevelRefused, NoLevel, NotUnderstood}

-- the PartyDISC that a step sends, if any: to which reference, and its octets
abbrev pub disc_text : Option Disc → List ℕ
disc_text None = []
disc_text (Some d) = codes " to " ++ (decimal d.link ++ pairs (disc_octets d))

-- the number of a refusal; the legs gone and what is sent; or the legs gone and the message that answers
abbrev pub answer_text : Answer → List ℕ
answer_text (refused why) = codes "refused " ++ decimal (refusal_number why)
answer_text (done gone disc) = codes "gone " ++ (decimal gone ++ disc_text disc)
answer_text (replied body gone) = codes "gone " ++ (decimal gone ++ (codes " reply" ++ pairs body))

abbrev pub reply_text : Reply → List ℕ
reply_text (Answered a) = answer_text (in_octets a)
reply_text (Faulty f) = replied_text f
reply_text (LevelRefused why) = codes "level refused " ++ decimal (level_refusal_number why)
reply_text NoLevel = codes "no level"
reply_text NotUnderstood = codes "not understood"

-- a message that waited: its leg, and the four octets behind it
abbrev pub notify_text : List ℕ → List ℕ
notify_text message = codes "notify " ++ (decimal (slice_index message 0) ++ (pairs (drop 1 message) ++ codes "\n"))

-- a collection: the messages that waited, the oldest first, and how many
abbrev pub collected_text : List (List ℕ) → List ℕ
collected_text messages = flat_map notify_text messages ++ (codes "collected " ++ decimal (length messages))
