-- The answers that are given, with their messages in octets. Assumes nothing.
use Rattle.components.specs.Message.{message_octets}
use Rattle.operator.specs.declared.answer.Answer.{Answer as Given}
use Rattle.operator.specs.declared.answer.Answer.TheVariants.{Refused, Done, Replied}
use Rattle.operator.specs.Turns.{Answer, refused, done, replied}

-- an answer, with its message as octets
abbrev pub in_octets : Given → Answer
in_octets (Refused why) = refused why
in_octets (Done gone disc) = done gone disc
in_octets (Replied message gone) = replied (message_octets message) gone
