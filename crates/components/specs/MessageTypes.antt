-- The octet that stands for each type of message to the served user. Assumes nothing.
use Rattle.std.specs.Prelude.{ℕ}
use Rattle.components.specs.declared.message.types.MessageType.{MessageType}
use Rattle.components.specs.declared.message.types.MessageType.TheVariants.{Connect, Disconnect, ReleaseComplete, Facility}

abbrev pub type_octet : MessageType → ℕ
type_octet Connect = 0x07
type_octet Disconnect = 0x45
type_octet ReleaseComplete = 0x5a
type_octet Facility = 0x62
