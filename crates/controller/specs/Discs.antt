-- The message of a PartyDISC. Assumes nothing.
use Rattle.std.specs.Prelude.{ℕ, List, ◌++◌, pos, Some}
use Rattle.ber.specs.Integer.{integer_octets}
use Rattle.components.specs.Component.{invoke}
use Rattle.components.specs.Writing.{encoded}
use Rattle.facility.specs.declared.operation.Operation.TheVariants.{PartyDisc}
use Rattle.facility.specs.Operations.{operation_number}
use Rattle.controller.specs.declared.disc.Disc.{Disc}
use Rattle.controller.specs.Replies.{facility, value}

-- FACILITY with an invoke of PartyDISC, which has the PartyId as its argument
abbrev pub disc_octets : Disc → List ℕ
disc_octets d = facility ++ encoded (invoke (pos d.id) (pos (operation_number PartyDisc)) (Some (value (integer_octets (pos d.party)))))
