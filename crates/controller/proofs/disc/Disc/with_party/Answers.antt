use Rattle.std.proofs.Common.{pos}
use Rattle.controller.proofs.Bodies.{integer_one}
use Rattle.controller.proofs.disc.Disc.with_party.Goals as goal

pub compose-requires-clause-sound : goal.compose-requires-clause-sound
compose-requires-clause-sound c = rw c.requires (integer_one (pos c.args.self.now.party))
