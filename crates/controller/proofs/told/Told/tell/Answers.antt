use Rattle.controller.proofs.Delivering.{hearers_legs}
use Rattle.controller.proofs.told.Told.tell.Goals as goal

pub tell_parties-requires-clause-legs : goal.tell_parties-requires-clause-legs
tell_parties-requires-clause-legs g c = hearers_legs _ _ _ c.requires.legs
