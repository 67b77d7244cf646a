use Rattle.std.proofs.lemmas.Simd.{map-map}
use Rattle.controller.proofs.Delivering.{delivered_all, told_all_ok}
use Rattle.controller.proofs.told.tell_parties.Goals as goal

pub unwrap-requires : goal.unwrap-requires
unwrap-requires g c = told_all_ok _ c.args.parties.now.items _ _ _ _ c.tell_each.result (rw (c.deref.ensures.0, c.legs_of.ensures) at c.tell_each.ensures.each) c.requires.roomy c.requires.legs

pub returns-clause-delivered : goal.returns-clause-delivered
returns-clause-delivered g c = delivered_all c.args.parties.now.items (rw (c.unwrap.ensures, c.deref.ensures.0, c.legs_of.ensures) at c.tell_each.ensures.each)

pub returns-clause-order : goal.returns-clause-order
returns-clause-order g c = rw (c.unwrap.ensures, c.deref.ensures.0, c.legs_of.ensures, map-map) at c.tell_each.ensures.order
