use Rattle.controller.proofs.Bodies.{reply_few}
use Rattle.controller.proofs.replying.reply.Goals as goal

pub compose-requires-clause-few : goal.compose-requires-clause-few
compose-requires-clause-few c = rw (c.component.ensures, c.head-head.ensures) (reply_few c.args.carrier _ c.args.tables.now c.args.verdict)
