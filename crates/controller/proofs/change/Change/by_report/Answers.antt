use Rattle.controller.proofs.change.Change.by_report.Goals as goal

pub returns-in-Answer : goal.returns-in-Answer
returns-in-Answer c = rw c.in-Answer.is (c.answered.ensures c.args.room)

pub returns-in-Disconnect : goal.returns-in-Disconnect
returns-in-Disconnect c = rw c.in-Disconnect.is (c.disconnected.ensures c.args.room)

pub returns-in-Released : goal.returns-in-Released
returns-in-Released c = rw c.in-Released.is (c.released.ensures c.args.room)
