use Rattle.lines.proofs.run.answer_next.Goals as goal

pub returns-in-Some-clause-next : goal.returns-in-Some-clause-next
returns-in-Some-clause-next g c =
    let (text, takes, grown) = c.in_ok-line.ensures in
    (_, text, rw c.in-Some.ensures.nothing c.in-Some.ensures.cut, c.in-Some.ensures.nothing, takes, grown)
