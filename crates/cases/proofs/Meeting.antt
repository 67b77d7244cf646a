-- A history worked out: two remote users meet in a conference, one is isolated and split off again, and the other is dropped.
use Rattle.std.proofs.Common.{◌≡◌, ℕ, pos, true, false, List, [], ◌∷◌, ◌++◌, None, refl, fold, arith}
use Rattle.facility.specs.declared.request.Request.TheVariants as request
use Rattle.line.specs.declared.notice.Notice.{Notice}
use Rattle.line.specs.declared.notice.Notice.TheVariants.{Established, OtherAdded, Isolated, OtherIsolated}
use Rattle.tables.specs.declared.level.Level.{Level}
use Rattle.tables.specs.Table.{Table}
use Rattle.controller.specs.declared.carrier.Carrier.TheVariants.{Facility, Setup}
use Rattle.controller.specs.declared.report.Report.TheVariants as report
use Rattle.operator.specs.declared.steps.Step.{Step}
use Rattle.operator.specs.declared.steps.Step.TheVariants as step
use Rattle.operator.specs.Roster.{down, on, party, Roster, empty, written, count}
use Rattle.operator.specs.Turns.{turn, new_table}

-- up to eight conferences of up to thirty parties
level : Level
level = record { size = 30; conferences = 8; subscribed = true; active = true; lawful = record { some_parties = omega arith; most_parties = omega arith; some_conferences = omega arith; most_conferences = omega arith } }

-- the tables, the roster and what was told, after some steps on a line with room
after : List Step → Table × Roster × List (ℕ × Notice)
after steps = fold (λ p st. let x = turn level 64 st p.0 in (x.effect.table, written st x.answer p.1, p.2 ++ x.effect.told)) (new_table, empty, []) steps

-- leg 5 begins a conference on reference 1, leg 6 is added from reference 2 and isolated
meeting : List Step
meeting =
    step.Reported (report.Calling 1) ∷ step.Reported (report.Answer 1 5 true) ∷ step.Settled (Facility 1) (record { id = pos 1; request = request.Begin None })
    ∷ step.Reported (report.Calling 2) ∷ step.Reported (report.Answer 2 6 true) ∷ step.Settled (Facility 2) (record { id = pos 2; request = request.Add 0 })
    ∷ step.Settled (Facility 1) (record { id = pos 3; request = request.Isolate 1 }) ∷ []

-- leg 6 is split off to reference 3, and leg 5 dropped
parting : List Step
parting = meeting ++ (step.Settled (Setup 3 true) (record { id = pos 4; request = request.Split 0 1 }) ∷ step.Settled (Facility 1) (record { id = pos 5; request = request.Drop 0 }) ∷ [])

-- or the conference is released with its link
releasing : List Step
releasing = meeting ++ (step.Reported (report.Disconnect 1) ∷ step.Reported (report.Released 1) ∷ [])

-- both are parties, each with the others that it found, and the second is isolated
first_joined : (after meeting).1.legs 5 ≡ party 0 0 0 false
unfolding count after meeting level
first_joined = refl

second_joined : (after meeting).1.legs 6 ≡ party 0 1 1 true
unfolding count after meeting level
second_joined = refl

-- the first hears of the second
all_told : (after meeting).2 ≡ (5, Established) ∷ (6, Established) ∷ (5, OtherAdded) ∷ (6, Isolated) ∷ (5, OtherIsolated) ∷ []
unfolding count after meeting level
all_told = refl

-- then the second is on a call of its own, and the first is down
split_off : (after parting).1.legs 6 ≡ on 3
unfolding count after parting meeting level
split_off = refl

dropped : (after parting).1.legs 5 ≡ down
unfolding count after parting meeting level
dropped = refl

-- or both are gone with the conference
both_gone : (after releasing).1.gone ≡ 2
unfolding count after releasing meeting level
both_gone = refl
