-- Conferences worked out by the rules, step after step. Assumes nothing.
use Rattle.std.specs.Prelude.{ℕ, true, List, [], ◌∷◌, ◌++◌, pos, fold, Some}
use Rattle.facility.specs.declared.request.Request.TheVariants as request
use Rattle.facility.specs.declared.request.RequestInvoke.{RequestInvoke}
use Rattle.line.specs.declared.notice.Notice.{Notice}
use Rattle.tables.specs.declared.level.Level.{Level}
use Rattle.tables.specs.Table.{Table}
use Rattle.controller.specs.declared.carrier.Carrier.TheVariants.{Facility}
use Rattle.controller.specs.declared.report.Report.TheVariants as report
use Rattle.operator.specs.declared.steps.Step.{Step}
use Rattle.operator.specs.declared.steps.Step.TheVariants as step
use Rattle.operator.specs.Turns.{Answer, turn, new_table}

-- the tables, and what was told, after some steps at a level, on a line with room
abbrev pub after : Level → List Step → Table × List (ℕ × Notice)
after level steps =
    fold (λ p s. let x = turn level 64 s p.0 in (x.effect.table, p.1 ++ x.effect.told)) (new_table, []) steps

-- what a step is answered then
abbrev pub answer_after : Level → List Step → Step → Answer
answer_after level steps s = (turn level 64 s (after level steps).0).answer

-- an invoke with id 7
abbrev pub asking : request.the_data → RequestInvoke
asking q = record { id = pos 7; request = q }

-- a request with id 7, by FACILITY
abbrev pub facility : ℕ → request.the_data → Step
facility r q = step.Settled (Facility r) (asking q)

-- a leg answers on a reference
abbrev pub call : ℕ → ℕ → List Step
call r leg = step.Reported (report.Calling r) ∷ step.Reported (report.Answer r leg true) ∷ []

-- a conference begun on reference 1 with leg 1, of so many parties
abbrev pub begun : ℕ → List Step
begun size = call 1 1 ++ (facility 1 (request.Begin (Some size)) ∷ [])

-- legs 1 and 2 in it, each joined in its turn
abbrev pub joined : List Step
joined = begun 3 ++ (call 2 2 ++ (facility 2 (request.Add 0) ∷ []))
