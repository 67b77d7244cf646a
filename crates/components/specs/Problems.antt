-- The number of each problem that a reject of the exchange names. Assumes nothing.
use Rattle.std.specs.Prelude.{ℕ}
use Rattle.components.specs.declared.problem.GeneralProblem.{GeneralProblem}
use Rattle.components.specs.declared.problem.GeneralProblem.TheVariants.{UnrecognizedComponent, MistypedComponent, BadlyStructuredComponent}
use Rattle.components.specs.declared.problem.InvokeProblem.{InvokeProblem}
use Rattle.components.specs.declared.problem.InvokeProblem.TheVariants.{UnrecognizedOperation, MistypedArgument, ResourceLimitation}

abbrev pub general_number : GeneralProblem → ℕ
general_number UnrecognizedComponent = 0
general_number MistypedComponent = 1
general_number BadlyStructuredComponent = 2

abbrev pub invoke_number : InvokeProblem → ℕ
invoke_number UnrecognizedOperation = 1
invoke_number MistypedArgument = 2
invoke_number ResourceLimitation = 3
