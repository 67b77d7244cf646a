-- What a component says, apart from where its octets lie in memory. Assumes nothing.
use Rattle.std.specs.Prelude.{ℤ, Option}
use Rattle.std.specs.Option.{option_map}
use Rattle.components.specs.declared.component.Parameter.{Parameter}
use Rattle.components.specs.declared.component.Answer.{Answer}
use Rattle.components.specs.declared.component.Problem.{Problem}
use Rattle.components.specs.declared.component.Component.{Component}
use Rattle.components.specs.declared.component.Component.TheVariants as component
use Rattle.ber.specs.Structure.{Part}

-- a component by what it says: an invoke with its argument, a result with the operation and the value it answers,
-- an error with its parameter, a reject with an id or NULL
pub data Said : Type 0 where
  invoke : (id operation : ℤ) (argument : Option Part) → Said
  result : (id : ℤ) (answer : Option (ℤ × Part)) → Said
  error : (id error : ℤ) (parameter : Option Part) → Said
  reject : (id : Option ℤ) (problem : Problem) → Said

abbrev pub part : Parameter → Part
part p = record { octets = p.octets.now; place = p.place }

abbrev pub answered : Answer → ℤ × Part
answered a = (a.operation, part a.parameter)

abbrev pub said : Component → Said
said (component.Invoke id operation argument) = invoke id operation (option_map part argument)
said (component.ReturnResult id answer) = result id (option_map answered answer)
said (component.ReturnError id code parameter) = error id code (option_map part parameter)
said (component.Reject id problem) = reject id problem
