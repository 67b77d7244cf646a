-- The number of each operation, and which of them requests invoke. Assumes nothing.
use Rattle.std.specs.Prelude.{ℕ, List, [], ◌∷◌}
use Rattle.facility.specs.declared.operation.Operation.{Operation}
use Rattle.facility.specs.declared.operation.Operation.TheVariants.{Begin, Add, Split, Drop, Isolate, Reattach, PartyDisc}

abbrev pub operation_number : Operation → ℕ
operation_number Begin = 40
operation_number Add = 41
operation_number Split = 42
operation_number Drop = 43
operation_number Isolate = 44
operation_number Reattach = 45
operation_number PartyDisc = 46

-- all but PartyDISC, which goes to the served user
abbrev pub requested_operations : List Operation
requested_operations = Begin ∷ Add ∷ Split ∷ Drop ∷ Isolate ∷ Reattach ∷ []
