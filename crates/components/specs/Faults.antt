-- Faults: the number and the layer of each cause. Assumes nothing.
use Rattle.std.specs.Prelude.{ℕ}
use Rattle.components.specs.declared.fault.Cause.{Cause}
use Rattle.components.specs.declared.fault.Cause.TheVariants.{Count, Identifier, Length, Profile, Tag, Structure, Mistyped, NoInvoke, Operation, Argument}
use Rattle.components.specs.declared.fault.Fault.{Fault}
use Rattle.components.specs.declared.fault.Layer.{Layer}
use Rattle.components.specs.declared.fault.Layer.TheVariants as layer

abbrev pub at : Cause → ℕ → Fault
at c p = record { cause = c; place = p }

abbrev pub cause_number : Cause → ℕ
cause_number Count = 11
cause_number Identifier = 12
cause_number Length = 13
cause_number Profile = 14
cause_number Tag = 15
cause_number Structure = 16
cause_number Mistyped = 17
cause_number NoInvoke = 18
cause_number (Operation id) = 18
cause_number (Argument id) = 19

abbrev pub layer_of : Cause → Layer
layer_of Count = layer.Element
layer_of Identifier = layer.Element
layer_of Length = layer.Element
layer_of Profile = layer.Element
layer_of Tag = layer.Component
layer_of Structure = layer.Component
layer_of Mistyped = layer.Component
layer_of NoInvoke = layer.Argument
layer_of (Operation id) = layer.Argument
layer_of (Argument id) = layer.Argument
