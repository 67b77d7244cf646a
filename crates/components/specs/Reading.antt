-- Reading an element: lower causes go first, over the whole element. Assumes nothing.
use Rattle.std.specs.Prelude.{ℕ, ◌+◌, Bool, cond, not, ◌&&◌, ◌||◌, List, length, drop, Some, None, Ok, Err, Option, Result, ◌==◌, nat_le, nat_lt, slice_index}
use Rattle.components.specs.declared.component.Component.{Component}
use Rattle.components.specs.declared.kind.Kind.{Kind}
use Rattle.components.specs.declared.kind.Kind.TheVariants as kind
use Rattle.components.specs.declared.fault.Cause.TheVariants.{Count, Identifier, Length, Profile, Tag, Structure}
use Rattle.components.specs.declared.fault.Fault.{Fault}
use Rattle.components.specs.Component.{Said, said}
use Rattle.components.specs.Faults.{at}
use Rattle.ber.specs.Structure.{Part, or_else, bad_value, values}
use Rattle.components.specs.Typed.{an_invoke, a_result, an_error, a_reject}
use Rattle.ber.specs.Value.{tag, size}

-- the first fault of the component, which stands at place 3 and is the first of eight levels; or the first octet behind it
abbrev pub bad_component : List ℕ → Option ℕ
bad_component xs = or_else (bad_value 8 3 xs) (cond (size xs == length xs) None (Some (3 + size xs)))

-- the tag of each kind of component
abbrev pub kind_tag : Kind → ℕ
kind_tag kind.Invoke = 0xa1
kind_tag kind.ReturnResult = 0xa2
kind_tag kind.ReturnError = 0xa3
kind_tag kind.Reject = 0xa4

-- that of a return result
abbrev pub result_tag : ℕ
result_tag = kind_tag kind.ReturnResult

-- one of them, which are one behind the other
abbrev pub is_component_tag : ℕ → Bool
is_component_tag t = nat_le (kind_tag kind.Invoke) t && nat_le t (kind_tag kind.Reject)

-- the component by its tag and its values
abbrev pub by_tag : ℕ → ℕ → List Part → Result Said Fault
by_tag t end vs =
    cond (t == kind_tag kind.Invoke) (an_invoke end vs)
    (cond (t == kind_tag kind.ReturnResult) (a_result end vs)
    (cond (t == kind_tag kind.ReturnError) (an_error end vs)
    (a_reject end vs)))

-- the values of a component are read only where all are well structured
abbrev pub structured : Option ℕ → Result Said Fault → Result Said Fault
structured (Some place) typed = Err (at Structure place)
structured None typed = typed

-- the octets behind the head
unfoldable pub reading_component : List ℕ → Result Said Fault
reading_component xs =
    cond (is_component_tag (tag xs))
    (structured (bad_component xs) (by_tag (tag xs) (3 + length xs) (values 5 (drop 2 xs))))
    (Err (at Tag 3))

-- the fault of the head: from 3 to 132 octets, 1C, the number of octets after it, 91
abbrev pub head_at_fault : ℕ → ℕ → ℕ → ℕ → Option Fault
head_at_fault count identifier length' profile =
    cond (nat_lt count 3 || nat_lt 132 count) (Some (at Count count))
    (cond (not (identifier == 0x1c)) (Some (at Identifier 0))
    (cond (not (length' + 2 == count)) (Some (at Length 1))
    (cond (not (profile == 0x91)) (Some (at Profile 2))
    None)))

abbrev pub head_fault : List ℕ → Option Fault
head_fault xs = head_at_fault (length xs) (slice_index xs 0) (slice_index xs 1) (slice_index xs 2)

abbrev pub unless : Option Fault → Result Said Fault → Result Said Fault
unless (Some fault) read = Err fault
unless None read = read

-- an element: a head, and a component behind it
unfoldable pub reading : List ℕ → Result Said Fault
reading xs = unless (head_fault xs) (reading_component (drop 3 xs))

-- what was read, by what it says
abbrev pub read_as : Result Component Fault → Result Said Fault
read_as (Ok c) = Ok (said c)
read_as (Err f) = Err f
