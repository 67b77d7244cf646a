-- The lines that account for an element: what it says, or its fault. Assumes nothing.
use Rattle.std.specs.Prelude.{ℕ, List, [], ◌++◌, Ok, Err, codes, Result}
use Rattle.components.specs.Component.{Said, invoke, result, error, reject}
use Rattle.components.specs.Reading.{reading}
use Rattle.components.specs.Wording.{component_text}
use Rattle.components.specs.declared.fault.Fault.{Fault}
use Rattle.facility.specs.Requests.{requesting}
use Rattle.facility.specs.Wording.{replied_text, request_text}
use Rattle.facility.specs.declared.request.RequestInvoke.{RequestInvoke}

-- a request, or why there is none
abbrev pub request_account : Result RequestInvoke Fault → List ℕ
request_account (Ok r) = request_text r.request
request_account (Err f) = replied_text f

-- the request that an invoke makes, or its fault, on a line of its own
abbrev pub invoked : List ℕ → List ℕ
invoked xs = codes "\n  " ++ request_account (requesting xs)

-- what stands under a component: for an invoke its request, and else nothing
abbrev pub under : Said → List ℕ → List ℕ
under (invoke id operation argument) xs = invoked xs
under (result id answer) xs = []
under (error id code parameter) xs = []
under (reject id problem) xs = []

-- the component that was read from the octets, and what stands under it, or the fault
abbrev pub reading_account : Result Said Fault → List ℕ → List ℕ
reading_account (Ok s) xs = component_text s ++ under s xs
reading_account (Err f) xs = replied_text f

abbrev pub account : List ℕ → List ℕ
account xs = reading_account (reading xs) xs ++ codes "\n"
