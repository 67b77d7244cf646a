-- The text of a request, and of a fault with its reply. Assumes nothing.
use Rattle.std.specs.Prelude.{ℕ, List, [], ◌++◌, Some, None, codes, decimal, Option}
use Rattle.components.specs.Message.{reply_octets}
use Rattle.components.specs.Wording.{fault_text, pairs}
use Rattle.components.specs.declared.fault.Fault.{Fault}
use Rattle.facility.specs.declared.request.Request.{Request}
use Rattle.facility.specs.declared.request.Request.TheVariants.{Begin, Add, Split, Drop, Isolate, Reattach}

abbrev pub begin_text : Option ℕ → List ℕ
begin_text None = codes "begin"
begin_text (Some size) = codes "begin size " ++ decimal size

abbrev pub request_text : Request → List ℕ
request_text (Begin size) = begin_text size
request_text (Add conference) = codes "add conference " ++ decimal conference
request_text (Split conference party) =
    codes "split conference " ++ (decimal conference ++ (codes " party " ++ decimal party))
request_text (Drop party) = codes "drop party " ++ decimal party
request_text (Isolate party) = codes "isolate party " ++ decimal party
request_text (Reattach party) = codes "reattach party " ++ decimal party

-- the octets of a reply, if there is one
abbrev pub reply_text : Option (List ℕ) → List ℕ
reply_text None = []
reply_text (Some octets) = codes " reply" ++ pairs octets

-- a fault and its reply
abbrev pub replied_text : Fault → List ℕ
replied_text f = fault_text f ++ reply_text (reply_octets f.cause)
