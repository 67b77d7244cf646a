-- Writing the element of a request. Assumes nothing.
use Rattle.std.specs.Prelude.{◌≡◌, ℕ, ◌<◌, List, ◌++◌, length, drop, Ok, Err, Result}
use Rattle.components.specs.declared.write.Refusal.{Refusal}
use Rattle.components.specs.declared.write.Refusal.TheVariants.{Unreadable, ShortMemory}
use Rattle.facility.specs.declared.request.RequestInvoke.{RequestInvoke}
use Rattle.facility.specs.Requests.{request_octets, Lawful}

-- what writing octets answers, and what it leaves in the memory: the octets in front, and behind them what was there; or nothing is
-- written, where they are not lawful, and then for memory that is too short
abbrev pub Puts : Type 0 → List ℕ → List ℕ → List ℕ → Result ℕ Refusal → Type 0
Puts lawful octets before after (Ok n) = lawful × (n ≡ length octets) × (after ≡ octets ++ drop n before)
Puts lawful octets before after (Err Unreadable) = (lawful → ⊥) × (after ≡ before)
Puts lawful octets before after (Err ShortMemory) = lawful × (length before < length octets) × (after ≡ before)

-- a request is written as its element, if its numbers are in range
abbrev pub Wrote : RequestInvoke → List ℕ → List ℕ → Result ℕ Refusal → Type 0
Wrote a before after r = Puts (Lawful a) (request_octets a) before after r
