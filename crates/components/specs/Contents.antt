-- What stands behind a component's tag and length, put together piece by piece. Assumes nothing.
use Rattle.std.specs.Prelude.{◌≡◌, ℕ, ◌+◌, ◌<◌, List, ◌++◌, length, Result, MatchResult}
use Rattle.components.specs.declared.write.Contents.{Contents}
use Rattle.components.specs.declared.write.Refusal.{Refusal}
use Rattle.components.specs.declared.write.Refusal.TheVariants.{Unreadable}

-- a piece is put behind what is there, where it is allowed; refused where it is not, or where there would be more than 127 octets
abbrev pub AppendsIf : Type 0 → List ℕ → Contents → Contents → Result (Unit {0}) Refusal → Type 0
AppendsIf allowed piece before after r = MatchResult r
    (λ _. allowed × (after.octets.items ≡ before.octets.items ++ piece))
    (λ e. (allowed → 127 < length before.octets.items + length piece) × (e ≡ Unreadable))

-- any piece is allowed
abbrev pub Appends : List ℕ → Contents → Contents → Result (Unit {0}) Refusal → Type 0
Appends = AppendsIf (Unit {0})
