-- Which octets a line of hex pairs spells. Assumes nothing.
use Rattle.std.specs.Prelude.{◌≡◌, ℕ, ◌+◌, ◌-◌, ◌*◌, Bool, cond, ◌&&◌, ◌||◌, List, [], ◌∷◌, Some, None, Ok, Err, Option, Result, ◌==◌, nat_le}
use Rattle.lines.specs.declared.hex.HexError.{HexError}
use Rattle.lines.specs.declared.hex.HexError.TheVariants.{NotOctets, OutOfMemory}

-- space, tab and carriage return
abbrev pub is_white : ℕ → Bool
is_white b = b == 32 || (b == 9 || b == 13)

abbrev pub within : ℕ → ℕ → ℕ → Bool
within low high b = nat_le low b && nat_le b high

-- the value of a hex digit: 0 to 9, A to F, a to f
abbrev pub hex_value : ℕ → Option ℕ
hex_value b =
    cond (within 48 57 b) (Some (b - 48)) (cond (within 65 70 b) (Some (b - 55)) (cond (within 97 102 b) (Some (b - 87)) None))

abbrev pub octet : Option ℕ → Option ℕ → Option ℕ
octet (Some high) (Some low) = Some (16 * high + low)
octet (Some high) None = None
octet None low = None

abbrev pub pair_value : ℕ → ℕ → Option ℕ
pair_value a b = octet (hex_value a) (hex_value b)

-- one octet before others, where both are spelled
abbrev pub before : Option ℕ → Option (List ℕ) → Option (List ℕ)
before (Some o) (Some os) = Some (o ∷ os)
before (Some o) None = None
before None os = None

-- the octets of a line: white space is passed over, and any other byte begins a pair
abbrev pub spelled : List ℕ → Option (List ℕ)
spelled [] = Some []
spelled (a ∷ []) = cond (is_white a) (Some []) None
spelled (a ∷ b ∷ bs) = cond (is_white a) (spelled (b ∷ bs)) (before (pair_value a b) (spelled bs))

-- what a reading says of a line that spells `s`, with the octets `os` in its memory; where memory ran out, nothing
abbrev pub Reads : Option (List ℕ) → Result (Unit {0}) HexError → List ℕ → Type 0
Reads s (Ok done) os = s ≡ Some os
Reads s (Err NotOctets) os = s ≡ None
Reads s (Err OutOfMemory) os = Unit {0}
