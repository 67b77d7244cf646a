-- INTEGER: one or two octets, two's complement, the fewest that hold the number. Assumes nothing.
use Rattle.std.specs.Prelude.{ℕ, ◌+◌, ◌*◌, ◌/◌, ◌%◌, Bool, cond, ◌&&◌, List, [], ◌∷◌, drop, ℤ, pos, negsuc, Some, None, Option, int_le}
use Rattle.std.specs.Int.{w8, w16}
use Rattle.std.proofs.Common.{to_z, of_z}
use Rattle.ber.specs.Value.{is_tagged, tagged}

-- one octet holds the number: it is from -128 to 127
abbrev pub is_short : ℤ → Bool
is_short z = int_le (negsuc 127) z && int_le z (pos 127)

-- the number in its fewest octets, as a value
abbrev pub integer_octets : ℤ → List ℕ
integer_octets z = tagged 2 (cond (is_short z) (of_z w8 z ∷ []) (of_z w16 z / 256 ∷ of_z w16 z % 256 ∷ []))

-- the number that needs two octets
abbrev pub long_only : ℤ → Option ℤ
long_only z = cond (is_short z) None (Some z)

-- the number that contents hold, if they are as few as can be
abbrev pub number : List ℕ → Option ℤ
number [] = None
number (a ∷ []) = Some (to_z w8 a)
number (a ∷ b ∷ []) = long_only (to_z w16 (a * 256 + b))
number (a ∷ b ∷ c ∷ xs) = None

-- the number that one value holds, if it is an INTEGER
abbrev pub as_integer : List ℕ → Option ℤ
as_integer xs = cond (is_tagged 2 xs) (number (drop 2 xs)) None
