-- One BER value: a tag octet, a length octet from 0 to 127, and as many octets of contents. Assumes nothing.
use Rattle.std.specs.Prelude.{ℕ, ◌+◌, Bool, not, ◌&&◌, List, ◌∷◌, length, take, drop, ◌==◌, bit_and, nat_le, slice_index}

-- five low tag bits all one would announce a longer tag, which is not used here
abbrev pub is_short_tag : ℕ → Bool
is_short_tag tag = not (bit_and tag 0x1f == 0x1f)

-- the contents of a constructed value are values again
abbrev pub is_constructed : ℕ → Bool
is_constructed tag = not (bit_and tag 0x20 == 0)

-- the tag of the value at the front
abbrev pub tag : List ℕ → ℕ
tag xs = slice_index xs 0

-- how many octets the value at the front takes
abbrev pub size : List ℕ → ℕ
size xs = 2 + slice_index xs 1

-- the octets begin with a value, and hold it whole
abbrev pub begins_with_value : List ℕ → Bool
begins_with_value xs = nat_le 2 (length xs) && (is_short_tag (tag xs) && (nat_le (slice_index xs 1) 127 && nat_le (size xs) (length xs)))

-- the value at the front, and the octets after it
abbrev pub front : List ℕ → List ℕ
front xs = take (size xs) xs

abbrev pub behind : List ℕ → List ℕ
behind xs = drop (size xs) xs

-- what the value at the front contains
abbrev pub contents : List ℕ → List ℕ
contents xs = drop 2 (front xs)

-- the octets are one value, whole, with the tag t
abbrev pub is_tagged : ℕ → List ℕ → Bool
is_tagged t xs = tag xs == t && size xs == length xs

-- the value with the tag t and these contents
abbrev pub tagged : ℕ → List ℕ → List ℕ
tagged t xs = t ∷ length xs ∷ xs
