-- INTEGERs read back as they were written, and write back as they were read. Assumes nothing.
use Rattle.std.proofs.Common.{◌≡◌, ℕ, ◌+◌, ◌*◌, ◌/◌, ◌%◌, ◌<◌, true, false, cond, List, [], ◌∷◌, drop, ℤ, Some, arith, w8, w16, SFits, to_z, of_z}
use Rattle.std.specs.List.{AllByRecursion as All}
use Rattle.std.proofs.lemmas.Nat.{div-add-mod', div-mul-add, mod-mul-add}
use Rattle.std.proofs.ByRecursion.{All-drop}
use Rattle.std.proofs.lemmas.Int.{ints, to_z-of_z, of_z-to_z}
use Rattle.std.proofs.lemmas.Bool.Decides.{nat_tests}
use Rattle.ber.specs.Integer.{is_short, integer_octets, number, long_only, as_integer}
use Rattle.ber.specs.Value.{is_tagged, tagged}

-- a number of one octet is short
short_octet : (a : ℕ) → a < 256 → is_short (to_z w8 a) ≡ true
short_octet a h = grind (arith, ints, nat_tests)

-- a short number reads back from its one octet
one_octet : (z : ℤ) → is_short z ≡ true → to_z w8 (of_z w8 z) ≡ z
one_octet z short = to_z-of_z w8 z (record { sfits = grind (arith, ints, nat_tests) })

-- and any other from its two
two_octets : (z : ℤ) → SFits w16 z → is_short z ≡ false → long_only (to_z w16 (of_z w16 z / 256 * 256 + of_z w16 z % 256)) ≡ Some z
two_octets z fits long = grind (arith, div-add-mod' (of_z w16 z) 256, to_z-of_z w16 z fits)

-- an INTEGER that is written reads back
pub integer_reads : (z : ℤ) → SFits w16 z → as_integer (integer_octets z) ≡ Some z
integer_reads z fits = grind (arith, one_octet z, two_octets z fits)

-- the contents of an INTEGER that was read, written again
contents_write : (xs : List ℕ) (z : ℤ) → All (λ x. x < 256) xs → number xs ≡ Some z → cond (is_short z) (of_z w8 z ∷ []) (of_z w16 z / 256 ∷ of_z w16 z % 256 ∷ []) ≡ xs
contents_write [] z all is = grind arith
contents_write (a ∷ []) z all is = grind (arith, short_octet a all.0, of_z-to_z w8 a all.0)
contents_write (a ∷ b ∷ []) z all is =
    let back = of_z-to_z w16 (a * 256 + b) (omega (arith, all.0, all.1.0)) in
    grind (arith, back, div-mul-add a 256 b all.1.0, mod-mul-add a 256 b all.1.0)
contents_write (a ∷ b ∷ c ∷ xs) z all is = grind arith

-- a value that is tagged is its tag, its length and its contents
pub tagged_is : (t : ℕ) (xs : List ℕ) → is_tagged t xs ≡ true → xs ≡ tagged t (drop 2 xs)
tagged_is t [] h = grind (arith, nat_tests)
tagged_is t (x ∷ []) h = grind (arith, nat_tests)
tagged_is t (x ∷ n ∷ xs) h = grind (arith, nat_tests)

-- an INTEGER that was read writes back
pub integer_writes : (xs : List ℕ) (z : ℤ) → All (λ x. x < 256) xs → as_integer xs ≡ Some z → integer_octets z ≡ xs
integer_writes xs z all is = grind (arith, tagged_is 2 xs, contents_write (drop 2 xs) z (All-drop _ 2 xs all))
