-- The table of hex digits. Assumes nothing.
use Rattle.std.proofs.Common.{◌≡◌, ℕ, ◌<◌, ◌≤◌, nat_lt, cond, Some, None, Option, refl, sym, ap, ◌∙◌, map, arith}
use Rattle.std.proofs.Math.ListN.{get_or}
use Rattle.std.proofs.lemmas.List.{get_or-map}
use Rattle.std.proofs.lemmas.List.FromFn.{get_or-map-range_with_len}
use Rattle.std.specs.List.{range_with_len}
use Rattle.lines.specs.Spelling.{hex_value}
use Rattle.lines.specs.declared.hex.TheConstants.{VALUES}

-- the digit that an entry stands for
abbrev taken : ℕ → Option ℕ
taken v = cond (nat_lt v 16) (Some v) None

below : (v : ℕ) (o : Option ℕ) → taken v ≡ o → v < 16 → Some v ≡ o
below v o is small = grind arith

above : (v : ℕ) (o : Option ℕ) → taken v ≡ o → 16 ≤ v → None ≡ o
above v o is large = grind arith

-- the entries are the values of all bytes
whole : map taken VALUES ≡ map hex_value (range_with_len 0 256)
whole = refl

at_byte : (i b : ℕ) → i ≡ b → b < 256 → taken (get_or VALUES i 0) ≡ hex_value b
at_byte i b is small = rw is (
    sym (get_or-map taken VALUES b 0 None small)
    ∙ ap (λ l. get_or l b None) whole
    ∙ get_or-map-range_with_len hex_value 0 256 b b None small (omega arith))

-- a digit, and what is none
pub digit_there : (i b : ℕ) → i ≡ b → b < 256 → get_or VALUES i 0 < 16 → Some (get_or VALUES i 0) ≡ hex_value b
digit_there i b is small low = below _ _ (at_byte i b is small) low

pub no_digit : (i b : ℕ) → i ≡ b → b < 256 → 16 ≤ get_or VALUES i 0 → None ≡ hex_value b
no_digit i b is small high = above _ _ (at_byte i b is small) high
