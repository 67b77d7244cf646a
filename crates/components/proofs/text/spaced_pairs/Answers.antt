use Rattle.std.proofs.Common.{◌≡◌, ℕ, ◌<◌, List, [], ◌∷◌, ◌++◌, arith}
use Rattle.std.specs.Str.{IsAscii}
use Rattle.std.proofs.lemmas.Grind.{common_steps}
use Rattle.std.proofs.lemmas.Str.{IsAscii-append}
use Rattle.std.proofs.lemmas.Str.Ascii.{IsAscii-cons, IsAscii-nil}
use Rattle.components.proofs.text.spaced_pairs.Goals as goal

-- an ASCII byte behind others
one_more : (xs all : List ℕ) (b : ℕ) → all ≡ xs ++ b ∷ [] → b < 128 → IsAscii xs → IsAscii all
one_more xs all b is low ascii = rw is (IsAscii-append xs (b ∷ []) ascii (IsAscii-cons b [] low IsAscii-nil))

pub loop-octet-preserved : goal.loop-octet-preserved
loop-octet-preserved c =
    let space = one_more _ _ 32 c.push.ensures.items (omega arith) c.loop-octet.invariant.1 in
    let high = one_more _ _ _ c.push-in-loop-octet.ensures.items c.hex_digit.ensures.ascii space in (
      grind (arith, common_steps),
      one_more _ _ _ c.push-in-loop-octet-2.ensures.items c.hex_digit-in-loop-octet.ensures.ascii high,
      grind (arith, common_steps),
    )
