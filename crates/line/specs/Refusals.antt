-- The number that each refusal of a line carries, and its text. Assumes nothing.
use Rattle.std.specs.Prelude.{ℕ, List, codes}
use Rattle.line.specs.declared.meaning.Refusal.{Refusal}
use Rattle.line.specs.declared.meaning.Refusal.TheVariants.{NoSuchLeg, NoRoom}

abbrev pub refusal_number : Refusal → ℕ
refusal_number NoSuchLeg = 3
refusal_number NoRoom = 6

-- the number, and the refusal in words
abbrev pub refusal_text : Refusal → List ℕ
refusal_text NoSuchLeg = codes "3: no such leg"
refusal_text NoRoom = codes "6: no room for another notice"
