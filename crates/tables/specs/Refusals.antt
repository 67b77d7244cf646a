-- The number that each refusal carries, and its text. Assumes nothing.
use Rattle.std.specs.Prelude.{ℕ, List, codes}
use Rattle.tables.specs.declared.refusal.LevelRefusal.{LevelRefusal}
use Rattle.tables.specs.declared.refusal.LevelRefusal.TheVariants.{Size, Conferences}
use Rattle.tables.specs.declared.refusal.Refusal.{Refusal}
use Rattle.tables.specs.declared.refusal.Refusal.TheVariants.{OutOfRange, WrongState, WrongLeg, NoRoom}

abbrev pub refusal_number : Refusal → ℕ
refusal_number OutOfRange = 3
refusal_number WrongState = 4
refusal_number WrongLeg = 5
refusal_number NoRoom = 6

-- the number, and the refusal in words
abbrev pub refusal_text : Refusal → List ℕ
refusal_text OutOfRange = codes "3: no such reference or leg"
refusal_text WrongState = codes "4: not in this state of the call"
refusal_text WrongLeg = codes "5: the leg is up, or it is not"
refusal_text NoRoom = codes "6: no room for what the others would be told"

-- the same of a level
abbrev pub level_refusal_number : LevelRefusal → ℕ
level_refusal_number Size = 1
level_refusal_number Conferences = 2

abbrev pub level_refusal_text : LevelRefusal → List ℕ
level_refusal_text Size = codes "1: not a size from 1 to 30"
level_refusal_text Conferences = codes "2: not 1 to 8 conferences"

-- an edit for which there is no room
abbrev pub full_text : List ℕ
full_text = codes "no room in the tables"
