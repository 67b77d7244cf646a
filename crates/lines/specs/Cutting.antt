-- Input cut into lines. Assumes nothing.
use Rattle.std.specs.Prelude.{◌≡◌, ℕ, ◌<◌, cond, List, [], ◌∷◌, ◌++◌, length, vec_items, Some, None, Option, ◌==◌}
use Rattle.std.specs.Borrow.{Bor}
use Rattle.lines.specs.declared.cutter.LineCutter.{LineCutter}

-- the lines that end in a block, by their line feeds, where the first goes on from `kept`
abbrev pub ended : List ℕ → List ℕ → List (List ℕ)
ended kept [] = []
ended kept (b ∷ bs) = cond (b == 10) (kept ∷ ended [] bs) (ended (kept ++ b ∷ []) bs)

-- the line that goes on behind the block
abbrev pub going_on : List ℕ → List ℕ → List ℕ
going_on kept [] = kept
going_on kept (b ∷ bs) = cond (b == 10) (going_on [] bs) (going_on (kept ++ b ∷ []) bs)

-- the lines of a whole input; the last may lack its line feed, and is blank behind one
abbrev pub input_lines : List ℕ → List (List ℕ)
input_lines input = ended [] input ++ going_on [] input ∷ []

-- what a cutter keeps of a line
abbrev pub kept : LineCutter → List ℕ
kept c = vec_items c.line

-- the line `was` goes on with a block: to its end, where the rest is cut on its own, or past the block
abbrev pub Takes : List ℕ → List ℕ → List ℕ → Option (Bor (List ℕ)) → Type 0
Takes was block line None = (ended was block ≡ []) × (going_on was block ≡ line)
Takes was block line (Some rest) =
    (length rest.now < length block) × (ended was block ≡ line ∷ ended [] rest.now) × (going_on was block ≡ going_on [] rest.now)
