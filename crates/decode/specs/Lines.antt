-- The answers to lines, in order. Assumes nothing.
use Rattle.std.specs.Prelude.{◌≡◌, ℕ, ◌⊎◌, List, [], ◌∷◌, ◌++◌, Some, None, codes, Option}
use Rattle.std.specs.List.{flat_map}
use Rattle.std.specs.Io.KnownBytes.{Appends, Consumes, IsAtEnd}
use Rattle.lines.specs.Cutting.{ended, input_lines}
use Rattle.lines.specs.Spelling.{spelled}
use Rattle.decode.specs.Account.{account}

-- the answer to a line that spells `s`: a refusal where it spells no octets, nothing where it is blank, and else the lines
-- that account for its octets
abbrev pub spelling_answer : Option (List ℕ) → List ℕ
spelling_answer None = codes "not octets\n"
spelling_answer (Some []) = []
spelling_answer (Some (o ∷ os)) = account (o ∷ os)

abbrev pub line_answer : List ℕ → List ℕ
line_answer line = spelling_answer (spelled line)

-- the answers to lines, in order
abbrev pub line_answers : List (List ℕ) → List ℕ
line_answers lines = flat_map line_answer lines

-- an input was read so far, and what was written is a beginning of the answers to the lines that ended in that; once the input is at
-- its end, of those to all of its lines
pub record BeginsAnswers (input left output grown : Option (List ℕ)) : Type 0 where
  pub read : List ℕ
  pub text : List ℕ
  pub unwritten : List ℕ
  pub consumes : Consumes input left read
  pub appends : Appends output grown text
  pub due : (text ++ unwritten ≡ line_answers (ended [] read))
      ⊎ (IsAtEnd left × (text ++ unwritten ≡ line_answers (input_lines read)))
