-- Which text is due to what is read, by what a handler does with each line and with the end. Assumes nothing.
use Rattle.std.specs.Prelude.{◌≡◌, ℕ, ◌⊎◌, List, [], ◌∷◌, ◌++◌, Option, string_bytes, Result, MatchResult, OnErr, OnOk}
use Rattle.std.specs.Io.KnownBytes.{Appends, Consumes, IsAtEnd}
use Rattle.lines.specs.Cutting.{ended, input_lines}
use Rattle.lines.specs.declared.answers.Answers.{Answers}

-- the answers that are not yet written
abbrev pub text_of : Answers → List ℕ
text_of answers = string_bytes answers.text

-- a text was appended
abbrev pub Says : {X Y : Type 0} → Result X Y → Answers → Answers → List ℕ → Type 0
Says result answers answers' text = OnOk result (text_of answers' ≡ text_of answers ++ text)

-- where memory was wanting, nothing was
abbrev pub SaysNothing : {X Y : Type 0} → Result X Y → Answers → Answers → Type 0
SaysNothing result answers answers' = OnErr result (text_of answers' ≡ text_of answers)

-- a text was appended of which something holds; where memory was wanting, nothing was
abbrev pub AppendsSome : {X Y : Type 0} → Result X Y → List ℕ → List ℕ → (List ℕ → Type 0) → Type 0
AppendsSome result was is holds = MatchResult result (λ _. (text : List ℕ) × holds text × (is ≡ was ++ text)) (λ _. is ≡ was)

-- what a line does: the handler before, the line, what it is answered, and the handler behind it
abbrev pub Taking : Type 0 → Type 1
Taking H = H → List ℕ → List ℕ → H → Type 0

-- what the end of the input does: the handler before, what is answered, and the handler behind it
abbrev pub Ending : Type 0 → Type 1
Ending H = H → List ℕ → H → Type 0

-- lines, one after another: the handler before, what they are answered, and the handler behind them
pub data AreAnswered {H : Type 0} (takes : Taking H) : H → List (List ℕ) → List ℕ → H → Type 0 where
  none : (h : H) → AreAnswered takes h [] [] h
  then : (h h' h'' : H) (line : List ℕ) (lines : List (List ℕ)) (text texts : List ℕ)
      → takes h line text h' → AreAnswered takes h' lines texts h'' → AreAnswered takes h (line ∷ lines) (text ++ texts) h''

-- the text that is due to a whole input: the answers to its lines, and what its end is answered
pub record IsDue {H : Type 0} (takes : Taking H) (ends : Ending H) (h : H) (input text : List ℕ) (h' : H) : Type 0 where
  pub last : H
  pub answers : List ℕ
  pub tail : List ℕ
  pub lines : AreAnswered takes h (input_lines input) answers last
  pub end : ends last tail h'
  pub is : text ≡ answers ++ tail

-- the text is due to some of the lines, from the first on
pub record IsDueToFirst {H : Type 0} (takes : Taking H) (h : H) (lines : List (List ℕ)) (text : List ℕ) : Type 0 where
  pub first : List (List ℕ)
  pub others : List (List ℕ)
  pub are : lines ≡ first ++ others
  pub last : H
  pub answered : AreAnswered takes h first text last

-- an input was read to its end, and just what is due to it was written
pub record AnswersAll {H : Type 0} (takes : Taking H) (ends : Ending H) (h h' : H)
    (input left output grown : Option (List ℕ)) : Type 0 where
  pub read : List ℕ
  pub text : List ℕ
  pub consumes : Consumes input left read
  pub at_end : IsAtEnd left
  pub due : IsDue takes ends h read text h'
  pub appends : Appends output grown text

-- an input was read so far, and a beginning of what is due to that was written, and nothing else: of the answers to lines that
-- ended; once the input is at its end, of all that is due to it
pub record AnswersSome {H : Type 0} (takes : Taking H) (ends : Ending H) (h : H)
    (input left output grown : Option (List ℕ)) : Type 0 where
  pub read : List ℕ
  pub text : List ℕ
  pub unwritten : List ℕ
  pub consumes : Consumes input left read
  pub appends : Appends output grown text
  pub due : IsDueToFirst takes h (ended [] read) (text ++ unwritten)
      ⊎ (IsAtEnd left × ((h' : H) × IsDue takes ends h read (text ++ unwritten) h'))
