-- What is told on a line of any kind, notice after notice. Each kind of line says for itself what a telling does to it, and what a
-- collection does; these relations speak of every kind. A kind whose own relations always hold gains nothing by them; but code that is
-- written for every kind can only keep them by making just these calls. Assumes nothing.
use Rattle.std.specs.Prelude.{ℕ, List, [], ◌∷◌, ◌++◌, map}
use Rattle.line.specs.declared.notice.Notice.{Notice}

-- a leg, and the notice that it was told
abbrev pub Telling : Type 0
Telling = ℕ × Notice

-- one notice for each leg of a list
abbrev pub to_each : Notice → List ℕ → List Telling
to_each notice legs = map (λ leg. (leg, notice)) legs

-- just these notices were told, to these hearers, in this order, and nothing else was done: from one line to another
pub data TellsInOrder {L : Type 0} (tells : L → ℕ → Notice → L → Type 0) : List Telling → L → L → Type 0 where
  nothing : (l : L) → TellsInOrder tells [] l l
  then : (told : List Telling) (leg : ℕ) (notice : Notice) (l l' l'' : L)
      → TellsInOrder tells told l l' → tells l' leg notice l'' → TellsInOrder tells (told ++ ((leg, notice) ∷ [])) l l''
