-- What a board's standings are. Assumes nothing.
use Rattle.std.specs.Prelude.{◌≡◌, ℕ, slice_index_or}
use Rattle.line.specs.declared.board.Board.{Board}
use Rattle.line.specs.declared.notice.Notice.{Notice}
use Rattle.line.specs.declared.standing.Standing.{Standing}
use Rattle.line.specs.Meaning.{Hears}
use Rattle.line.specs.Notices.{fresh}

-- a leg's standing stands at its number; what is no leg has heard nothing
abbrev pub board_standing : Board → ℕ → Standing
board_standing b k = slice_index_or b.standings k fresh

-- a telling is heard, and a collection has nothing to hand over
abbrev pub BoardTells : Board → ℕ → Notice → Board → Type 0
BoardTells b leg notice b' = Hears leg notice (board_standing b) (board_standing b')

abbrev pub BoardCollects : Board → Board → Type 0
BoardCollects b b' = b' ≡ b
