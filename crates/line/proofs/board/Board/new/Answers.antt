use Rattle.std.proofs.Common.{◌≡◌, ℕ, get_or, replicate, arith}
use Rattle.std.proofs.lemmas.List.{get_or-replicate, get_or_past, length-replicate}
use Rattle.std.proofs.lemmas.Bool.{cases_lt}
use Rattle.line.specs.declared.standing.Standing.{Standing}
use Rattle.line.specs.Notices.{fresh}
use Rattle.line.proofs.board.Board.new.Goals as goal

-- the same standing at each place, and past them
same_everywhere : (n k : ℕ) (s : Standing) → get_or (replicate n s) k s ≡ s
same_everywhere n k s = grind (arith, get_or-replicate, get_or_past, length-replicate, cases_lt k n)

pub returns : goal.returns
returns c = λ k. rw c.new_standings.ensures (same_everywhere 65 k fresh)
