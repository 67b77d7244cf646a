-- The listing, one id after another. Assumes nothing.
use Rattle.std.proofs.Common.{◌≡◌, ℕ, ◌+◌, [], ◌∷◌, ◌++◌, refl, ap, sym, ◌∙◌, arith}
use Rattle.std.proofs.lemmas.List.{flat_map_more, map-id}
use Rattle.std.proofs.lemmas.List.FromFn.{map-range_with_len_more}
use Rattle.std.specs.List.{flat_map, range_with_len}
use Rattle.line.specs.Meaning.{Standings}
use Rattle.tables.specs.Table.{Table}
use Rattle.listing.specs.Listing.{lines_at, lines_below}

-- the numbers below one more
range-more : (n : ℕ) → range_with_len 0 (n + 1) ≡ range_with_len 0 n ++ (n ∷ [])
range-more n = simp map-id at (map-range_with_len_more (λ (i : ℕ). i) 0 n n (omega arith))

-- below 0 there is no line
pub lines_none : (t : Table) (s : Standings) → lines_below 0 t s ≡ []
unfolding lines_below
lines_none t s = refl

-- below one id more there are also the lines of that id
pub lines_more : (n : ℕ) (t : Table) (s : Standings) → lines_below n t s ++ lines_at t s n ≡ lines_below (n + 1) t s
unfolding lines_below
lines_more n t s = flat_map_more (lines_at t s) [] (range_with_len 0 n) n ∙ ap (flat_map (lines_at t s)) (sym (range-more n))
