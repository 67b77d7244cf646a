-- What one turn of the reading of a line keeps: the octets so far, before what the rest spells, are what the line spells.
-- Assumes nothing.
use Rattle.std.proofs.Common.{◌≡◌, ℕ, false, List, [], ◌∷◌, ◌++◌, Some, None, Option, sym, refl, ap, append_assoc}
use Rattle.lines.specs.Spelling.{is_white, pair_value, before, spelled}

-- octets, and behind them those that are spelled
abbrev pub behind : List ℕ → Option (List ℕ) → Option (List ℕ)
behind front None = None
behind front (Some os) = Some (front ++ os)

-- no octets yet
pub behind_none : (s : Option (List ℕ)) → behind [] s ≡ s
behind_none None = refl
behind_none (Some os) = refl

-- one octet more, before what is spelled or behind the octets so far
behind_more : (os : List ℕ) (o : ℕ) (s : Option (List ℕ)) → behind os (before (Some o) s) ≡ behind (os ++ o ∷ []) s
behind_more os o None = refl
behind_more os o (Some more) = ap Some (sym (append_assoc os (o ∷ []) more))

-- a pair at the front
pub past_pair : (os : List ℕ) (o a b : ℕ) (bs : List ℕ) → is_white a ≡ false → pair_value a b ≡ Some o → behind os (spelled (a ∷ b ∷ bs)) ≡ behind (os ++ o ∷ []) (spelled bs)
past_pair os o a b bs w e = rw (w, e) (behind_more os o (spelled bs))
