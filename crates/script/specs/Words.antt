-- The words of a line, and what they spell. Assumes nothing.
use Rattle.std.specs.Prelude.{ℕ, ◌+◌, ◌-◌, ◌*◌, min, Bool, true, false, cond, not, List, [], ◌∷◌, drop, length, Some, None, Option, ◌==◌}
use Rattle.std.specs.List.{before_first, position_or_len}
use Rattle.std.specs.Option.{option_and_then, option_map}
use Rattle.std.specs.Str.{bytes_eq}
use Rattle.lines.specs.Spelling.{is_white, within}

-- a text without the white space in front of it
abbrev pub trimmed : List ℕ → List ℕ
trimmed text = drop (position_or_len (λ b. not (is_white b)) text) text

-- the first word of a text, up to white space or to the end; it is empty where there is none
abbrev pub first_word : List ℕ → List ℕ
first_word text = before_first is_white (trimmed text)

-- what stands behind the first word
abbrev pub behind_word : List ℕ → List ℕ
behind_word text = drop (position_or_len is_white (trimmed text)) (trimmed text)

abbrev pub is_over : List ℕ → Bool
is_over text = length (first_word text) == 0

-- the value of a decimal digit
abbrev pub digit : ℕ → Option ℕ
digit b = cond (within 48 57 b) (Some (b - 48)) None

-- the number that decimal digits spell behind those of `n`
abbrev pub digits_behind : ℕ → List ℕ → Option ℕ
digits_behind n [] = Some n
digits_behind n (b ∷ bs) = option_and_then (λ d. digits_behind (10 * n + d) bs) (digit b)

-- a number that stops at 255
abbrev pub stopped : Option ℕ → Option ℕ
stopped n = option_map (λ k. min k 255) n

-- the number that a word of one digit or more spells. All numbers from 255 on are out of every range, and count as 255
abbrev pub number : List ℕ → Option ℕ
number word = cond (length word == 0) None (stopped (digits_behind 0 word))

-- which of two words a word is: whether it is the first
abbrev pub either : List ℕ → List ℕ → List ℕ → Option Bool
either this that word = cond (bytes_eq word this) (Some true) (cond (bytes_eq word that) (Some false) None)
