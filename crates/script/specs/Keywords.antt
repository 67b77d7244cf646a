-- The first words of lines. Assumes nothing.
use Rattle.std.specs.Prelude.{ℕ, List, [], ◌∷◌, Option, codes}
use Rattle.std.specs.List.{find}
use Rattle.std.specs.Str.{bytes_eq}
use Rattle.script.specs.declared.keyword.Keyword.{Keyword}
use Rattle.script.specs.declared.keyword.Keyword.TheVariants.{Level, Calling, Answer, Hold, Retrieve, Clearing, Disconnect, Released, Facility, Setup, Away, Collect}

abbrev pub keyword_text : Keyword → List ℕ
keyword_text Level = codes "level"
keyword_text Calling = codes "calling"
keyword_text Answer = codes "answer"
keyword_text Hold = codes "hold"
keyword_text Retrieve = codes "retrieve"
keyword_text Clearing = codes "clearing"
keyword_text Disconnect = codes "disconnect"
keyword_text Released = codes "released"
keyword_text Facility = codes "facility"
keyword_text Setup = codes "setup"
keyword_text Away = codes "away"
keyword_text Collect = codes "collect"

abbrev pub keywords : List Keyword
keywords = Level ∷ Calling ∷ Answer ∷ Hold ∷ Retrieve ∷ Clearing ∷ Disconnect ∷ Released ∷ Facility ∷ Setup ∷ Away ∷ Collect ∷ []

-- the keyword that a word is
abbrev pub keyword : List ℕ → Option Keyword
keyword word = find (λ k. bytes_eq (keyword_text k) word) keywords
