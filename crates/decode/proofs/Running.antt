-- What a run of lines comes to. Assumes nothing.
use Rattle.std.proofs.Common.{◌≡◌, ℕ, inl, inr, List, [], ◌++◌, Some, None, Option, IfSome, Ok, Err, Result, OnErr, OnOk, refl, ap, subst, sym, ◌∙◌, append_assoc, append-nil}
use Rattle.std.proofs.lemmas.Grind.{flat_map-append}
use Rattle.std.specs.Io.KnownBytes.{Appends, IsAtEnd}
use Rattle.lines.specs.Answering.{AnswersAll, AnswersSome, AreAnswered, IsDue, none, then}
use Rattle.lines.specs.Cutting.{input_lines}
use Rattle.decode.specs.Lines.{BeginsAnswers, line_answer, line_answers}
use Rattle.decode.specs.declared.decoder.Decoder.{Decoder}

-- what lines are answered, whatever the decoder
abbrev Takes : Decoder → List ℕ → List ℕ → Decoder → Type 0
Takes _ line text _ = text ≡ line_answer line

abbrev Ends : Decoder → List ℕ → Decoder → Type 0
Ends _ text _ = text ≡ []

answers_are : (d d' : Decoder) (lines : List (List ℕ)) (text : List ℕ) → AreAnswered Takes d lines text d' → text ≡ line_answers lines
answers_are _ _ _ _ (none d) = refl
answers_are _ d' _ _ (then d m _ line lines text texts is more) = ap (λ l. l ++ texts) is ∙ ap (λ l. line_answer line ++ l) (answers_are m d' lines texts more)

due_is : (d d' : Decoder) (input text : List ℕ) → IsDue Takes Ends d input text d' → text ≡ line_answers (input_lines input)
due_is d d' input text due = due.is ∙ ap (λ l. due.answers ++ l) due.end ∙ append-nil due.answers ∙ answers_are d due.last (input_lines input) due.answers due.lines

-- all of a known input
all_of : (d d' : Decoder) (input left output grown : Option (List ℕ)) → AnswersAll Takes Ends d d' input left output grown → IfSome input (λ octets. Appends output grown (line_answers (input_lines octets)))
all_of d d' None left output grown all = tt
all_of d d' (Some xs) None output grown all = absurd all.consumes
all_of d d' (Some xs) (Some ys) output grown all =
    let read : all.read ≡ xs = sym (all.consumes ∙ ap (λ l. all.read ++ l) all.at_end ∙ append-nil all.read) in
    subst (Appends output grown) (due_is d d' all.read all.text all.due ∙ ap (λ l. line_answers (input_lines l)) read) all.appends

-- a beginning of it
some_of : (d : Decoder) (input left output grown : Option (List ℕ)) → AnswersSome Takes Ends d input left output grown → BeginsAnswers input left output grown
some_of d input left output grown some = elim some.due [
  | inl first ↦
      let behind = line_answers first.others in
      let is = answers_are d first.last first.first (some.text ++ some.unwritten) first.answered in
      record {
        read = some.read;
        text = some.text;
        unwritten = some.unwritten ++ behind;
        consumes = some.consumes;
        appends = some.appends;
        due = inl (sym (append_assoc some.text some.unwritten behind) ∙ ap (λ l. l ++ behind) is ∙ sym (flat_map-append line_answer first.first first.others) ∙ ap line_answers (sym first.are));
      }
  | inr (end, due) ↦ record {
    read = some.read;
    text = some.text;
    unwritten = some.unwritten;
    consumes = some.consumes;
    appends = some.appends;
    due = inr (end, due_is d due.0 some.read (some.text ++ some.unwritten) due.1);
  }
]

pub all_answered : {X Y : Type 0} (result : Result X Y) (d d' : Decoder) (input left output grown : Option (List ℕ)) → OnOk result (AnswersAll Takes Ends d d' input left output grown) → OnOk result (IfSome input (λ octets. Appends output grown (line_answers (input_lines octets))))
all_answered (Ok x) d d' input left output grown all = all_of d d' input left output grown all
all_answered (Err y) d d' input left output grown all = tt

pub at_end : {X Y : Type 0} (result : Result X Y) (d d' : Decoder) (input left output grown : Option (List ℕ)) → OnOk result (AnswersAll Takes Ends d d' input left output grown) → OnOk result (IsAtEnd left)
at_end (Ok x) d d' input left output grown all = all.at_end
at_end (Err y) d d' input left output grown all = tt

pub some_answered : {X Y : Type 0} (result : Result X Y) (d : Decoder) (input left output grown : Option (List ℕ)) → OnErr result (AnswersSome Takes Ends d input left output grown) → OnErr result (BeginsAnswers input left output grown)
some_answered (Ok x) d input left output grown some = tt
some_answered (Err y) d input left output grown some = some_of d input left output grown some
