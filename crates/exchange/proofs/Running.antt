-- What a run of lines comes to. Assumes nothing.
use Rattle.std.proofs.Common.{◌≡◌, ℕ, inl, inr, List, ◌∷◌, ◌++◌, Some, None, Option, IfSome, Ok, Err, Result, OnErr, OnOk, ap, subst, sym, ◌∙◌, append-nil}
use Rattle.std.specs.Io.KnownBytes.{Appends, IsAtEnd}
use Rattle.lines.specs.Answering as lines
use Rattle.lines.specs.Answering.{AnswersAll, AnswersSome, AreAnswered, IsDue}
use Rattle.lines.specs.Cutting.{input_lines}
use Rattle.script.specs.Script.{parsed}
use Rattle.exchange.specs.Course.{answered, BeginsOutput, Does, IsOutput, last_account, none, Runs, then}
use Rattle.exchange.specs.declared.exchange.Exchange.{Exchange}
use Rattle.exchange.specs.declared.service.Service.{Service}

-- what a line does, and what the end does
abbrev Takes : Exchange → List ℕ → List ℕ → Exchange → Type 0
Takes e text told e' = (told ≡ answered (parsed text) e.service) × Does (parsed text) e.service e'.service

abbrev Ends : Exchange → List ℕ → Exchange → Type 0
Ends e told _ = told ≡ last_account e.service

runs : (e e' : Exchange) (ls : List (List ℕ)) (text : List ℕ) → AreAnswered Takes e ls text e' → Runs ls e.service e'.service text
runs _ _ _ _ (lines.none e) = none e.service
runs _ e' _ _ (lines.then e m _ l ls text texts (told, does) more) =
    subst (Runs (l ∷ ls) e.service e'.service) (ap (λ t. t ++ texts) (sym told)) (then l ls e.service m.service e'.service texts does (runs m e' ls texts more))

-- from the start
from_start : (e : Exchange) (s : Option Service) (ls : List (List ℕ)) (text : List ℕ) → e.service ≡ None → Runs ls e.service s text → Runs ls None s text
from_start e s ls text is r = subst (λ x. Runs ls x s text) is r

output_is : (e e' : Exchange) (input text : List ℕ) → e.service ≡ None → IsDue Takes Ends e input text e' → IsOutput input text
output_is e e' input text is due = record {
  last = due.last.service;
  text = due.answers;
  runs = from_start e due.last.service (input_lines input) due.answers is (runs e due.last (input_lines input) due.answers due.lines);
  ends = due.is ∙ ap (λ l. due.answers ++ l) due.end;
}

-- all of a known script
all_of : (e e' : Exchange) (input left output grown : Option (List ℕ)) → e.service ≡ None → AnswersAll Takes Ends e e' input left output grown → IfSome input (λ script. (text : List ℕ) × IsOutput script text × Appends output grown text)
all_of e e' None left output grown is all = tt
all_of e e' (Some xs) None output grown is all = absurd all.consumes
all_of e e' (Some xs) (Some ys) output grown is all =
    let read : all.read ≡ xs = sym (all.consumes ∙ ap (λ l. all.read ++ l) all.at_end ∙ append-nil all.read) in
    (all.text, subst (λ l. IsOutput l all.text) read (output_is e e' all.read all.text is all.due), all.appends)

-- a beginning of it
some_of : (e : Exchange) (input left output grown : Option (List ℕ)) → e.service ≡ None → AnswersSome Takes Ends e input left output grown → BeginsOutput input left output grown
some_of e input left output grown is some = elim some.due [
  | inl part ↦ record {
    read = some.read;
    text = some.text;
    unwritten = some.unwritten;
    consumes = some.consumes;
    appends = some.appends;
    due = inl (record {
      first = part.first;
      others = part.others;
      are = part.are;
      last = part.last.service;
      runs = from_start e part.last.service part.first (some.text ++ some.unwritten) is (runs e part.last part.first (some.text ++ some.unwritten) part.answered);
    });
  }
  | inr (end, due) ↦ record {
    read = some.read;
    text = some.text;
    unwritten = some.unwritten;
    consumes = some.consumes;
    appends = some.appends;
    due = inr (end, output_is e due.0 some.read (some.text ++ some.unwritten) is due.1);
  }
]

pub all_answered : {X Y : Type 0} (result : Result X Y) (e e' : Exchange) (input left output grown : Option (List ℕ)) → e.service ≡ None → OnOk result (AnswersAll Takes Ends e e' input left output grown) → OnOk result (IfSome input (λ script. (text : List ℕ) × IsOutput script text × Appends output grown text))
all_answered (Ok x) e e' input left output grown is all = all_of e e' input left output grown is all
all_answered (Err y) e e' input left output grown is all = tt

pub at_end : {X Y : Type 0} (result : Result X Y) (e e' : Exchange) (input left output grown : Option (List ℕ)) → OnOk result (AnswersAll Takes Ends e e' input left output grown) → OnOk result (IsAtEnd left)
at_end (Ok x) e e' input left output grown all = all.at_end
at_end (Err y) e e' input left output grown all = tt

pub some_answered : {X Y : Type 0} (result : Result X Y) (e : Exchange) (input left output grown : Option (List ℕ)) → e.service ≡ None → OnErr result (AnswersSome Takes Ends e input left output grown) → OnErr result (BeginsOutput input left output grown)
some_answered (Ok x) e input left output grown is some = tt
some_answered (Err y) e input left output grown is some = some_of e input left output grown is some
