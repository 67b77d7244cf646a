-- Lines after lines, and blocks after blocks. Assumes nothing.
use Rattle.std.proofs.Common.{◌≡◌, ℕ, inl, inr, Ok, Err, Result, OnErr, List, [], ◌∷◌, ◌++◌, Option, take, drop, take-append-drop, refl, ap, subst, sym, ◌∙◌, append_assoc, append-nil}
use Rattle.std.specs.Io.KnownBytes.{Appends, Consumes, IsAtEnd, Keeps}
use Rattle.std.proofs.KnownBytes.{Appends-nil, Appends-trans, Consumes-kept, Consumes-nil, Consumes-trans}
use Rattle.lines.specs.Answering.{AnswersAll, AnswersSome, AreAnswered, IsDue, none, then, Ending, Taking}
use Rattle.lines.specs.Cutting.{ended, going_on, input_lines}
use Rattle.lines.proofs.Cutting.{ended_two, going_on_two}

-- the same lines, with the same text
same : {H : Type 0} (takes : Taking H) (h h' : H) (ls ms : List (List ℕ)) (a b : List ℕ) → ls ≡ ms → a ≡ b → AreAnswered takes h ls a h' → AreAnswered takes h ms b h'
same takes h h' ls ms a b e f r = subst (λ t. AreAnswered takes h ms t h') f (subst (λ l. AreAnswered takes h l a h') e r)

-- one line
one_line : {H : Type 0} (takes : Taking H) (h h' : H) (line text : List ℕ) → takes h line text h' → AreAnswered takes h (line ∷ []) text h'
one_line takes h h' line text t = same takes h h' (line ∷ []) (line ∷ []) (text ++ []) text refl (append-nil text) (then h h' h' line [] text [] t (none h'))

-- lines, and lines behind them
both : {H : Type 0} (takes : Taking H) (h h' h'' : H) (ls ms : List (List ℕ)) (a b : List ℕ) → AreAnswered takes h ls a h' → AreAnswered takes h' ms b h'' → AreAnswered takes h (ls ++ ms) (a ++ b) h''
both takes _ _ h'' _ ms _ b (none h) r = r
both takes _ h' h'' _ ms _ b (then h m _ l ls a c t q) r =
    same takes h h'' ((l ∷ ls) ++ ms) ((l ∷ ls) ++ ms) (a ++ (c ++ b)) (a ++ c ++ b) refl (sym (append_assoc a c b))
    (then h m h'' l (ls ++ ms) a (c ++ b) t (both takes m h' h'' ls ms c b q r))

-- what is left of a block, where its lines so far were answered
pub record Left {H : Type 0} (takes : Taking H) (h h' : H) (line block line' rest was is : List ℕ) : Type 0 where
  pub lines : List (List ℕ)
  pub text : List ℕ
  pub goes : going_on line' rest ≡ going_on line block
  pub cuts : lines ++ ended line' rest ≡ ended line block
  pub answered : AreAnswered takes h lines text h'
  pub grown : is ≡ was ++ text

-- the whole block
pub whole_block : {H : Type 0} (takes : Taking H) (h : H) (line block was : List ℕ) → Left takes h h line block line block was was
whole_block takes h line block was = record { lines = []; text = []; goes = refl; cuts = refl; answered = none h; grown = sym (append-nil was) }

-- a line of the block is answered
pub next_line : {H : Type 0} (takes : Taking H) (h m h' : H) (line block line' line'' rest rest' ended_line was now is more : List ℕ) → Left takes h m line block line' rest was now
    → ended line' rest ≡ ended_line ∷ ended [] rest' → going_on line' rest ≡ going_on [] rest' → line'' ≡ [] → takes m ended_line more h' → is ≡ now ++ more → Left takes h h' line block line'' rest' was is
next_line takes h m h' line block line' line'' rest rest' ended_line was now is more left e g k t grown =
    let goes = left.goes in
    let cuts = left.cuts in
    let joined = append_assoc left.lines (ended_line ∷ []) (ended [] rest') in
    record {
      lines = left.lines ++ ended_line ∷ [];
      text = left.text ++ more;
      goes = cc;
      cuts = cc;
      answered = both takes h m h' left.lines (ended_line ∷ []) left.text more left.answered (one_line takes m h' ended_line more t);
      grown = grown ∙ ap (λ l. l ++ more) left.grown ∙ append_assoc was left.text more;
    }

-- where a run stands behind the blocks so far: the line that goes on is kept, and each line that ended is answered
pub record Stands {H : Type 0} (takes : Taking H) (h h' : H) (line waiting : List ℕ) (input left output grown : Option (List ℕ)) : Type 0 where
  pub read : List ℕ
  pub text : List ℕ
  pub consumes : Consumes input left read
  pub appends : Appends output grown text
  pub answered : AreAnswered takes h (ended [] read) text h'
  pub keeps : line ≡ going_on [] read
  pub nothing : waiting ≡ []

pub begun : {H : Type 0} (takes : Taking H) (h : H) (line waiting : List ℕ) (input output : Option (List ℕ)) → line ≡ [] → waiting ≡ [] → Stands takes h h line waiting input input output output
begun takes h line waiting input output k w = record { read = []; text = []; consumes = Consumes-nil input; appends = Appends-nil output; answered = none h; keeps = k; nothing = w }

-- a block more
pub block_more : {H : Type 0} (takes : Taking H) (h m h' : H) (line line' block waiting waiting' waiting'' more : List ℕ) (input left left' output grown grown' : Option (List ℕ)) → Stands takes h m line waiting input left output grown
    → Consumes left left' block → line' ≡ going_on line block → AreAnswered takes m (ended line block) more h' → waiting' ≡ waiting ++ more → Appends grown grown' waiting' → waiting'' ≡ [] → Stands takes h h' line' waiting'' input left' output grown'
block_more takes h m h' line line' block waiting waiting' waiting'' more input left left' output grown grown' s consumes goes answered grows appends empty =
    let keeps = s.keeps in
    let on = going_on_two [] s.read block in
    let cut = ended_two [] s.read block in
    let lines : ended [] s.read ++ ended line block ≡ ended [] (s.read ++ block) = cc in
    record {
      read = s.read ++ block;
      text = s.text ++ more;
      consumes = Consumes-trans _ _ _ _ _ s.consumes consumes;
      appends = Appends-trans _ _ _ _ _ s.appends (subst (Appends grown grown') (grows ∙ ap (λ l. l ++ more) s.nothing) appends);
      answered = same takes h h' _ _ _ _ lines refl (both takes h m h' (ended [] s.read) (ended line block) s.text more s.answered answered);
      keeps = cc;
      nothing = empty;
    }

-- nothing is written any more
pub stopped : {H : Type 0} (takes : Taking H) (ends : Ending H) (h m : H) (line block waiting : List ℕ) (input left left' output grown : Option (List ℕ)) → Stands takes h m line waiting input left output grown → Consumes left left' block → AnswersSome takes ends h input left' output grown
stopped takes ends h m line block waiting input left left' output grown s consumes = record {
  read = s.read ++ block;
  text = s.text;
  unwritten = [];
  consumes = Consumes-trans _ _ _ _ _ s.consumes consumes;
  appends = s.appends;
  due = inl (record {
    first = ended [] s.read;
    others = ended (going_on [] s.read) block;
    are = ended_two [] s.read block;
    last = m;
    answered = same takes h m _ _ _ _ refl (sym (append-nil s.text)) s.answered;
  });
}

-- the answers to a block are not all written
pub cut_short : {H : Type 0} (takes : Taking H) (ends : Ending H) (h m h' : H) (line block waiting waiting' more : List ℕ) (n : ℕ) (input left left' output grown grown' : Option (List ℕ)) → Stands takes h m line waiting input left output grown
    → Consumes left left' block → AreAnswered takes m (ended line block) more h' → waiting' ≡ waiting ++ more → Appends grown grown' (take n waiting') → AnswersSome takes ends h input left' output grown'
cut_short takes ends h m h' line block waiting waiting' more n input left left' output grown grown' s consumes answered grows appends =
    let keeps = s.keeps in
    let cut = ended_two [] s.read block in
    let lines : ended [] (s.read ++ block) ≡ ended [] s.read ++ ended line block = cc in
    let written = subst (λ w. Appends grown grown' (take n w)) (grows ∙ ap (λ l. l ++ more) s.nothing) appends in
    let text = ap (λ l. s.text ++ l) (sym (take-append-drop n more)) ∙ sym (append_assoc s.text (take n more) (drop n more)) in
    record {
      read = s.read ++ block;
      text = s.text ++ take n more;
      unwritten = drop n more;
      consumes = Consumes-trans _ _ _ _ _ s.consumes consumes;
      appends = Appends-trans _ _ _ _ _ s.appends written;
      due = inl (record {
        first = ended [] s.read ++ ended line block;
        others = [];
        are = lines ∙ sym (append-nil (ended [] s.read ++ ended line block));
        last = h';
        answered = same takes h h' _ _ _ _ refl text (both takes h m h' (ended [] s.read) (ended line block) s.text more s.answered answered);
      });
    }

-- the text that is due where the input ended
due_at_end : {H : Type 0} (takes : Taking H) (ends : Ending H) (h m last h' : H) (line its answer tail waiting : List ℕ) (input left output grown : Option (List ℕ)) → (s : Stands takes h m line waiting input left output grown)
    → its ≡ line → takes m its answer last → ends last tail h' → IsDue takes ends h s.read (s.text ++ (answer ++ tail)) h'
due_at_end takes ends h m last h' line its answer tail waiting input left output grown s is t e =
    let keeps = s.keeps in
    let lines : ended [] s.read ++ its ∷ [] ≡ input_lines s.read = cc in
    record {
      last = last;
      answers = s.text ++ answer;
      tail = tail;
      lines = same takes h last _ _ _ _ lines refl (both takes h m last (ended [] s.read) (its ∷ []) s.text answer s.answered (one_line takes m last its answer t));
      end = e;
      is = sym (append_assoc s.text answer tail);
    }

-- no octet is read where the input is at its end
end_consumes : (input left left' : Option (List ℕ)) (read : List ℕ) → Consumes input left read → Consumes left left' [] → Consumes input left' read
end_consumes input left left' read was now = subst (Consumes input left') (append-nil read) (Consumes-trans _ _ _ _ _ was now)

-- all was answered
pub all_answered : {H : Type 0} (takes : Taking H) (ends : Ending H) (h m last h' : H) (line its answer tail waiting waiting' : List ℕ) (input left left' output grown grown' : Option (List ℕ)) → Stands takes h m line waiting input left output grown
    → Consumes left left' [] → IsAtEnd left' → its ≡ line → takes m its answer last → ends last tail h' → waiting' ≡ waiting ++ (answer ++ tail) → Appends grown grown' waiting' → AnswersAll takes ends h h' input left' output grown'
all_answered takes ends h m last h' line its answer tail waiting waiting' input left left' output grown grown' s consumes end is t e grows appends = record {
  read = s.read;
  text = s.text ++ (answer ++ tail);
  consumes = end_consumes _ _ _ _ s.consumes consumes;
  at_end = end;
  due = due_at_end takes ends h m last h' line its answer tail waiting input left output grown s is t e;
  appends = Appends-trans _ _ _ _ _ s.appends (subst (Appends grown grown') (grows ∙ ap (λ l. l ++ (answer ++ tail)) s.nothing) appends);
}

-- all was answered, but not all is written
pub end_cut_short : {H : Type 0} (takes : Taking H) (ends : Ending H) (h m last h' : H) (line its answer tail waiting waiting' : List ℕ) (n : ℕ) (input left left' output grown grown' : Option (List ℕ)) → Stands takes h m line waiting input left output grown
    → Consumes left left' [] → IsAtEnd left' → its ≡ line → takes m its answer last → ends last tail h' → waiting' ≡ waiting ++ (answer ++ tail) → Appends grown grown' (take n waiting') → AnswersSome takes ends h input left' output grown'
end_cut_short takes ends h m last h' line its answer tail waiting waiting' n input left left' output grown grown' s consumes end is t e grows appends =
    let more = answer ++ tail in
    let written = subst (λ w. Appends grown grown' (take n w)) (grows ∙ ap (λ l. l ++ more) s.nothing) appends in
    let text = ap (λ l. s.text ++ l) (sym (take-append-drop n more)) ∙ sym (append_assoc s.text (take n more) (drop n more)) in
    record {
      read = s.read;
      text = s.text ++ take n more;
      unwritten = drop n more;
      consumes = end_consumes _ _ _ _ s.consumes consumes;
      appends = Appends-trans _ _ _ _ _ s.appends written;
      due = inr (end, (h', subst (λ x. IsDue takes ends h s.read x h') text (due_at_end takes ends h m last h' line its answer tail waiting input left output grown s is t e)));
    }

-- nothing was read
pub unread : {H : Type 0} (takes : Taking H) (ends : Ending H) (h m : H) (line waiting : List ℕ) (input left left' output grown : Option (List ℕ)) → Stands takes h m line waiting input left output grown → Keeps left left' → AnswersSome takes ends h input left' output grown
unread takes ends h m line waiting input left left' output grown s keeps = stopped takes ends h m line [] waiting input left left' output grown s (Consumes-kept left left left' [] (Consumes-nil left) keeps)

-- nothing was read or answered
pub nothing_answered : {H : Type 0} (takes : Taking H) (ends : Ending H) (h : H) (input output : Option (List ℕ)) → AnswersSome takes ends h input input output output
nothing_answered takes ends h input output = stopped takes ends h h [] [] [] input input input output output (begun takes h [] [] input output refl refl) (Consumes-nil input)

-- what holds anyway
pub on_err : {X Y : Type 0} {A : Type 0} (result : Result X Y) → A → OnErr result A
on_err (Ok x) a = tt
on_err (Err y) a = a
