-- Tellings in order, one after another.
use Rattle.std.proofs.Common.{◌≡◌, ◌<◌, ℕ, ◌+◌, List, [], ◌∷◌, ◌++◌, length, take, get_or, sym, subst, ap, ◌∙◌}
use Rattle.std.proofs.lemmas.List.{append-nil, append_assoc, map-append, take_more}
use Rattle.line.specs.declared.notice.Notice.{Notice}
use Rattle.line.specs.declared.outbox.Outbox.{Outbox}
use Rattle.line.specs.Outboxes.{messages, notify, OutboxTells, waiting}
use Rattle.line.specs.Order.{Telling, TellsInOrder, nothing, then, to_each}

-- some tellings, and others behind them
pub order_append : {L : Type 0} {tells : L → ℕ → Notice → L → Type 0} {ts us : List Telling} {l l' l'' : L} → TellsInOrder tells ts l l' → TellsInOrder tells us l' l'' → TellsInOrder tells (ts ++ us) l l''
order_append {L} {tells} {ts} {l = l} a (nothing l') = subst (λ xs. TellsInOrder tells xs l l') (sym (append-nil ts)) a
order_append {L} {tells} {ts} {l = l} a (then us leg notice l' m l'' before last) =
    subst (λ xs. TellsInOrder tells xs l l'') (append_assoc ts us ((leg, notice) ∷ [])) (then (ts ++ us) leg notice l m l'' (order_append a before) last)

-- nothing told leaves the line as it was
pub order_nothing : {L : Type 0} {tells : L → ℕ → Notice → L → Type 0} {ts : List Telling} {l : L} → ts ≡ [] → TellsInOrder tells ts l l
order_nothing {L} {tells} {ts} {l} none = subst (λ xs. TellsInOrder tells xs l l) (sym none) (nothing l)

-- one telling
pub order_one : {L : Type 0} {tells : L → ℕ → Notice → L → Type 0} {leg : ℕ} {notice : Notice} {l l' : L} → tells l leg notice l' → TellsInOrder tells ((leg, notice) ∷ []) l l'
order_one {leg = leg} {notice = notice} {l} {l'} told = then [] leg notice l l l' (nothing l) told

-- one leg more of a list
pub order_more : {L : Type 0} {tells : L → ℕ → Notice → L → Type 0} {notice : Notice} (legs : List ℕ) (i : ℕ) {l l' l'' : L} → i < length legs → TellsInOrder tells (to_each notice (take i legs)) l l' → tells l' (get_or legs i 0) notice l'' → TellsInOrder tells (to_each notice (take (i + 1) legs)) l l''
order_more {L} {tells} {notice} legs i {l} {l'} {l''} within before last =
    subst (λ xs. TellsInOrder tells xs l l'') (sym (ap (to_each notice) (take_more legs i 0 within) ∙ map-append (λ leg. (leg, notice)) _ _)) (then _ _ _ _ _ _ before last)

-- what is told in order on an outbox waits there in order, behind what waited
pub waits_behind : {told : List Telling} {o o' : Outbox} → TellsInOrder OutboxTells told o o' → waiting o' ≡ waiting o ++ messages told
waits_behind (nothing o) = sym (append-nil (waiting o))
waits_behind (then told leg notice o o' o'' before last) =
    last ∙ ap (λ ms. ms ++ (notify leg notice ∷ [])) (waits_behind before) ∙ append_assoc (waiting o) (messages told) (notify leg notice ∷ [])
    ∙ ap (λ ms. waiting o ++ ms) (sym (map-append (λ t. notify t.0 t.1) told ((leg, notice) ∷ [])))
