-- The standings that tellings lead to: each leg's is what the notices told to it alone give.
use Rattle.std.proofs.Common.{◌≡◌, ℕ, ◌<◌, List, [], ◌∷◌, ◌++◌, Ok, Err, Result, refl, sym, ap, inl, inr, ◌∙◌, lit<, arith, true, false, length, ◌≤◌}
use Rattle.std.proofs.lemmas.Bool.Decides.{eqb_tells, nat_tests}
use Rattle.std.proofs.lemmas.List.Elements.{filter-append}
use Rattle.std.proofs.lemmas.List.Sums.{fold-append}
use Rattle.std.proofs.lemmas.List.{length-map, append-nil, map-append}
use Rattle.line.specs.declared.acts.Act.{Act}
use Rattle.line.specs.declared.acts.Act.TheVariants.{Tell, Collect}
use Rattle.line.specs.declared.acts.BothLines.{BothLines}
use Rattle.line.specs.declared.meaning.Refusal.{Refusal}
use Rattle.line.specs.declared.meaning.Refusal.TheVariants.{NoSuchLeg, NoRoom}
use Rattle.line.specs.declared.notice.Notice.{Notice}
use Rattle.line.specs.declared.outbox.Outbox.{Outbox}
use Rattle.line.specs.Acts.{fits, taken_in, all_taken_in, Alone, CarriedOut, DoesAct, told, since, Run, new, next, GoesOn, Both, BothGoOn, NewLines}
use Rattle.line.specs.Boards.{board_standing}
use Rattle.line.specs.Meaning.{Leg, Standings, Same, Hears}
use Rattle.line.specs.Notices.{after}
use Rattle.line.specs.Order.{Telling}
use Rattle.line.specs.Outboxes.{messages, notify, outbox_standing, outbox_room, OutboxCollects, OutboxTells, waiting}

-- a telling that is done adds itself to the tellings that led to the standings
alone_told : (leg : ℕ) (n : Notice) (s s' : Standings) (ts : List Telling) → Hears leg n s s' → Alone ts s → Alone (ts ++ ((leg, n) ∷ [])) s'
alone_told leg n s s' ts h so k = simp (filter-append, map-append, fold-append) (elim (eqb_tells k leg) [ inl w ↦ simp w.0 (rw w.1 (h.here ∙ ap (after n) (so leg))) | inr w ↦ simp w.0 (h.others k w.1 ∙ so k) ])

-- where nobody hears anything, the same tellings led to the standings
alone_same : (s s' : Standings) (ts : List Telling) → Same s s' → Alone ts s → Alone (ts ++ []) s'
alone_same s s' ts same so k = simp append-nil (same k ∙ so k)

-- an act leaves the standings that its telling, if any, adds
alone_on : (act : Act) (s s' : Standings) (room room' : ℕ) (r : Result Unit Refusal) → CarriedOut act s s' room room' r → (ts : List Telling) → Alone ts s → Alone (ts ++ told act r) s'
alone_on (Tell leg n) s s' room room' (Ok _) done ts so = alone_told leg n s s' ts done.heard so
alone_on (Tell leg n) s s' room room' (Err NoSuchLeg) done ts so = alone_same s s' ts done.1 so
alone_on (Tell leg n) s s' room room' (Err NoRoom) done ts so = alone_same s s' ts done.2 so
alone_on Collect s s' room room' (Ok _) done ts so = alone_same s s' ts done.kept so
alone_on Collect s s' room room' (Err _) done ts so = absurd done

-- whatever was done on a line since it was new, each leg's standing is what the notices told to it alone give
pub run_alone : {acts : List Act} {ts ws : List Telling} {s : Standings} {room : ℕ} → Run acts ts ws s room → Alone ts s
run_alone (new s room unheard roomy) = unheard
run_alone (next acts ts ws act r s s' room room' run done) = alone_on act s s' room room' r done ts (run_alone run)

-- an act carries on whatever run led to the line
pub goes_on : {act : Act} {r : Result Unit Refusal} {s s' : Standings} {room room' : ℕ} → CarriedOut act s s' room room' r → GoesOn act r s s' room room'
goes_on {act} {r} {s} {s'} {room} {room'} done = record {
  run = λ acts ts ws so_far. next acts ts ws act r s s' room room' so_far done;
  alone = λ acts ts ws so_far. alone_on act s s' room room' r done ts (run_alone so_far);
}

-- what one line does not refuse, another with room does not either
taken_too : (act : Act) (r : Result Unit Refusal) (s s' s₂ s₂' : Standings) (room room' room₂ room₂' : ℕ) → CarriedOut act s s' room room' (Ok tt) → 0 < room₂ → CarriedOut act s₂ s₂' room₂ room₂' r → told act r ≡ told act (Ok tt)
taken_too Collect r s s' s₂ s₂' room room' room₂ room₂' done some done₂ = refl
taken_too (Tell leg n) (Ok _) s s' s₂ s₂' room room' room₂ room₂' done some done₂ = refl
taken_too (Tell leg n) (Err NoSuchLeg) s s' s₂ s₂' room room' room₂ room₂' done some done₂ = absurd (done₂.0 done.in_range)
taken_too (Tell leg n) (Err NoRoom) s s' s₂ s₂' room room' room₂ room₂' done some done₂ = absurd (omega (arith, done₂.1))

-- what is refused tells nothing
refused_nothing : (act : Act) (e : Refusal) → told act (Err e) ≡ []
refused_nothing Collect e = refl
refused_nothing (Tell leg n) e = refl

-- what was told since the last collection waits still, with an act more
waits_on : (act : Act) (r : Result Unit Refusal) (o o' : Outbox) (ws : List Telling) → DoesAct OutboxTells OutboxCollects act o o' r → waiting o ≡ messages ws → waiting o' ≡ messages (since act r ws)
waits_on (Tell leg n) (Ok _) o o' ws does was = does ∙ rw was (sym (map-append (λ t. notify t.0 t.1) ws ((leg, n) ∷ [])))
waits_on (Tell leg n) (Err e) o o' ws does was = rw (does, append-nil ws) was
waits_on Collect r o o' ws does was = does.handed_over

-- as many wait as were told since
as_many : (o : Outbox) (ws : List Telling) → waiting o ≡ messages ws → length (waiting o) ≡ length ws
as_many o ws was = ap length was ∙ length-map ws (λ t. notify t.0 t.1)

fits_in : (leg : ℕ) (ws : List Telling) → Leg leg → length ws < 128 → fits leg ws ≡ true
fits_in leg ws there some = grind (arith, nat_tests, there.least, there.most, some)

no_fit : (leg : ℕ) (ws : List Telling) → (1 ≤ leg → leg ≤ 64 → length ws < 128 → ⊥) → fits leg ws ≡ false
no_fit leg ws not_so = grind (arith, nat_tests, not_so)

-- an outbox takes in just what fits
takes_in : (act : Act) (r : Result Unit Refusal) (o o' : Outbox) (ts ws : List Telling) → CarriedOut act (outbox_standing o) (outbox_standing o') (outbox_room o) (outbox_room o') r → waiting o ≡ messages ws → taken_in (ts, ws) act ≡ (ts ++ told act r, since act r ws)
takes_in Collect r o o' ts ws done was = simp append-nil refl
takes_in (Tell leg n) (Ok _) o o' ts ws done was = rw (fits_in leg ws done.in_range (omega (arith, done.had_room, as_many o ws was))) refl
takes_in (Tell leg n) (Err NoSuchLeg) o o' ts ws done was = simp (append-nil) (rw (no_fit leg ws (λ a b c. done.0 (record { least = a; most = b }))) refl)
takes_in (Tell leg n) (Err NoRoom) o o' ts ws done was = simp (append-nil) (rw (no_fit leg ws (λ a b c. absurd (omega (arith, c, done.1, as_many o ws was)))) refl)

just_so : (acts : List Act) (act : Act) (r : Result Unit Refusal) (o o' : Outbox) (ts ws : List Telling) → CarriedOut act (outbox_standing o) (outbox_standing o') (outbox_room o) (outbox_room o') r → waiting o ≡ messages ws → all_taken_in acts ≡ (ts, ws) → all_taken_in (acts ++ (act ∷ [])) ≡ (ts ++ told act r, since act r ws)
just_so acts act r o o' ts ws done was so = simp (fold-append) (ap (λ x. taken_in x act) so ∙ takes_in act r o o' ts ws done was)

-- an act that the outbox does not refuse was then done on both
pub both_told : (act : Act) (r : Result Unit Refusal) {lines lines' : BothLines} → DoesAct OutboxTells OutboxCollects act lines.outbox lines'.outbox (Ok tt) → CarriedOut act (outbox_standing lines.outbox) (outbox_standing lines'.outbox) (outbox_room lines.outbox) (outbox_room lines'.outbox) (Ok tt) → CarriedOut act (board_standing lines.board) (board_standing lines'.board) 128 128 r → BothGoOn act lines lines'
both_told act r {lines} {lines'} does outbox board = λ acts both. record {
  taken = both.taken ++ (act ∷ []);
  ts = both.ts ++ told act (Ok tt);
  ws = since act (Ok tt) both.ws;
  just = just_so acts act (Ok tt) lines.outbox lines'.outbox both.ts both.ws outbox both.waits both.just;
  outbox = (goes_on outbox).run acts both.ts both.ws both.outbox;
  waits = waits_on act (Ok tt) lines.outbox lines'.outbox both.ws does both.waits;
  since_then = since act r both.since_then;
  board = rw (← taken_too act r _ _ _ _ _ _ _ _ outbox (lit< tt) board) ((goes_on board).run both.taken both.ts both.since_then both.board);
}

-- one that it refuses was done on the outbox alone, and told nothing
pub both_refused : (act : Act) (e : Refusal) {lines lines' : BothLines} → DoesAct OutboxTells OutboxCollects act lines.outbox lines'.outbox (Err e) → CarriedOut act (outbox_standing lines.outbox) (outbox_standing lines'.outbox) (outbox_room lines.outbox) (outbox_room lines'.outbox) (Err e) → lines'.board ≡ lines.board → BothGoOn act lines lines'
both_refused act e {lines} {lines'} does outbox same = λ acts both. record {
  taken = both.taken;
  ts = both.ts;
  ws = since act (Err e) both.ws;
  just = simp (refused_nothing act e, append-nil) at (just_so acts act (Err e) lines.outbox lines'.outbox both.ts both.ws outbox both.waits both.just);
  outbox = simp (refused_nothing act e, append-nil) at ((goes_on outbox).run acts both.ts both.ws both.outbox);
  waits = waits_on act (Err e) lines.outbox lines'.outbox both.ws does both.waits;
  since_then = both.since_then;
  board = rw same both.board;
}

-- so it is on both lines, and told the same they are alike
pub new_lines : {acts : List Act} {lines : BothLines} → Both acts lines → NewLines acts lines
new_lines both = record {
  done = both;
  outbox = run_alone both.outbox;
  board = run_alone both.board;
  alike = λ k. run_alone both.board k ∙ sym (run_alone both.outbox k);
}
