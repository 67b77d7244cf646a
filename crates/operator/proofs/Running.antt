-- The company law holds along every history.
use Rattle.std.proofs.Common.{◌≡◌, ℕ, ◌+◌, ◌<◌, ◌≤◌, Bool, true, false, cond, List, [], ◌∷◌, ◌++◌, ap, map, subst, get_or, length, take, replicate, refl, ◌∙◌, sym, inl, inr, arith}
use Rattle.std.proofs.lemmas.Bool.{cases_lt, true≢false}
use Rattle.std.proofs.lemmas.List.{get_or-replicate, get_or_past}
use Rattle.std.proofs.lemmas.List.Sums.{fold_push}
use Rattle.std.proofs.lemmas.List.{map-append, take_more}
use Rattle.facility.specs.declared.request.RequestInvoke.{RequestInvoke}
use Rattle.line.specs.declared.notice.Notice.{Notice}
use Rattle.line.specs.Meaning.{Same, Standings}
use Rattle.tables.specs.declared.level.Level.{Level}
use Rattle.tables.specs.Calls.{absent}
use Rattle.tables.specs.Table.{Table}
use Rattle.controller.specs.declared.carrier.Carrier.{Carrier}
use Rattle.controller.specs.Judging.{reference_of}
use Rattle.controller.specs.Replies.{settled, turned_away}
use Rattle.controller.specs.Steps.{is_reference}
use Rattle.controller.specs.Telling.{Heard}
use Rattle.operator.specs.declared.answer.Answer.{Answer as Given}
use Rattle.operator.specs.declared.steps.Step.{Step}
use Rattle.operator.specs.declared.steps.Step.TheVariants as step
use Rattle.operator.specs.Answers.{in_octets}
use Rattle.operator.specs.Company.{Company}
use Rattle.operator.specs.Roster.{down, is_up, Roster, empty, written}
use Rattle.operator.specs.OnLine.{collected, then, TakesAll}
use Rattle.operator.specs.Run.{Run, start, next, Turned, roster_after, GoesOn, Taken}
use Rattle.tables.specs.declared.refusal.Refusal.TheVariants.{OutOfRange}
use Rattle.operator.specs.Turns.{Answer, DoesOnLine, RoomAfter, refused, replied, turn, new_table, reply_turn, refusal}
use Rattle.operator.proofs.Counts.{count_none}
use Rattle.operator.proofs.Holding.{Kept}
use Rattle.operator.proofs.Keeping.{kept_same, counted_none}
use Rattle.operator.proofs.Law.{company}
use Rattle.operator.proofs.Reporting.{report_kept, reference_below}
use Rattle.operator.proofs.Requesting.{settled_kept}

-- new tables fit the empty roster, whatever the line's standings
new_call : (ref : ℕ) → get_or new_table.calls ref absent ≡ absent
new_call ref = elim (cases_lt ref 128) [
  | inl lt ↦ get_or-replicate 128 ref absent absent lt
  | inr past ↦ get_or_past (replicate 128 absent) ref absent past
]

-- so they fit, whatever the standings are
pub kept_new : (s : Standings) → Kept empty new_table s
kept_new s = record {
  holds = record {
    ranged = λ k up. absurd (true≢false (sym up));
    one_leg_each = λ k l c p is is'. absurd (true≢false (sym is));
    calls_fit = record {
      long = refl;
      led_to = λ k ref. rw (new_call ref);
      led = λ ref. rw (new_call ref) refl;
    };
    parties_fit = λ k. refl;
    linked = λ ref. refl;
    once = λ q q' c is is'. cc;
    housed = λ k c is. absurd (true≢false (sym is));
    sized = λ c is. absurd is;
    told = λ k. tt;
  };
  number = let none = count_none (λ k. is_up down) (λ k. refl) in omega arith;
}

-- whatever is done, the company is kept
settled_turn : (r : Roster) (t : Table) (s s' : Standings) (level : Level) (room : ℕ) (carrier : Carrier) (asked : RequestInvoke) (b : Bool) → is_reference (reference_of carrier) ≡ b → Kept r t s
    → (let x = cond b (reply_turn (settled level room carrier asked t)) (refusal OutOfRange t) in Heard x.effect.told s s' → Kept (written (step.Settled carrier asked) x.answer r) x.effect.table s')
settled_turn r t s s' level room carrier asked true is kept = settled_kept r t s s' level room carrier asked (reference_below (reference_of carrier) is) kept
settled_turn r t s s' level room carrier asked false is kept = λ heard. counted_none (kept_same s' heard kept)

-- a request turned away
away_turn : (r : Roster) (t : Table) (s s' : Standings) (carrier : Carrier) (asked : RequestInvoke) (b : Bool) → Kept r t s
    → Heard [] s s' → Kept (written (step.TurnedAway carrier asked) (cond b (replied (turned_away asked) 0) (refused OutOfRange)) r) t s'
away_turn r t s s' carrier asked true kept = λ heard. counted_none (kept_same s' heard kept)
away_turn r t s s' carrier asked false kept = λ heard. counted_none (kept_same s' heard kept)

-- any step at all
pub turn_kept : (r : Roster) (t : Table) (s s' : Standings) (level : Level) (room : ℕ) (st : Step) → Kept r t s → Heard (turn level room st t).effect.told s s' → Kept (written st (turn level room st t).answer r) (turn level room st t).effect.table s'
turn_kept r t s s' level room (step.Reported rep) kept = report_kept r t s s' room rep kept
turn_kept r t s s' level room (step.Settled carrier asked) kept = settled_turn r t s s' level room carrier asked (is_reference (reference_of carrier)) refl kept
turn_kept r t s s' level room (step.TurnedAway carrier asked) kept = away_turn r t s s' carrier asked (is_reference (reference_of carrier)) kept
turn_kept r t s s' level room step.Collected kept = λ heard. counted_none (kept_same s' heard kept)

-- the roster after one turn more
roster_next : (h : List Turned) (turned : Turned) → roster_after (h ++ (turned ∷ [])) ≡ written turned.0 turned.1 (roster_after h)
roster_next h turned = fold_push (λ r turned. written turned.0 turned.1 r) empty h turned

-- after any history, what holds holds
pub run_kept : {level : Level} {h : List Turned} {t : Table} {s : Standings} {room : ℕ} → Run level h t s room → Kept (roster_after h) t s
run_kept (start s room roomy) = kept_new s
run_kept {level} (next h t s s' room room' st run heard after) =
    let kept = turn_kept (roster_after h) t s s' level room st (run_kept run) heard in
    subst (λ r. Kept r (turn level room st t).effect.table s') (sym (roster_next h (st, (turn level room st t).answer))) kept

-- the company law, after any history
pub company_holds : {level : Level} {h : List Turned} {t : Table} {s : Standings} {room : ℕ} → Run level h t s room → Company (roster_after h) t s
company_holds run = company _ _ _ (run_kept run)

-- a step carries on whatever history led to where it began
pub goes_on : {level : Level} {st : Step} {t : Table} {s s' : Standings} {room room' : ℕ} → Heard (turn level room st t).effect.told s s' → RoomAfter st (turn level room st t).effect room room'
    → GoesOn level st (turn level room st t).answer t (turn level room st t).effect.table s s' room room'
goes_on {level} {st} {t} {s} {s'} {room} {room'} heard after = record {
  run = λ h run. next h t s s' room room' st run heard after;
  law = λ h run. company_holds (next h t s s' room room' st run heard after);
}

-- a history starts with new tables and room for 64
pub starts : {level : Level} {t : Table} {s : Standings} {room : ℕ} → t ≡ new_table → 64 ≤ room → Run level [] t s room
starts {level} {t} {s} {room} new roomy = rw new (start s room roomy)

-- and the company law holds there
pub company_new : {t : Table} {s : Standings} → t ≡ new_table → Company empty t s
company_new {t} {s} new = rw new (company _ _ _ (kept_new s))

-- a step that is taken carries on whatever history led to where it began
pub taken_goes_on : {level : Level} {st : Step} {answer : Answer} {t t' : Table} {s s' : Standings} {room room' : ℕ} → Taken level st answer t t' s s' room room' → GoesOn level st answer t t' s s' room room'
taken_goes_on {level} {st} {answer} {t} {t'} {s} {s'} {room} {room'} taken = rw (taken.answered, taken.table) (goes_on taken.heard taken.roomy)

-- an answer put behind others
pub put_behind : (before : List Given) (answer : Given) → map in_octets (before ++ (answer ∷ [])) ≡ map in_octets before ++ (in_octets answer ∷ [])
put_behind before answer = map-append in_octets before (answer ∷ [])

-- where a call that takes steps has come: it keeps a history of them, by which the law holds
pub record Reached {L : Type 0} (standing : L → Standings) (room : L → ℕ) (tells : L → ℕ → Notice → L → Type 0) (collects : L → L → Type 0) (level : Level) (steps : List Step) (answers : List Answer) (entry : L) (t : Table) (l : L) : Type 0 where
  pub all : TakesAll standing room tells collects level steps answers entry t l
  pub history : Run level all.history t (standing l) (room l)

module _ {L : Type 0} {standing : L → Standings} {room : L → ℕ} {tells : L → ℕ → Notice → L → Type 0} {collects : L → L → Type 0} where
  -- nothing taken, on a new controller and a collected line
  pub reached_none : {level : Level} {entry : L} {t : Table} {l : L} → t ≡ new_table → collects entry l → Same (standing entry) (standing l) → Run level [] t (standing l) (room l)
      → Reached standing room tells collects level [] [] entry t l
  reached_none {level} {entry} {t} {l} new does kept run = subst (λ x. Reached standing room tells collects level [] [] entry x l) (sym new) (record {
    all = record { history = []; taken = refl; answered = refl; run = collected l does kept; leads = subst (λ x. Run level [] x (standing l) (room l)) new run; law = company_new refl };
    history = subst (λ x. Run level [] x (standing l) (room l)) new run;
  })

  -- and one step more
  pub reached_more : {level level' : Level} {steps : List Step} {answers : List Answer} {st : Step} {answer : Answer} {entry : L} {t t' : Table} {l l' : L} → level' ≡ level
      → Reached standing room tells collects level steps answers entry t l → Taken level' st answer t t' (standing l) (standing l') (room l) (room l') → DoesOnLine tells collects st (turn level' (room l) st t).effect l l'
      → Reached standing room tells collects level (steps ++ (st ∷ [])) (answers ++ (answer ∷ [])) entry t' l'
  reached_more {level} {level'} {steps} {answers} {st} {answer} {entry} {t} {t'} {l} {l'} same reached taken does =
      subst (λ x. Reached standing room tells collects level (steps ++ (st ∷ [])) (answers ++ (x ∷ [])) entry t' l') (sym answered) here
    where
      answered : answer ≡ (turn level (room l) st t).answer
      answered = taken.answered ∙ ap (λ v. (turn v (room l) st t).answer) same

      told_so : Heard (turn level (room l) st t).effect.told (standing l) (standing l')
      told_so = subst (λ v. Heard (turn v (room l) st t).effect.told (standing l) (standing l')) same taken.heard

      roomy_so : RoomAfter st (turn level (room l) st t).effect (room l) (room l')
      roomy_so = subst (λ v. RoomAfter st (turn v (room l) st t).effect (room l) (room l')) same taken.roomy

      on : GoesOn level st (turn level (room l) st t).answer t (turn level (room l) st t).effect.table (standing l) (standing l') (room l) (room l')
      on = goes_on (subst (λ v. Heard (turn v (room l) st t).effect.told (standing l) (standing l')) same taken.heard) (subst (λ v. RoomAfter st (turn v (room l) st t).effect (room l) (room l')) same taken.roomy)

      here : Reached standing room tells collects level (steps ++ (st ∷ [])) (answers ++ ((turn level (room l) st t).answer ∷ [])) entry t' l'
      here = subst (λ x. Reached standing room tells collects level (steps ++ (st ∷ [])) (answers ++ ((turn level (room l) st t).answer ∷ [])) entry x l') (sym (taken.table ∙ ap (λ v. (turn v (room l) st t).effect.table) same)) (record {
        all = record {
          history = reached.all.history ++ ((st, (turn level (room l) st t).answer) ∷ []);
          taken = simp map-append (ap (λ xs. xs ++ (st ∷ [])) reached.all.taken);
          answered = simp map-append (ap (λ xs. xs ++ ((turn level (room l) st t).answer ∷ [])) reached.all.answered);
          run = then reached.all.history t l l' st reached.all.run (subst (λ v. DoesOnLine tells collects st (turn v (room l) st t).effect l l') same does) told_so roomy_so;
          leads = on.run reached.all.history reached.history;
          law = (reached.all.law, on.law reached.all.history reached.history);
        };
        history = on.run reached.all.history reached.history;
      })

  -- one step more of a list
  pub reached_next : {level level' : Level} (steps : List Step) (i : ℕ) (d : Step) {answers : List Answer} {answer : Answer} {entry : L} {t t' : Table} {l l' : L} → i < length steps → level' ≡ level
      → Reached standing room tells collects level (take i steps) answers entry t l → Taken level' (get_or steps i d) answer t t' (standing l) (standing l') (room l) (room l') → DoesOnLine tells collects (get_or steps i d) (turn level' (room l) (get_or steps i d) t).effect l l'
      → Reached standing room tells collects level (take (i + 1) steps) (answers ++ (answer ∷ [])) entry t' l'
  reached_next {level} {level'} steps i d {answers} {answer} {entry} {t} {t'} {l} {l'} within same reached taken does =
      subst (λ xs. Reached standing room tells collects level xs (answers ++ (answer ∷ [])) entry t' l') (sym (take_more steps i d within)) (reached_more same reached taken does)
