-- Roster, table and standings go on fitting when a leg moves on a call.
use Rattle.std.proofs.Common.{◌≡◌, ℕ, ◌+◌, ◌<◌, ◌≢◌, Bool, true, false, cond, eqb, not, List, length, set, get_or, Some, None, Option, refl, ap, ◌∙◌, sym, inl, inr, arith}
use Rattle.std.proofs.lemmas.Bool.Decides.{nat_tests}
use Rattle.std.proofs.lemmas.Bool.{cases_Bool, ne_eqb, eq-eqb}
use Rattle.line.specs.Meaning.{Leg, Standings}
use Rattle.tables.specs.declared.call.Call.{Call}
use Rattle.tables.specs.declared.call.End.TheVariants as end
use Rattle.tables.specs.declared.call.State.{State}
use Rattle.tables.specs.declared.call.State.TheVariants.{Absent, Idle, Clearing}
use Rattle.tables.specs.Calls.{absent}
use Rattle.line.specs.Acts.{heard, notices_to}
use Rattle.line.specs.declared.notice.Notice.TheVariants.{OtherDisconnected}
use Rattle.tables.specs.declared.conference.Conference.{Conference}
use Rattle.tables.specs.declared.conference.Phase.{Phase}
use Rattle.tables.specs.Edits.{with_call, with_phase, in_phase, with_left, with_ended}
use Rattle.tables.specs.Table.{Table, call_at, parties_of}
use Rattle.controller.specs.Steps.{leads_to_leg, each, others}
use Rattle.operator.specs.Roster.{Entry, down, on, party, is_up, is_in, is_on, Roster, counted, placed, linked, struck}
use Rattle.operator.proofs.Calling.{calls_set, calls_changed, calls_same}
use Rattle.operator.proofs.Counts.{by_leg, one, Changed, ups_changed, count_both}
use Rattle.operator.proofs.Holding.{Kept, Led, Calls}
use Rattle.operator.proofs.Moves.{unmoved, placed as moved, remapped, left, ended}
use Rattle.operator.proofs.Looking.{parties_counted}
use Rattle.operator.proofs.Telling.{hears_others}

-- the roster with other entries
abbrev pub with_legs : (ℕ → Entry) → Roster → Roster
with_legs legs r = record { legs = legs; links = r.links; answered = r.answered; gone = r.gone }

-- an entry written at one leg, and entries written where a test holds, which is at one leg
pub placed_at : (l : ℕ) (e : Entry) (legs : ℕ → Entry) → Leg l → Changed l e legs (λ k. cond (eqb k l) e (legs k))
placed_at l e legs lt = record { leg = lt; here = rw (eq-eqb l l refl); others = λ k ne. rw (ne_eqb k l ne) }

-- an entry written where a test holds, which is at one leg
pub changed_at : (test : Entry → Bool) (new : ℕ → Entry → Entry) (l : ℕ) (legs : ℕ → Entry) → Leg l → test (legs l) ≡ true → ((k : ℕ) → k ≢ l → test (legs k) ≡ false)
    → Changed l (new l (legs l)) legs (λ k. cond (test (legs k)) (new k (legs k)) (legs k))
changed_at test new l legs lt here others = record { leg = lt; here = rw here; others = λ k ne. rw (others k ne) }

-- where a test holds nowhere nothing is written
pub changed_nowhere : (test : Entry → Bool) (new : ℕ → Entry → Entry) (legs : ℕ → Entry) → ((k : ℕ) → test (legs k) ≡ false) → (λ k. cond (test (legs k)) (new k (legs k)) (legs k)) ≡ legs
changed_nowhere test new legs none =
    let same : (k : ℕ) → cond (test (legs k)) (new k (legs k)) (legs k) ≡ legs k = λ k. rw (none k) in
    λ i k. same k i

-- a call leads to one leg
pub leads_once : (st : State) (k l : ℕ) → leads_to_leg k st ≡ true → leads_to_leg l st ≡ true → k ≡ l
leads_once st k l a b = grind (arith, nat_tests)

-- who is on a reference is there alone
pub alone_on : (legs : ℕ → Entry) (links : ℕ → Option ℕ) (cs : List Call) (l ref : ℕ) → Calls legs links cs → is_on ref (legs l) ≡ true → (k : ℕ) → k ≢ l → is_on ref (legs k) ≡ false
alone_on legs links cs l ref calls here k ne = elim (cases_Bool (is_on ref (legs k))) [
  | inl has ↦ absurd (ne (leads_once (get_or cs ref absent).state k l (calls.led_to k ref ∙ has) (calls.led_to l ref ∙ here)))
  | inr hasn't ↦ hasn't
]

-- no leg is counted, nor gone
pub counted_none : {r : Roster} {t : Table} {s : Standings} → Kept r t s → Kept (counted 0 0 r) t s
counted_none kept = record { holds = kept.holds; number = let n = kept.number in omega arith }

-- a step that tells nobody anything and changes no table
pub kept_same : {r : Roster} {t : Table} {s : Standings} (s' : Standings) → ((k : ℕ) → s' k ≡ s k) → Kept r t s → Kept r t s'
kept_same {r} {t} {s} s' same kept = record { holds = unmoved r.legs r.links t.calls t.calls t.conferences t.parties s s' kept.holds.calls_fit same kept.holds; number = kept.number }

-- a call changes, and no leg moves
pub kept_call : {r : Roster} {t : Table} {s : Standings} (s' : Standings) (ref : ℕ) (c : Call) → ref < 128 → ((k : ℕ) → leads_to_leg k c.state ≡ leads_to_leg k (call_at t ref).state) → Led c.state (r.links ref)
    → ((k : ℕ) → s' k ≡ s k) → Kept r t s → Kept r (with_call ref c t) s'
kept_call {r} {t} {s} s' ref c lt leads led same kept = record {
  holds = unmoved r.legs r.links t.calls (set t.calls ref c) t.conferences t.parties s s' fit same kept.holds;
  number = kept.number;
}
  where
    fit : Calls r.legs r.links (set t.calls ref c)
    fit = calls_set ref c r.legs r.legs r.links r.links t.calls lt kept.holds.calls_fit (λ k. leads k ∙ kept.holds.calls_fit.led_to k ref) (λ k q ne. refl) led (λ q ne. refl)

-- what is on a reference
on_is : (e : Entry) (ref : ℕ) → is_on ref e ≡ true → e ≡ on ref
on_is e ref is = grind (arith, nat_tests)

-- the leg that a call leads to is on its reference
pub leads_on : (legs : ℕ → Entry) (links : ℕ → Option ℕ) (cs : List Call) (l ref : ℕ) → Calls legs links cs → leads_to_leg l (get_or cs ref absent).state ≡ true → legs l ≡ on ref
leads_on legs links cs l ref calls leads = on_is (legs l) ref (sym (calls.led_to l ref) ∙ leads)

-- a leg that was down comes up on a call
pub kept_up : {r : Roster} {t : Table} {s : Standings} (s' : Standings) (l ref : ℕ) (c : Call) → ref < 128 → Leg l → r.legs l ≡ down → c.state ≡ Idle (end.Leg l) → r.links ref ≡ None
    → ((k : ℕ) → leads_to_leg k (call_at t ref).state ≡ false) → ((k : ℕ) → s' k ≡ s k) → Kept r t s → Kept (counted 0 0 (counted 1 0 (placed l (on ref) r))) (with_call ref c t) s'
kept_up {r} {t} {s} s' l ref c lt leg was state none leads same kept = record {
  holds = moved l (on ref) r.legs legs' r.links t.calls (set t.calls ref c) t.conferences t.parties s s' ch (rw was) refl (λ m. rw was) (λ m. refl) (λ m p. refl) tt fit same kept.holds;
  number = let n = kept.number in let count = rw was at (ups_changed ch) in omega arith;
}
  where
    legs' : ℕ → Entry
    legs' = λ k. cond (eqb k l) (on ref) (r.legs k)

    ch : Changed l (on ref) r.legs legs'
    ch = placed_at l (on ref) r.legs leg

    fit : Calls legs' r.links (set t.calls ref c)
    fit = calls_changed ref c r.links r.links t.calls lt kept.holds.calls_fit ch
        (rw state (eq-eqb l l refl ∙ sym (eq-eqb ref ref refl)))
        (λ k ne. rw state (ne_eqb l k (λ e. ne (sym e)) ∙ (sym (leads k) ∙ kept.holds.calls_fit.led_to k ref)))
        (λ q ne. rw was (ne_eqb ref q (λ e. ne (sym e))))
        (rw (state, none)) (λ q ne. refl)

-- a leg on a call goes down, and the call is clearing
pub kept_down : {r : Roster} {t : Table} {s : Standings} (s' : Standings) (l ref : ℕ) (c : Call) (legs' : ℕ → Entry) → ref < 128 → r.legs l ≡ on ref → Changed l down r.legs legs' → c.state ≡ Clearing
    → ((k : ℕ) → s' k ≡ s k) → Kept r t s → Kept (counted 0 1 (with_legs legs' r)) (with_call ref c t) s'
kept_down {r} {t} {s} s' l ref c legs' lt was ch state same kept = record {
  holds = moved l down r.legs legs' r.links t.calls (set t.calls ref c) t.conferences t.parties s s' ch (rw was) refl (λ m. rw was) (λ m. refl) (λ m p. refl) tt fit same kept.holds;
  number = let n = kept.number in let count = rw was at (ups_changed ch) in omega arith;
}
  where
    on_ref : is_on ref (r.legs l) ≡ true
    on_ref = rw was (eq-eqb ref ref refl)

    fit : Calls legs' r.links (set t.calls ref c)
    fit = calls_changed ref c r.links r.links t.calls lt kept.holds.calls_fit ch
        (rw state)
        (λ k ne. rw state (sym (alone_on r.legs r.links t.calls l ref kept.holds.calls_fit on_ref k ne)))
        (λ q ne. rw was (sym (ne_eqb ref q (λ e. ne (sym e)))))
        (rw state tt) (λ q ne. refl)

-- the phase of a conference changes
pub kept_phase : {r : Roster} {t : Table} {s : Standings} (id : ℕ) (phase : Phase) → Kept r t s → Kept r (with_phase id phase t) s
kept_phase {r} {t} {s} id phase kept = record {
  holds = remapped (in_phase id phase) r.legs r.links t.calls t.conferences t.parties s (λ c. id_kept c) (λ c. link_kept c) (λ c. size_kept c) kept.holds;
  number = kept.number;
}
  where
    id_kept : (c : Conference) → (in_phase id phase c).id ≡ c.id
    id_kept c = grind arith

    link_kept : (c : Conference) → (in_phase id phase c).link ≡ c.link
    link_kept c = grind arith

    size_kept : (c : Conference) → (in_phase id phase c).size ≡ c.size
    size_kept c = grind arith

-- a party goes down, and the others hear that it is disconnected
pub kept_gone : {r : Roster} {t : Table} {s : Standings} (s' : Standings) (l id p j : ℕ) (b : Bool) (legs' : ℕ → Entry) → r.legs l ≡ party id p j b → Changed l down r.legs legs'
    → ((k : ℕ) → s' k ≡ heard (notices_to k (each OtherDisconnected (others t id p))) (s k)) → Kept r t s → Kept (counted 0 1 (with_legs legs' r)) (with_left id p t) s'
kept_gone {r} {t} {s} s' l id p j b legs' was ch hears kept = record {
  holds = left l id p j b down OtherDisconnected r.legs legs' r.links t.calls t.calls t.conferences t.parties s s' ch was refl (λ c. refl) (λ c p. refl) tt fit (λ z. refl)
      (λ k ne. hears k ∙ ap (λ ns. heard ns (s k)) (hears_others r.legs t.parties kept.holds.parties_fit (λ q. not (eqb q.id p)) (λ q. eqb q.conference id) k OtherDisconnected)) kept.holds;
  number = let n = kept.number in let count = rw was at (ups_changed ch) in omega arith;
}
  where
    fit : Calls legs' r.links t.calls
    fit = calls_same r.legs legs' r.links t.calls kept.holds.calls_fit (λ k q. by_leg (λ k e. is_on q e ≡ is_on q (r.legs k)) ch (rw was) (λ k ne. refl) k)

-- a conference is released with its link, and all in it go down
pub kept_ended : {r : Roster} {t : Table} {s : Standings} (s' : Standings) (ref m : ℕ) (c : Call) → ref < 128 → r.links ref ≡ Some m → c.state ≡ Absent → ((k : ℕ) → leads_to_leg k (call_at t ref).state ≡ false)
    → ((k : ℕ) → s' k ≡ s k) → Kept r t s → Kept (counted 0 (length (parties_of t m)) (linked ref None (struck (is_in m) r))) (with_ended m (with_call ref c t)) s'
kept_ended {r} {t} {s} s' ref m c lt is state leads same kept = record {
  holds = ended m ref r.legs r.links t.calls (set t.calls ref c) t.conferences t.parties s s' is fit same kept.holds;
  number =
      let n = kept.number in
      let parties = parties_counted r.legs t.parties m kept.holds.ranged kept.holds.parties_fit in
      let count = count_both (λ k. is_up (cond (is_in m (r.legs k)) down (r.legs k))) (λ k. is_in m (r.legs k)) (λ k. is_up (r.legs k)) (λ k. up_or_in (r.legs k)) in
      omega arith;
}
  where
    up_or_in : (e : Entry) → one (is_up (cond (is_in m e) down e)) + one (is_in m e) ≡ one (is_up e)
    up_or_in e = grind arith

    on_kept : (q : ℕ) (e : Entry) → is_on q (cond (is_in m e) down e) ≡ is_on q e
    on_kept q e = grind arith

    fit : Calls (λ k. cond (is_in m (r.legs k)) down (r.legs k)) (λ q. cond (eqb q ref) None (r.links q)) (set t.calls ref c)
    fit = calls_set ref c r.legs (λ k. cond (is_in m (r.legs k)) down (r.legs k)) r.links (λ q. cond (eqb q ref) None (r.links q)) t.calls lt kept.holds.calls_fit
        (λ k. rw state (sym (on_kept ref (r.legs k) ∙ sym (kept.holds.calls_fit.led_to k ref) ∙ leads k)))
        (λ k q ne. on_kept q (r.legs k))
        (rw (state, eq-eqb ref ref refl) refl) (λ q ne. rw (ne_eqb q ref ne))
