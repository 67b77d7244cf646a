-- Calls and roster agree after a call changes.
use Rattle.std.proofs.Common.{refl, ◌≡◌, ℕ, ◌<◌, ◌≢◌, set, length, List, Option, ◌∙◌, sym, inl, inr, length-set, get_or-set_same, get_or-set_other}
use Rattle.std.proofs.lemmas.Bool.{cases_eq}
use Rattle.tables.specs.Calls.{absent}
use Rattle.tables.specs.declared.call.Call.{Call}
use Rattle.controller.specs.Steps.{leads_to_leg}
use Rattle.operator.specs.Roster.{Entry, is_on}
use Rattle.operator.proofs.Counts.{Changed, by_leg}
use Rattle.operator.proofs.Holding.{Calls, Led}

-- a call is another one, and the legs and the links fit it
pub calls_set : (ref : ℕ) (c : Call) (legs legs' : ℕ → Entry) (links links' : ℕ → Option ℕ) (cs : List Call) → ref < 128 → Calls legs links cs
    → ((k : ℕ) → leads_to_leg k c.state ≡ is_on ref (legs' k)) → ((k r : ℕ) → r ≢ ref → is_on r (legs' k) ≡ is_on r (legs k))
    → Led c.state (links' ref) → ((r : ℕ) → r ≢ ref → links' r ≡ links r)
    → Calls legs' links' (set cs ref c)
calls_set ref c legs legs' links links' cs lt calls here others led kept =
    let within : ref < length cs = rw (calls.long) lt in
    let at_ref = get_or-set_same cs ref c absent within in
    record {
      long = length-set cs ref c ∙ calls.long;
      led_to = λ k r. elim (cases_eq r ref) [
        | inl is ↦ rw (is, at_ref) (here k)
        | inr ne ↦ rw (get_or-set_other cs ref r c absent ne, others k r ne) (calls.led_to k r)
      ];
      led = λ r. elim (cases_eq r ref) [
        | inl is ↦ rw (is, at_ref) led
        | inr ne ↦ rw (get_or-set_other cs ref r c absent ne, kept r ne) (calls.led r)
      ];
    }

-- legs change, but none on a call
pub calls_same : (legs legs' : ℕ → Entry) (links : ℕ → Option ℕ) (cs : List Call) → Calls legs links cs → ((k r : ℕ) → is_on r (legs' k) ≡ is_on r (legs k)) → Calls legs' links cs
calls_same legs legs' links cs calls same = record {
  long = calls.long;
  led_to = λ k r. calls.led_to k r ∙ sym (same k r);
  led = calls.led;
}

-- a call is another one, and one leg's entry with it
pub calls_changed : {l : ℕ} {e : Entry} {legs legs' : ℕ → Entry} (ref : ℕ) (c : Call) (links links' : ℕ → Option ℕ) (cs : List Call) → ref < 128 → Calls legs links cs → Changed l e legs legs'
    → leads_to_leg l c.state ≡ is_on ref e → ((k : ℕ) → k ≢ l → leads_to_leg k c.state ≡ is_on ref (legs k)) → ((q : ℕ) → q ≢ ref → is_on q e ≡ is_on q (legs l))
    → Led c.state (links' ref) → ((r : ℕ) → r ≢ ref → links' r ≡ links r) → Calls legs' links' (set cs ref c)
calls_changed {l} {e} {legs} {legs'} ref c links links' cs lt calls ch here others kept led same =
    calls_set ref c legs legs' links links' cs lt calls (by_leg (λ k e. leads_to_leg k c.state ≡ is_on ref e) ch here others) (λ k q ne. by_leg (λ k e. is_on q e ≡ is_on q (legs k)) ch (kept q ne) (λ k ne. refl) k) led same
