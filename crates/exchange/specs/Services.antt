-- What steps do to an exchange, and its account. Assumes nothing.
use Rattle.std.specs.Prelude.{◌≡◌, ℕ, ◌+◌, ◌-◌, ◌^◌, min, Bool, cond, List, [], ◌++◌, Ok, Err, Result, codes, decimal}
use Rattle.std.specs.Bool.{MatchBool}
use Rattle.components.specs.declared.fault.Fault.{Fault}
use Rattle.facility.specs.Requests.{requesting}
use Rattle.facility.specs.Wording.{replied_text}
use Rattle.facility.specs.declared.request.RequestInvoke.{RequestInvoke}
use Rattle.line.specs.Meaning.{Same}
use Rattle.line.specs.Notices.{fresh}
use Rattle.line.specs.Outboxes.{outbox_room, outbox_standing, waiting}
use Rattle.tables.specs.declared.level.Level.{Level}
use Rattle.tables.specs.declared.refusal.Refusal.TheVariants.{OutOfRange}
use Rattle.listing.specs.Listing.{listing}
use Rattle.controller.specs.Judging.{reference_of}
use Rattle.controller.specs.Steps.{is_reference}
use Rattle.controller.specs.declared.carrier.Carrier.{Carrier}
use Rattle.operator.specs.Run.{Run, Taken}
use Rattle.operator.specs.Turns.{Answer, refused, turn, new_table}
use Rattle.operator.specs.Waits.{waits_after}
use Rattle.operator.specs.declared.steps.Step.{Step}
use Rattle.operator.specs.declared.steps.Step.TheVariants as step
use Rattle.exchange.specs.Answers.{answer_text}
use Rattle.exchange.specs.declared.service.Service.{Service}

-- a count goes up to the greatest number that its memory holds
abbrev pub one_more : ℕ → ℕ
one_more n = min (n + 1) (2 ^ 64 - 1)

-- how many steps were refused, with one that is answered now
abbrev pub refused_with : Answer → ℕ → ℕ
refused_with (refused why) n = one_more n
refused_with answer n = n

-- a step counts, and as refused if it is
pub record Counted (is_refused : ℕ → ℕ) (x x' : Service) : Type 0 where
  pub steps : x'.steps ≡ one_more x.steps
  pub refusals : x'.refused ≡ is_refused x.refused

-- a step that does nothing counts
pub record Passed (is_refused : ℕ → ℕ) (x x' : Service) : Type 0 where
  pub controller : x'.controller ≡ x.controller
  pub outbox : x'.outbox ≡ x.outbox
  pub counted : Counted is_refused x x'

-- the answer to a step in an exchange
abbrev pub answer_in : Service → Step → Answer
answer_in x step = (turn x.controller.level (outbox_room x.outbox) step x.controller.tables).answer

-- a step is taken on the controller and the outbox, and counts
pub record Stepped (step : Step) (x x' : Service) : Type 0 where
  pub taken : Taken x.controller.level step (answer_in x step) x.controller.tables x'.controller.tables (outbox_standing x.outbox) (outbox_standing x'.outbox) (outbox_room x.outbox) (outbox_room x'.outbox)
  -- what waits on the outbox then: what was told since the last collection, or since the start
  pub waits : waiting x'.outbox ≡ waits_after step (turn x.controller.level (outbox_room x.outbox) step x.controller.tables).effect (waiting x.outbox)
  pub level : x'.controller.level ≡ x.controller.level
  pub counted : Counted (refused_with (answer_in x step)) x x'

-- the step that a request is, settled or turned away
abbrev pub request_step : Bool → Carrier → RequestInvoke → Step
request_step away by asked = cond away (step.TurnedAway by asked) (step.Settled by asked)

-- octets that make a request are its step; others do nothing
abbrev pub ReadAs : Bool → Carrier → Result RequestInvoke Fault → Service → Service → Type 0
ReadAs away by (Ok asked) x x' = Stepped (request_step away by asked) x x'
ReadAs away by (Err fault) x x' = Passed (λ n. n) x x'

-- a reference out of range is refused before the octets are read
abbrev pub Requested : Bool → Carrier → List ℕ → Service → Service → Type 0
Requested away by octets x x' = MatchBool (is_reference (reference_of by)) (ReadAs away by (requesting octets) x x') (Passed one_more x x')

-- the answer to a request: that to its step, or the fault of its octets
abbrev pub read_text : Service → Bool → Carrier → Result RequestInvoke Fault → List ℕ
read_text x away by (Ok asked) = answer_text (answer_in x (request_step away by asked))
read_text x away by (Err fault) = replied_text fault

abbrev pub request_text : Service → Bool → Carrier → List ℕ → List ℕ
request_text x away by octets = cond (is_reference (reference_of by)) (read_text x away by (requesting octets)) (answer_text (refused OutOfRange))

-- a new exchange: a new controller, a line on which nobody has heard anything and nothing waits, and no steps
pub record New (level : Level) (x : Service) : Type 0 where
  pub at : x.controller.level ≡ level
  pub tables : x.controller.tables ≡ new_table
  pub waits : waiting x.outbox ≡ []
  pub heard : Same (λ k. fresh) (outbox_standing x.outbox)
  pub run : Run level [] x.controller.tables (outbox_standing x.outbox) (outbox_room x.outbox)
  pub steps : x.steps ≡ 0
  pub refused : x.refused ≡ 0

-- the account: the conferences and what their parties have heard, the steps, and how many of them were refused
abbrev pub account : Service → List ℕ
account x =
    listing x.controller.tables (outbox_standing x.outbox)
    ++ (codes "steps " ++ (decimal x.steps ++ (codes " refused " ++ decimal x.refused)))
