-- Which text is which line of a script. Assumes nothing.
use Rattle.std.specs.Prelude.{ℕ, Bool, true, false, cond, List, Some, None, Option, codes}
use Rattle.std.specs.Option.{option_and_then, option_map, unwrap_or}
use Rattle.lines.specs.Spelling.{spelled}
use Rattle.controller.specs.declared.carrier.Carrier.{Carrier}
use Rattle.controller.specs.declared.carrier.Carrier.TheVariants as carrier
use Rattle.controller.specs.declared.report.Report.{Report}
use Rattle.controller.specs.declared.report.Report.TheVariants as report
use Rattle.script.specs.declared.keyword.Keyword.{Keyword}
use Rattle.script.specs.declared.keyword.Keyword.TheVariants as word
use Rattle.script.specs.declared.said.Line.{Line}
use Rattle.script.specs.declared.said.Line.TheVariants as line
use Rattle.script.specs.Keywords.{keyword}
use Rattle.script.specs.Words.{behind_word, either, first_word, is_over, number}

-- what a line asks for: nothing; a new exchange at a level; a report; a request that comes with a carrier, settled or turned away;
-- a collection; or it is not understood
pub data Said : Type 0 where
  blank : Said
  not_understood : Said
  level : (size conferences : ℕ) (subscribed active : Bool) → Said
  reported : (what : Report) → Said
  request : (away : Bool) (by : Carrier) (octets : List ℕ) → Said
  collect : Said

-- a request whose octets are spelled; without octets it is not understood
abbrev pub asked : Bool → Carrier → Option (List ℕ) → Said
asked away by None = not_understood
asked away by (Some octets) = request away by octets

-- what a line of the code asks for
abbrev pub said : Line → Said
said line.Blank = blank
said line.NotUnderstood = not_understood
said (line.Level size conferences subscribed active) = level size conferences subscribed active
said (line.Reported what) = reported what
said (line.Request away by hex) = asked away by (spelled hex.now)
said line.Collect = collect

-- the next word is a number, and more behind it is said with it
abbrev pub with_number : {X : Type 0} → List ℕ → (ℕ → List ℕ → Option X) → Option X
with_number text more = option_and_then (λ n. more n (behind_word text)) (number (first_word text))

-- the next word is one of two
abbrev pub with_either : {X : Type 0} → List ℕ → List ℕ → List ℕ → (Bool → List ℕ → Option X) → Option X
with_either this that text more = option_and_then (λ b. more b (behind_word text)) (either this that (first_word text))

-- no word is left
abbrev pub at_end : {X : Type 0} → List ℕ → X → Option X
at_end text x = cond (is_over text) (Some x) None

-- SIZE CONFERENCES subscribed|unsubscribed active|idle
abbrev pub a_level : List ℕ → Option Said
a_level text =
    with_number text (λ size t1. with_number t1 (λ conferences t2. with_either (codes "subscribed") (codes "unsubscribed") t2 (λ subscribed t3.
    with_either (codes "active") (codes "idle") t3 (λ active t4. at_end t4 (level size conferences subscribed active)))))

-- REFERENCE LEG speech|other
abbrev pub an_answer : List ℕ → Option Report
an_answer text =
    with_number text (λ r t1. with_number t1 (λ leg t2. with_either (codes "speech") (codes "other") t2 (λ speech t3. at_end t3 (report.Answer r leg speech))))

-- a reference or a leg
abbrev pub only_number : List ℕ → Option ℕ
only_number text = with_number text (λ n rest. at_end rest n)

-- REFERENCE OCTETS
abbrev pub by_facility : Bool → List ℕ → Option Said
by_facility away text = with_number text (λ r hex. Some (asked away (carrier.Facility r) (spelled hex)))

-- REFERENCE speech|other OCTETS
abbrev pub by_setup : Bool → List ℕ → Option Said
by_setup away text =
    with_number text (λ r t1. with_either (codes "speech") (codes "other") t1 (λ speech hex. Some (asked away (carrier.Setup r speech) (spelled hex))))

-- facility .., or setup ..
abbrev pub by_carrier : Option Keyword → List ℕ → Option Said
by_carrier (Some word.Facility) text = by_facility true text
by_carrier (Some word.Setup) text = by_setup true text
by_carrier _ text = None

abbrev pub requested : List ℕ → Option Said
requested text = by_carrier (keyword (first_word text)) (behind_word text)

-- each kind of line, by its first word and what stands behind it
abbrev pub by_keyword : Keyword → List ℕ → Option Said
by_keyword word.Level text = a_level text
by_keyword word.Calling text = option_map (λ r. reported (report.Calling r)) (only_number text)
by_keyword word.Answer text = option_map (λ a. reported a) (an_answer text)
by_keyword word.Hold text = option_map (λ r. reported (report.Hold r)) (only_number text)
by_keyword word.Retrieve text = option_map (λ r. reported (report.Retrieve r)) (only_number text)
by_keyword word.Clearing text = option_map (λ leg. reported (report.RemoteClearing leg)) (only_number text)
by_keyword word.Disconnect text = option_map (λ r. reported (report.Disconnect r)) (only_number text)
by_keyword word.Released text = option_map (λ r. reported (report.Released r)) (only_number text)
by_keyword word.Facility text = by_facility false text
by_keyword word.Setup text = by_setup false text
by_keyword word.Away text = requested text
by_keyword word.Collect text = at_end text collect

-- a line by its first word and what stands behind it
abbrev pub by_word : List ℕ → List ℕ → Option Said
by_word word rest = option_and_then (λ k. by_keyword k rest) (keyword word)

-- a line without a word is blank; one of no kind is not understood
abbrev pub parsed : List ℕ → Said
parsed text = cond (is_over text) blank (unwrap_or (by_word (first_word text) (behind_word text)) not_understood)
