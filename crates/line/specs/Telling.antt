-- Telling one notice to a list of legs. Assumes nothing.
use Rattle.std.specs.Fn.{iterate}
use Rattle.std.specs.Prelude.{◌≡◌, ℕ, All, Contains, ◌+◌, ◌<◌, ◌≤◌, List, count_by, length, Ok, Err, Result, ◌==◌}
use Rattle.line.specs.declared.meaning.Refusal.{Refusal}
use Rattle.line.specs.declared.meaning.Refusal.TheVariants.{NoSuchLeg, NoRoom}
use Rattle.line.specs.declared.notice.Notice.{Notice}
use Rattle.line.specs.declared.standing.Standing.{Standing}
use Rattle.line.specs.Meaning.{Leg, Standings, Same}
use Rattle.line.specs.Notices.{after}

-- how many times a leg stands in a list
abbrev pub times : ℕ → List ℕ → ℕ
times k legs = count_by (λ leg. k == leg) legs

-- no leg stands in the list twice
abbrev pub Distinct : List ℕ → Type 0
Distinct legs = (k : ℕ) → times k legs ≤ 1

-- the standing once a notice is heard so many times
abbrev pub repeated : ℕ → Notice → Standing → Standing
repeated n notice s = iterate (after notice) n s

-- all told: each leg hears the notice as many times as it stands in the list
pub record EachDone (legs : List ℕ) (notice : Notice) (s s' : Standings) (room room' : ℕ) : Type 0 where
  pub in_range : All Leg legs
  pub had_room : length legs ≤ room
  pub heard : (k : ℕ) → s' k ≡ repeated (times k legs) notice (s k)
  pub falls : room' ≤ room
  pub by_length : room ≤ room' + length legs

-- what telling a list answers and leaves: a number that is no leg is refused first, then a room of less than the list's
-- length, changing nothing
abbrev pub TellsEach : List ℕ → Notice → Standings → Standings → ℕ → ℕ → Result Unit Refusal → Type 0
TellsEach legs notice s s' room room' (Ok _) = EachDone legs notice s s' room room'
TellsEach legs notice s s' room room' (Err NoSuchLeg) = (All Leg legs → ⊥) × Same s s' × (room' ≡ room)
TellsEach legs notice s s' room room' (Err NoRoom) = All Leg legs × (room < length legs) × Same s s' × (room' ≡ room)

-- each leg in the list hears the notice exactly once, and no other leg anything
pub record Once (legs : List ℕ) (notice : Notice) (s s' : Standings) : Type 0 where
  pub listed : (k : ℕ) → Contains legs k → s' k ≡ after notice (s k)
  pub unlisted : (k : ℕ) → (Contains legs k → ⊥) → s' k ≡ s k

-- so it is where all were told and no leg stands in the list twice
abbrev pub OnceEach : List ℕ → Notice → Standings → Standings → Result Unit Refusal → Type 0
OnceEach legs notice s s' (Ok _) = Distinct legs → Once legs notice s s'
OnceEach legs notice s s' (Err _) = Unit {0}
