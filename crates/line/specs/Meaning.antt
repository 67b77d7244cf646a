-- What a line means: a standing for each leg, and a room. Assumes nothing.
use Rattle.std.specs.Prelude.{◌≡◌, ℕ, ◌+◌, ◌<◌, ◌≤◌, Ok, Err, Result, ◌≢◌}
use Rattle.line.specs.declared.meaning.Refusal.{Refusal}
use Rattle.line.specs.declared.meaning.Refusal.TheVariants.{NoSuchLeg, NoRoom}
use Rattle.line.specs.declared.notice.Notice.{Notice}
use Rattle.line.specs.declared.standing.Standing.{Standing}
use Rattle.line.specs.Notices.{after}

-- a leg is 1 to 64
pub record Leg (k : ℕ) : Type 0 where
  pub least : 1 ≤ k
  pub most : k ≤ 64

-- the standing of each leg, by its number
abbrev pub Standings : Type 0
Standings = ℕ → Standing

-- every leg has heard what it had heard
abbrev pub Same : Standings → Standings → Type 0
Same s s' = (k : ℕ) → s' k ≡ s k

-- one leg hears a notice, and no other leg anything
pub record Hears (leg : ℕ) (notice : Notice) (s s' : Standings) : Type 0 where
  pub here : s' leg ≡ after notice (s leg)
  pub others : (k : ℕ) → (k ≢ leg) → s' k ≡ s k

-- a telling done: the room falls by at most one, and may stay
pub record Done (leg : ℕ) (notice : Notice) (s s' : Standings) (room room' : ℕ) : Type 0 where
  pub in_range : Leg leg
  pub had_room : 0 < room
  pub heard : Hears leg notice s s'
  pub falls : room' ≤ room
  pub by_one : room ≤ room' + 1

-- what a telling answers and leaves: a leg out of range is refused first, then a line without room, changing nothing.
-- The standings and rooms stay four arguments: each line gives the two apart, and a record would be built only to be opened
abbrev pub Tells : ℕ → Notice → Standings → Standings → ℕ → ℕ → Result Unit Refusal → Type 0
Tells leg notice s s' room room' (Ok _) = Done leg notice s s' room room'
Tells leg notice s s' room room' (Err NoSuchLeg) = (Leg leg → ⊥) × Same s s' × (room' ≡ room)
Tells leg notice s s' room room' (Err NoRoom) = Leg leg × (room ≡ 0) × Same s s' × (room' ≡ room)

-- the answer to a question for a leg's standing
abbrev pub Answers : ℕ → Standings → Result Standing Refusal → Type 0
Answers leg s (Ok standing) = Leg leg × (standing ≡ s leg)
Answers leg s (Err NoSuchLeg) = Leg leg → ⊥
Answers leg s (Err NoRoom) = ⊥

-- collection keeps every standing and leaves room for 64 notices
pub record Collects (s s' : Standings) (room' : ℕ) : Type 0 where
  pub kept : Same s s'
  pub roomy : 64 ≤ room'
