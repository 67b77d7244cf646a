-- The company law: what the notices told to the remote users come to. Assumes nothing.
use Rattle.std.specs.Prelude.{◌≡◌, ℕ, pos, ◌+◌, ◌≤◌, ◌-ℤ◌, Bool, true, false, List, [], ◌∷◌, ◌++◌, length, filter, map, Some, Option, All, IsSome, count_by, ◌==◌}
use Rattle.std.specs.List.{range_with_len}
use Rattle.line.specs.declared.standing.OwnNotice.{OwnNotice}
use Rattle.line.specs.declared.standing.OwnNotice.TheVariants as own
use Rattle.line.specs.Meaning.{Leg, Standings}
use Rattle.tables.specs.declared.conference.Conference.{Conference}
use Rattle.tables.specs.Table.{Table, call_at, conference_with, parties_of}
use Rattle.controller.specs.Steps.{leads_to_leg}
use Rattle.operator.specs.Roster.{Entry, down, on, party, Roster, is_up, ups, others_in}

-- a place of a leg: on a reference, or in a conference as a PartyId
pub data Place : Type 0 where
  call : (reference : ℕ) → Place
  conference : (id party : ℕ) → Place

-- all places of a leg in the table: the calls that lead to it, and the parties with it
abbrev pub places : ℕ → Table → List Place
places k t =
    map (λ r. call r) (filter (λ r. leads_to_leg k (call_at t r).state) (range_with_len 0 128))
    ++ map (λ p. conference p.conference p.id) (filter (λ p. k == p.leg) t.parties)

-- its place in the roster, if it is up: then it is exactly one
abbrev pub place : Entry → List Place
place down = []
place (on r) = call r ∷ []
place (party c p joined isolated) = conference c p ∷ []

-- the latest own notice is Isolated
abbrev pub is_isolated : Option OwnNotice → Bool
is_isolated (Some own.Isolated) = true
is_isolated _ = false

-- of a remote user in a conference: the sum that it heard is the number of others in it now, less the number just after it joined;
-- and its latest own notice is Isolated exactly when its last isolate or reattach since then was isolate
pub record Told (k c joined : ℕ) (isolated : Bool) (legs : ℕ → Entry) (s : Standings) : Type 0 where
  pub company : (s k).heard ≡ pos (others_in c k legs) -ℤ pos joined
  pub isolation : is_isolated (s k).latest ≡ isolated

-- the same of an entry: nothing is said of those who are in no conference
abbrev pub ToldRight : ℕ → Entry → (ℕ → Entry) → Standings → Type 0
ToldRight k (party c p joined isolated) legs s = Told k c joined isolated legs s
ToldRight k _ legs s = Unit {0}

-- a conference has no more parties than its size
abbrev pub Within : Table → Conference → Type 0
Within t c = length (parties_of t c.id) ≤ c.size

-- the law, of a roster, the tables and the standings of the line
pub record Company (r : Roster) (t : Table) (s : Standings) : Type 0 where
  -- each remote user in a conference was told right
  pub told : (k : ℕ) → ToldRight k (r.legs k) r.legs s
  -- the remote users up are on legs that there are
  pub legs : (k : ℕ) → is_up (r.legs k) ≡ true → Leg k
  -- table and roster have the same remote users up, each on one call or in one conference, the same in both
  pub places : (k : ℕ) → places k t ≡ place (r.legs k)
  -- their number is the accepted answer reports less the legs gone in all answers
  pub number : ups r.legs + r.gone ≡ r.answered
  -- no conference exceeds its size
  pub sizes : All (Within t) t.conferences
  -- each party's conference is in the table
  pub homes : All (λ p. IsSome (conference_with t p.conference)) t.parties
  -- and each ConferenceId stands there once
  pub ids : (id : ℕ) → count_by (λ c. c.id == id) t.conferences ≤ 1
