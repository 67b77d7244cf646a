-- What the tables hold: calls by reference, conferences as they began, and all parties as they joined. Assumes nothing.
use Rattle.std.specs.Prelude.{ℕ, Bool, false, is_some, ◌||◌, ◌==◌, List, [], Option, filter, map, position, replicate, slice_index_or}
use Rattle.std.specs.List.{find, list_any}
use Rattle.tables.specs.declared.call.Call.{Call}
use Rattle.tables.specs.declared.conference.Conference.{Conference}
use Rattle.tables.specs.declared.conference.Party.{Party}
use Rattle.tables.specs.Calls.{absent, leads_to_leg}
use Rattle.tables.specs.Circles.{next_id}

pub record Table : Type 0 where
  -- a call stands at its reference
  pub calls : List Call
  -- Ending ones too, until they are released
  pub conferences : List Conference
  -- those of all conferences
  pub parties : List Party
  -- the last ConferenceId given, and the last invoke id of a PartyDISC
  pub conference_ids : ℕ
  pub disc_ids : ℕ

-- no call, no conference and no party; the first ConferenceId and the first invoke id will be 0
abbrev pub empty : Table
empty = record { calls = replicate 128 absent; conferences = []; parties = []; conference_ids = 127; disc_ids = 127 }

abbrev pub call_at : Table → ℕ → Call
call_at t r = slice_index_or t.calls r absent

-- the conference with a ConferenceId
abbrev pub conference_with : Table → ℕ → Option Conference
conference_with t id = find (λ c. c.id == id) t.conferences

-- the conference that a reference is the link of
abbrev pub linked_to : Table → ℕ → Option Conference
linked_to t r = find (λ c. c.link == r) t.conferences

-- the parties of a conference, in order of joining
abbrev pub parties_of : Table → ℕ → List Party
parties_of t id = filter (λ p. p.conference == id) t.parties

-- a party of a conference, by its PartyId
abbrev pub party_with : Table → ℕ → ℕ → Option Party
party_with t id p = find (λ q. q.id == p) (parties_of t id)

abbrev pub legs_of : List Party → List ℕ
legs_of ps = map (λ p. p.leg) ps

-- the reference of the call that leads to a leg, and the party of a leg
abbrev pub call_to : Table → ℕ → Option ℕ
call_to t leg = position (λ c. leads_to_leg leg c.state) t.calls

abbrev pub party_on : Table → ℕ → Option Party
party_on t leg = find (λ p. p.leg == leg) t.parties

-- a leg is up on a call, or as a party
abbrev pub is_up : ℕ → Table → Bool
is_up k t = list_any (λ c. leads_to_leg k c.state) t.calls || list_any (λ p. p.leg == k) t.parties

-- the next ConferenceId, passing over those of the conferences that there are
abbrev pub next_conference : Table → ℕ
next_conference t = next_id t.conference_ids (λ id. is_some (conference_with t id))

-- the next PartyId of a conference, passing over those of its parties
abbrev pub next_party : Table → Conference → ℕ
next_party t c = next_id c.parties.last (λ p. is_some (party_with t c.id p))

-- the next invoke id of a PartyDISC, of which none is in use
abbrev pub next_disc : Table → ℕ
next_disc t = next_id t.disc_ids (λ _. false)
