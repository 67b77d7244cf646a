-- The few edits that every step is made of. Assumes nothing.
use Rattle.std.specs.Prelude.{ℕ, not, ◌&&◌, ◌==◌, cond, List, [], ◌∷◌, ◌++◌, filter, map, slice_set}
use Rattle.tables.specs.declared.call.Call.{Call}
use Rattle.tables.specs.declared.conference.Conference.{Conference}
use Rattle.tables.specs.declared.conference.Mark.{Mark}
use Rattle.tables.specs.declared.conference.Mark.TheVariants.{Joined}
use Rattle.tables.specs.declared.conference.Party.{Party}
use Rattle.tables.specs.declared.conference.Phase.{Phase}
use Rattle.tables.specs.declared.conference.Phase.TheVariants.{Open}
use Rattle.tables.specs.Table.{Table}

-- a call at its reference
abbrev pub with_call : ℕ → Call → Table → Table
with_call r c t = record { calls = slice_set t.calls r c; conferences = t.conferences; parties = t.parties; conference_ids = t.conference_ids; disc_ids = t.disc_ids }

-- the parties, and the conferences
abbrev pub with_parties : List Party → Table → Table
with_parties ps t = record { calls = t.calls; conferences = t.conferences; parties = ps; conference_ids = t.conference_ids; disc_ids = t.disc_ids }

abbrev pub with_conferences : List Conference → Table → Table
with_conferences cs t = record { calls = t.calls; conferences = cs; parties = t.parties; conference_ids = t.conference_ids; disc_ids = t.disc_ids }

-- a new conference, linked by a reference; its first PartyId will be 0
abbrev pub new_conference : ℕ → ℕ → ℕ → Conference
new_conference id size link = record { id = id; size = size; link = link; phase = Open; parties = record { last = 127 } }

-- a conference begins: behind the others, with a ConferenceId that is then the last given
abbrev pub with_begun : Conference → Table → Table
with_begun c t = record { calls = t.calls; conferences = t.conferences ++ (c ∷ []); parties = t.parties; conference_ids = c.id; disc_ids = t.disc_ids }

-- the invoke id of a PartyDISC was given
abbrev pub with_disc : ℕ → Table → Table
with_disc id t = record { calls = t.calls; conferences = t.conferences; parties = t.parties; conference_ids = t.conference_ids; disc_ids = id }

-- a PartyId was given in a conference
abbrev pub given : ℕ → ℕ → Conference → Conference
given id p c = cond (c.id == id) (record { id = c.id; size = c.size; link = c.link; phase = c.phase; parties = record { last = p } }) c

-- a party joins behind the others; its PartyId is then the last given in its conference
abbrev pub with_joined : ℕ → ℕ → ℕ → Table → Table
with_joined id p leg t =
    with_parties (t.parties ++ (record { conference = id; id = p; leg = leg; mark = Joined } ∷ [])) (with_conferences (map (given id p) t.conferences) t)

-- a party is no more
abbrev pub with_left : ℕ → ℕ → Table → Table
with_left id p t = with_parties (filter (λ q. not (q.conference == id && q.id == p)) t.parties) t

-- a party is marked
abbrev pub marked : ℕ → ℕ → Mark → Party → Party
marked id p m q = cond (q.conference == id && q.id == p) (record { conference = q.conference; id = q.id; leg = q.leg; mark = m }) q

abbrev pub with_marked : ℕ → ℕ → Mark → Table → Table
with_marked id p m t = with_parties (map (marked id p m) t.parties) t

-- a conference comes into a phase
abbrev pub in_phase : ℕ → Phase → Conference → Conference
in_phase id phase c = cond (c.id == id) (record { id = c.id; size = c.size; link = c.link; phase = phase; parties = c.parties }) c

abbrev pub with_phase : ℕ → Phase → Table → Table
with_phase id phase t = with_conferences (map (in_phase id phase) t.conferences) t

-- a conference ends, with all its parties
abbrev pub with_ended : ℕ → Table → Table
with_ended id t = with_parties (filter (λ q. not (q.conference == id)) t.parties) (with_conferences (filter (λ c. not (c.id == id)) t.conferences) t)
