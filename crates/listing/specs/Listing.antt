-- The listing: the conferences, and their parties with what each has heard. Assumes nothing.
use Rattle.std.specs.Prelude.{ℕ, ◌&&◌, cond, List, [], ◌++◌, ℤ, pos, Some, None, codes, decimal, nat_le, Option}
use Rattle.std.specs.Fmt.{signed_decimal}
use Rattle.std.specs.List.{flat_map, range_with_len}
use Rattle.line.specs.Meaning.{Standings}
use Rattle.tables.specs.declared.conference.Conference.{Conference}
use Rattle.tables.specs.declared.conference.Mark.{Mark}
use Rattle.tables.specs.declared.conference.Mark.TheVariants.{Joined, Isolated}
use Rattle.tables.specs.declared.conference.Party.{Party}
use Rattle.tables.specs.declared.conference.Phase.{Phase}
use Rattle.tables.specs.declared.conference.Phase.TheVariants.{Open, Ending}
use Rattle.tables.specs.Table.{Table, conference_with, parties_of}

abbrev pub phase_word : Phase → List ℕ
phase_word Open = codes "open"
phase_word Ending = codes "ending"

abbrev pub mark_word : Mark → List ℕ
mark_word Joined = codes "joined"
mark_word Isolated = codes "isolated"

-- the sum heard on a leg, 1 to 64; nothing is heard on another number
abbrev pub heard_on : Standings → ℕ → ℤ
heard_on s leg = cond (nat_le 1 leg && nat_le leg 64) (s leg).heard (pos 0)

-- the line of a party
abbrev pub party_line : Standings → Party → List ℕ
party_line s p =
    codes "party " ++ (decimal p.id ++ (codes " leg " ++ (decimal p.leg ++ (codes " " ++ (mark_word p.mark ++ (codes " heard " ++ (signed_decimal (heard_on s p.leg) ++ codes "\n")))))))

-- the line of a conference
abbrev pub conference_line : Conference → List ℕ
conference_line c =
    codes "conference " ++ (decimal c.id ++ (codes " size " ++ (decimal c.size ++ (codes " " ++ (phase_word c.phase ++ codes "\n")))))

-- the line of a conference, and under it those of its parties, in order of joining
abbrev pub conference_lines : Table → Standings → Conference → List ℕ
conference_lines t s c = conference_line c ++ flat_map (party_line s) (parties_of t c.id)

-- the same of what may be absent: no line
abbrev pub lines_if_any : Table → Standings → Option Conference → List ℕ
lines_if_any t s None = []
lines_if_any t s (Some c) = conference_lines t s c

-- the lines of the conference with an id, if there is one
abbrev pub lines_at : Table → Standings → ℕ → List ℕ
lines_at t s id = lines_if_any t s (conference_with t id)

-- those of so many ids, from 0 on
unfoldable pub lines_below : ℕ → Table → Standings → List ℕ
lines_below n t s = flat_map (lines_at t s) (range_with_len 0 n)

-- those of all ids, which are octets
abbrev pub listing : Table → Standings → List ℕ
listing t s = lines_below 256 t s
