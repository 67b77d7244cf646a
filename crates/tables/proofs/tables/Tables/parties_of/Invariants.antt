use Rattle.std.proofs.Common.{◌≡◌, ◌≤◌, ◌==◌, length, filter, take}
use Rattle.tables.proofs.tables.Tables.parties_of.Given as goal

-- those of the conference so far, and no more than were looked at
abbrev pub invariant-loop-party : goal.invariant-loop-party
invariant-loop-party l = record {
  chosen : l.parties.items ≡ filter (λ p. p.conference == l.conference) (take l.party-index l.all);
  fits : length l.parties.items ≤ l.party-index;
}
