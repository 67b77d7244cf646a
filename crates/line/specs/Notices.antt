-- Notices: their codes, and what each does to the standing of the one who hears it. Assumes nothing.
use Rattle.std.specs.Prelude.{ℕ, ℤ, pos, negsuc, ◌+ℤ◌, ◌-ℤ◌, Some, None}
use Rattle.std.specs.Int.{int_min, int_max}
use Rattle.line.specs.declared.notice.Notice.{Notice}
use Rattle.line.specs.declared.notice.Notice.TheVariants.{Established, Disconnected, OtherAdded, Isolated, Reattached, OtherIsolated, OtherReattached, OtherSplit, OtherDisconnected}
use Rattle.line.specs.declared.standing.OwnNotice.{OwnNotice}
use Rattle.line.specs.declared.standing.OwnNotice.TheVariants as own
use Rattle.line.specs.declared.standing.Standing.{Standing}

-- the octet that stands for each notice
abbrev pub code_of : Notice → ℕ
code_of Established = 0xc2
code_of Disconnected = 0xc3
code_of OtherAdded = 0xc4
code_of Isolated = 0xc5
code_of Reattached = 0xc6
code_of OtherIsolated = 0xc7
code_of OtherReattached = 0xc8
code_of OtherSplit = 0xc9
code_of OtherDisconnected = 0xca

-- nothing heard yet
abbrev pub fresh : Standing
fresh = record { latest = None; heard = pos 0 }

-- one party more, or one fewer; sums stop at 127 and at -127
abbrev pub raised : ℤ → ℤ
raised z = int_min (z +ℤ pos 1) (pos 127)

abbrev pub lowered : ℤ → ℤ
lowered z = int_max (z -ℤ pos 1) (negsuc 126)

-- an own notice becomes the latest, and the sum is as given
abbrev pub with_latest : OwnNotice → ℤ → Standing
with_latest n z = record { latest = Some n; heard = z }

-- a notice about another party leaves the latest own one
abbrev pub with_heard : Standing → ℤ → Standing
with_heard s z = record { latest = s.latest; heard = z }

-- the standing once a notice is heard
abbrev pub after : Notice → Standing → Standing
after Established s = with_latest own.Established (pos 0)
after Disconnected s = with_latest own.Disconnected s.heard
after OtherAdded s = with_heard s (raised s.heard)
after Isolated s = with_latest own.Isolated s.heard
after Reattached s = with_latest own.Reattached s.heard
after OtherIsolated s = s
after OtherReattached s = s
after OtherSplit s = with_heard s (lowered s.heard)
after OtherDisconnected s = with_heard s (lowered s.heard)
