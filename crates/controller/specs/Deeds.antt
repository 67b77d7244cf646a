-- What a granted request comes to, once all that it needs is looked up. Assumes nothing.
use Rattle.std.specs.Prelude.{ℕ, ◌<◌, length, List, ◌++◌}
use Rattle.std.specs.Option.{option_to_list}
use Rattle.line.specs.declared.notice.Notice.{Notice}
use Rattle.line.specs.declared.notice.Notice.TheVariants.{Isolated, Reattached, OtherIsolated, OtherReattached}
use Rattle.tables.specs.declared.conference.Mark.TheVariants as mark
use Rattle.tables.specs.Table.{Table}
use Rattle.controller.specs.declared.deed.Deed.{Deed}
use Rattle.controller.specs.declared.deed.Deed.TheVariants.{BeginBySetup, BeginOnCall, Add, Split, Drop, Remark}
use Rattle.controller.specs.Granting.{begun_by_setup, begun_on_call, added, split, dropped, remarked}
use Rattle.controller.specs.declared.told.Told.{Told}
use Rattle.controller.specs.Steps.{Effect, each}

-- what each deed does
abbrev pub deed_effect : Table → Deed → Effect
deed_effect t (BeginBySetup id size r) = begun_by_setup id size r t
deed_effect t (BeginOnCall id size r leg) = begun_on_call id size r leg t
deed_effect t (Add id p r leg) = added id p r leg t
deed_effect t (Split id p r) = split id p r t
deed_effect t (Drop id p) = dropped id p t
deed_effect t (Remark id p mark.Isolated) = remarked mark.Isolated Isolated OtherIsolated id p t
deed_effect t (Remark id p mark.Joined) = remarked mark.Joined Reattached OtherReattached id p t

-- the tables have room for the conference, or the party, that a deed brings
abbrev pub HasRoom : Table → Deed → Type 0
HasRoom t (BeginBySetup id size r) = length t.conferences < 8
HasRoom t (BeginOnCall id size r leg) = (length t.conferences < 8) × (length t.parties < 64)
HasRoom t (Add id p r leg) = length t.parties < 64
HasRoom t _ = Unit {0}

-- what is told, in order: to a leg of its own first, if there is one, and then to each of the hearers
abbrev pub told_list : Told → List (ℕ × Notice)
told_list d = option_to_list d.own ++ each d.other d.hearers.items
