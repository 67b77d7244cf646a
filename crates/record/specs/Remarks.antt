-- The text of what is said of lines that are not recorded. Assumes nothing.
use Rattle.std.specs.Prelude.{ℕ, Bool, true, false, List, [], ◌++◌, codes, decimal}
use Rattle.components.specs.Wording.{fault_text}
use Rattle.tables.specs.Refusals.{refusal_number, level_refusal_number}
use Rattle.record.specs.declared.remark.Reason.{Reason}
use Rattle.record.specs.declared.remark.Reason.TheVariants.{NotUnderstood, NoLevel, SecondLevel, LevelRefused, Refused, Faulty, Full}
use Rattle.record.specs.declared.remark.Remark.{Remark}

abbrev pub reason_text : Reason → List ℕ
reason_text NotUnderstood = codes "not understood"
reason_text NoLevel = codes "no level"
reason_text SecondLevel = codes "second level"
reason_text (LevelRefused why) = codes "level refused " ++ decimal (level_refusal_number why)
reason_text (Refused why) = codes "refused " ++ decimal (refusal_number why)
reason_text (Faulty fault) = fault_text fault
reason_text (Full calls) = codes "reel full after " ++ (decimal calls ++ codes " calls")

-- the line and the reason
abbrev pub remark_text : Remark → List ℕ
remark_text r = codes "line " ++ (decimal r.line ++ (codes ": " ++ reason_text r.reason))

-- what is written of a line
abbrev pub line_remark : ℕ → Reason → List ℕ
line_remark line why = codes "record: " ++ (remark_text (record { line = line; reason = why }) ++ codes "\n")

-- what is written behind the last line: that there was no level, if there was none
abbrev pub last_remark : Bool → List ℕ
last_remark true = []
last_remark false = codes "record: " ++ (reason_text NoLevel ++ codes "\n")
