use Rattle.std.proofs.Common.{◌∙◌, rules, arith}
use Rattle.script.proofs.Numbers.{next_digit, last_digit}
use Rattle.script.proofs.words.number.Goals as goal

pub loop-byte-preserved : goal.loop-byte-preserved
loop-byte-preserved c = (
  omega arith,
  next_digit c.loop-byte.value _ c.in_ok-digit.field-0 c.loop-byte.byte-index c.args.word.now (omega arith) (search rules) (omega arith) ∙ c.loop-byte.invariant.1,
)

pub returns : goal.returns
returns c = last_digit c.loop-byte.value c.loop-byte.byte-index c.args.word.now (omega arith) (search rules) (omega arith) c.loop-byte.invariant.1
