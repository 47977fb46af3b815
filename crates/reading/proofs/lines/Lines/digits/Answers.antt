use Rattle.std.proofs.Common.{ap, arith}
use mathlib.Core.Bool.{not}
use Rattle.reading.proofs.Digits.{begun_none, begun_fits, begun_end, begun_stop, begun_more, next_digit}
use Rattle.reading.proofs.lines.Lines.digits.Goals as goal

pub loop-count-init : goal.loop-count-init
loop-count-init c = begun_none _ _ _ _ (omega arith)

pub returns-then-not-is_digit : goal.returns-then-not-is_digit
returns-then-not-is_digit c = begun_stop c.loop-count.invariant c.byte-c.ensures c.is_digit.ensures (ap not c.if-not-is_digit.true)

pub overflow_mul-value : goal.overflow_mul-value
overflow_mul-value c =
    let more = begun_more c.loop-count.invariant c.byte-c.ensures c.is_digit.ensures (ap not c.if-not-is_digit.false) (omega arith) in
    omega (arith, begun_fits more (omega arith) (omega arith) (omega arith))

pub overflow_sub-value : goal.overflow_sub-value
overflow_sub-value c = (next_digit c.loop-count.invariant c.byte-c.ensures c.is_digit.ensures (ap not c.if-not-is_digit.false)).low

pub overflow_add-value : goal.overflow_add-value
overflow_add-value c =
    let more = begun_more c.loop-count.invariant c.byte-c.ensures c.is_digit.ensures (ap not c.if-not-is_digit.false) (omega arith) in
    record { fits = begun_fits more (omega arith) (omega arith) (omega arith) }

pub loop-count-preserved : goal.loop-count-preserved
loop-count-preserved c = begun_more c.loop-count.invariant c.byte-c.ensures c.is_digit.ensures (ap not c.if-not-is_digit.false) (omega arith)

pub returns : goal.returns
returns c = begun_end c.loop-count.invariant (omega arith) (omega arith)
