use Rattle.std.proofs.Common.{arith, sym, ◌∙◌}
use Rattle.reading.proofs.Keys.{key_go, key_stop, key_end}
use Rattle.reading.proofs.lines.Lines.starts_with.Goals as goal

pub returns-then-byte-c : goal.returns-then-byte-c
returns-then-byte-c c =
    sym (sym c.loop-i.invariant ∙ key_stop _ _ _ c.loop-i.i (omega arith) (λ e. c.if-byte-c.true (c.byte.ensures ∙ e)))

pub loop-i-preserved : goal.loop-i-preserved
loop-i-preserved c = sym (key_go _ _ _ c.loop-i.i (omega arith) (sym c.byte.ensures ∙ c.if-byte-c.false)) ∙ c.loop-i.invariant

pub returns : goal.returns
returns c = sym (sym c.loop-i.invariant ∙ key_end _ _ _ c.loop-i.i (omega arith))
