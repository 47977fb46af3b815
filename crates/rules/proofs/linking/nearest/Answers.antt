use mathlib.Core.Path.{sym, ◌∙◌}
use native.Mathlib.Omega.{arith}
use Rattle.table.specs.Longest.{matches}
use Rattle.fields.proofs.Nearest.{last_here, last_on, last_zero}
use Rattle.rules.proofs.linking.nearest.Goals as goal

pub returns-then-is_begun : goal.returns-then-is_begun
unfolding matches
returns-then-is_begun c = let l = c.loop-j in
    omega (arith, sym (l.invariant ∙ last_here _ l.j (omega arith) (sym c.is_begun.ensures ∙ c.if-is_begun.true)))

pub loop-j-preserved : goal.loop-j-preserved
unfolding matches
loop-j-preserved c = let l = c.loop-j in
    l.invariant ∙ last_on _ l.j (omega arith) (sym c.is_begun.ensures ∙ c.if-is_begun.false)

pub returns : goal.returns
returns c = let l = c.loop-j in sym (l.invariant ∙ last_zero _ l.j (omega arith))
