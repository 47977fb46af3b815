use Rattle.std.proofs.Common.{rules}
use mathlib.Core.Path.{◌≡◌, refl, ap, ◌∙◌}
use Prim.Native.Nat.{min}
use native.Mathlib.Omega.{arith}
use Rattle.walk.specs.Limits.{WIDTH}
use Rattle.walk.specs.Lookup.{lookup_of}
use Rattle.walk.proofs.Looked.{looked}
use Rattle.gateway.proofs.Writing.{written_none, written_put, written_by}
use Rattle.gateway.proofs.looking.hongsamuk_lookup_batch.Goals as goal

pub loop-i-init : goal.loop-i-init
loop-i-init c = (search rules, written_none)

pub loop-i-preserved : goal.loop-i-preserved
loop-i-preserved c = let w = c.loop-i.invariant.1 in (
  search rules,
  written_put c.put.ensures.put w
      (record { number = omega (arith, w.numbers); hop = omega (arith, w.hops); len = omega (arith, w.lens); reads = omega (arith, w.counts) })
      (lookup_of WIDTH _ _ _, (refl, looked WIDTH _ _ _), c.from.ensures ∙ c.find-found.ensures.exact),
)

pub returns : goal.returns
returns c = let l = c.loop-i in
    let e : l.i ≡ c.min-n.result = omega (arith, l.auto.i-end, c.loop-i-test.false) in
    let w = rw e at l.invariant.1 in
    let count = c.min-n.ensures ∙ ap (min _) c.len.ensures in record { same = l.invariant.0; exact = record { count = count; written = written_by (λ x a p. p.0) w }; meaning = record { count = count; written = written_by (λ x a p. p.1) w } }
