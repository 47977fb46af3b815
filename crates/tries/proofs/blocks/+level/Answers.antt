use Prim.Native.Nat.{ℕ, ◌<◌}
use mathlib.Core.Path.{◌≡◌, refl, sym, ◌∙◌}
use mathlib.Core.Bool.{Bool, true, false, ◌&&◌, true≢false}
use native.Mathlib.Omega.{arith}
use lib.Dec.{eqb}
use borrow.Author.Tests.{eqb-true, eqb-false, eq-eqb, leb-true}
use Rattle.table.proofs.Bools.{and_true}
use Rattle.strides.specs.Trie.{left, right}
use Rattle.tries.proofs.Leveling.{nothing_gives, shallow_gives, at_block, from_block, at_own, from_own, side_bounds, can_pass, pass_asks, pass_gives}
use Rattle.tries.proofs.Leveling.{first_asks, second_asks, sides_give, only_second_asks, only_second_gives}
use Rattle.tries.proofs.blocks.+level.Goals as goal

-- it does not: where a block begins, others are to be passed
not_own : (c n : ℕ) → eqb c 0 && eqb n 0 ≡ false → c ≡ 0 → 0 < n
not_own c n e z = go (eqb n 0) refl (rw (eq-eqb c 0 z) at e)
  where
    go : (u : Bool) → eqb n 0 ≡ u → true && u ≡ false → 0 < n
    go true f e = absurd (true≢false e)
    go false f e = omega (arith, eqb-false n 0 f)

pub returns-then-k-eq0-clause-wrote : goal.returns-then-k-eq0-clause-wrote
returns-then-k-eq0-clause-wrote t c = λ σ u g. nothing_gives c.if-k-eq0.true g

pub returns-then-is_own-clause-wrote : goal.returns-then-is_own-clause-wrote
returns-then-is_own-clause-wrote t c =
    let own : let a = c.args in (a.c ≡ 0) × (a.n ≡ 0) = let z = and_true _ _ (sym c.is_own.ensures ∙ c.if-is_own.true) in (eqb-true _ _ z.0, eqb-true _ _ z.1) in
    let z = own in
    λ σ u g. from_block z.0 (from_own z.1 (c.block.ensures.wrote c.args.w σ u (at_own z.1 (at_block z.0 g))))

pub is_shallow-requires : goal.is_shallow-requires
is_shallow-requires t c = (side_bounds c.requires.2 (omega (arith, c.if-k-eq0.false))).0

pub returns-then-is_shallow-clause-wrote : goal.returns-then-is_shallow-clause-wrote
returns-then-is_shallow-clause-wrote t c = let z = and_true _ _ (sym c.is_shallow.ensures ∙ c.if-is_shallow.true) in
    let e = eqb-true _ _ z.0 in
    λ σ u g. from_block e (shallow_gives refl (leb-true _ _ z.1) (at_block e g))

pub pass-a-requires : goal.pass-a-requires
pass-a-requires t c =
    let e = sym c.is_own.ensures ∙ c.if-is_own.false in
    can_pass c.requires.2 (omega (arith, c.if-k-eq0.false)) (not_own c.args.c c.args.n e)

pub asked-k0-requires : goal.asked-k0-requires
asked-k0-requires t c =
    omega (arith, side_bounds c.requires.2 (omega (arith, c.if-k-eq0.false)))

pub asked-k1-requires : goal.asked-k1-requires
asked-k1-requires t c =
    omega (arith, side_bounds c.requires.2 (omega (arith, c.if-k-eq0.false)))

pub overflow_sub-v : goal.overflow_sub-v
overflow_sub-v t c =
    omega (arith, side_bounds c.requires.2 (omega (arith, c.if-k-eq0.false)))

pub level-requires : goal.level-requires
level-requires t c =
    let some : 0 < c.args.k = omega (arith, c.if-k-eq0.false) in
    let g = c.requires.2 in
    let h = pass_asks g some c.pass-a.ensures in (
      omega (arith, side_bounds g some, c.decreases),
      (c.requires.0, right c.requires.1, only_second_asks h refl c.if-k0-eq0.true c.asked-k0.ensures c.asked-k1.ensures),
    )

pub returns-then-k0-eq0-clause-wrote : goal.returns-then-k0-eq0-clause-wrote
returns-then-k0-eq0-clause-wrote t c =
    let some : 0 < c.args.k = omega (arith, c.if-k-eq0.false) in
    let p = c.pass-a.ensures in
    let z = c.if-k0-eq0.true in
    let q = c.asked-k0.ensures in
    λ σ u g.
    let h = pass_asks g some p in
    pass_gives g some p (only_second_gives h refl z q (c.level.ensures.wrote σ (right u) (only_second_asks h refl z q c.asked-k1.ensures)))

pub level-then-requires : goal.level-then-requires
level-then-requires t c =
    let some : 0 < c.args.k = omega (arith, c.if-k-eq0.false) in
    let g = c.requires.2 in
    let h = pass_asks g some c.pass-a.ensures in
    (omega (arith, side_bounds g some, c.decreases), (c.requires.0, left c.requires.1, first_asks h refl c.asked-k0.ensures))

pub returns-then-k1-eq0-clause-wrote : goal.returns-then-k1-eq0-clause-wrote
returns-then-k1-eq0-clause-wrote t c =
    let some : 0 < c.args.k = omega (arith, c.if-k-eq0.false) in
    let p = c.pass-a.ensures in
    let F = c.level-then in
    λ σ u g.
    let h = pass_asks g some p in
    let o = F.ensures.wrote σ (left u) (first_asks h refl c.asked-k0.ensures) in
    pass_gives g some p (sides_give h refl (omega (arith, F.ensures.same)) o (nothing_gives c.if-k1-eq0.true (second_asks h refl (omega (arith, F.ensures.same)) o c.asked-k1.ensures)))

pub level-requires-2 : goal.level-requires-2
level-requires-2 t c =
    let some : 0 < c.args.k = omega (arith, c.if-k-eq0.false) in
    let F = c.level-then in
    let g = c.requires.2 in
    let h = pass_asks g some c.pass-a.ensures in
    let o = F.ensures.wrote c.requires.0 (left c.requires.1) (first_asks h refl c.asked-k0.ensures) in (
      omega (arith, side_bounds g some, c.decreases),
      (c.requires.0, right c.requires.1, second_asks h refl (omega (arith, F.ensures.same)) o c.asked-k1.ensures),
    )

pub returns-clause-wrote : goal.returns-clause-wrote
returns-clause-wrote t c =
    let some : 0 < c.args.k = omega (arith, c.if-k-eq0.false) in
    let p = c.pass-a.ensures in
    let F = c.level-then in
    λ σ u g.
    let h = pass_asks g some p in
    let o = F.ensures.wrote σ (left u) (first_asks h refl c.asked-k0.ensures) in
    pass_gives g some p (sides_give h refl (omega (arith, F.ensures.same)) o (c.level-2.ensures.wrote σ (right u) (second_asks h refl (omega (arith, F.ensures.same)) o c.asked-k1.ensures)))
