use Prim.Native.Nat.{ℕ}
use mathlib.Core.Path.{◌≡◌, ap, ◌∙◌}
use native.Mathlib.Omega.{arith}
use lib.ListN.{length, replicate}
use Rattle.table.specs.Refusals.{outcome_of}
use Rattle.walk.specs.Lent.{held}
use Rattle.choosers.specs.Kinds.{kind_of}
use Rattle.rules.specs.Tables.{tables}
use Rattle.rules.proofs.Steps.{all_roomy, all_scratch_short, split_built}
use Rattle.rules.proofs.building.build_split.Goals as goal

pub returns-then-scratch-nodes-clause-built : goal.returns-then-scratch-nodes-clause-built
unfolding outcome_of
returns-then-scratch-nodes-clause-built c =
    let s = c.args.split.now in
    all_scratch_short (kind_of s.kind) s.width s.levels (tables s) c.args.scratch.now (held c.args.rows.now) c.args.list.now
    c.all_nodes-nodes.ensures c.if-scratch-nodes.true

pub build_tries-built-requires-clause-roomy : goal.build_tries-built-requires-clause-roomy
build_tries-built-requires-clause-roomy c =
    let s = c.args.split.now in
    all_roomy s.width (tables s) (length c.args.scratch.now) (omega (arith, c.all_nodes-nodes.ensures, c.if-scratch-nodes.false))

pub returns-clause-built : goal.returns-clause-built
returns-clause-built c =
    let s = c.args.split.now in
    let long : length c.build_tries-built.new.scratch ≡ length c.args.scratch.now = omega (arith, c.build_tries-built.auto) in
    split_built (kind_of s.kind) s.width s.levels (tables s) c.args.scratch.now (held c.args.rows.now) c.args.list.now c.all_nodes-nodes.ensures c.if-scratch-nodes.false
    c.build_tries-built.ensures.built (c.zero.ensures ∙ ap (λ (n : ℕ). replicate n 0) long)
