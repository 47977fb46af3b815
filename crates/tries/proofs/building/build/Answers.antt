use Prim.Native.Nat.{ℕ}
use Rattle.std.proofs.Common.{rules}
use mathlib.Core.Path.{◌≡◌, ap, refl, ◌∙◌}
use lib.ListN.{length, replicate}
use native.Mathlib.Omega.{arith}
use Rattle.table.specs.Refusals.{outcome_of}
use Rattle.table.proofs.Refusals.{handed_on}
use Rattle.walk.specs.Lent.{held}
use Rattle.tries.proofs.BuildSteps.{plan_for, early_is, past_is, build_means}
use Rattle.tries.proofs.building.build.Goals as goal

pub returns-in_err-p : goal.returns-in_err-p
unfolding outcome_of
returns-in_err-p c =
    let b = early_is c.in_err-p.ensures.exact (held c.args.rows.now) refl in
    rw (handed_on _ c.from_residual.ensures.1) (record { same = search rules; exact = b; meaning = build_means b })

pub build_rows-built-requires : goal.build_rows-built-requires
unfolding outcome_of
build_rows-built-requires c = (_, _, plan_for c.in_ok-p.ensures.exact refl)

pub returns : goal.returns
unfolding outcome_of
returns c =
    let P = c.plan_choice in
    let e : length P.new.scratch ≡ length c.args.scratch.now = omega (arith, P.auto) in
    let b = past_is c.in_ok-p.ensures.exact (held c.args.rows.now) refl
    (c.build_rows-built.ensures.done _ _ (plan_for c.in_ok-p.ensures.exact refl)) (c.zero.ensures ∙ ap (λ (n : ℕ). replicate n 0) e) in
    record { same = search rules; exact = b; meaning = build_means b }
