use mathlib.Core.Path.{◌≡◌, sym, ap, ◌∙◌}
use Prim.Native.Nat.{ℕ}
use lib.ListN.{length, replicate}
use native.Mathlib.Omega.{arith}
use Rattle.std.proofs.Common.{rules}
use Rattle.table.specs.Refusals.{outcome_of}
use Rattle.table.proofs.Refusals.{handed_on}
use Rattle.visits.specs.Lent.{held}
use Rattle.supernodes.proofs.Fitting.{fit_table}
use Rattle.supernodes.proofs.BitmapSteps.{early_bitmap, past_scratch, bitmap_means}
use Rattle.supernodes.proofs.building.build_bitmap.Goals as goal

pub returns-in_err-tested : goal.returns-in_err-tested
unfolding outcome_of
returns-in_err-tested c =
    let A = c.args in
    let b = early_bitmap A.width A.links A.entries.value.now A.entries.length.now A.entries.hop.now A.scratch.now
    (held A.rows.now) A.rows.now.hops.now c.in_err-tested.ensures in
    rw (handed_on _ c.from_residual.ensures.1) (record { same = search rules; exact = b; meaning = bitmap_means _ _ _ _ _ _ _ _ b })

pub fill_rows-built-requires : goal.fill_rows-built-requires
fill_rows-built-requires c =
    let A = c.args in
    fit_table A.width A.links A.entries.value.now A.entries.length.now A.entries.hop.now A.scratch.now (sym c.in_ok-tested.ensures)

pub returns : goal.returns
returns c =
    let A = c.args in
    let e : length c.fill_rows-built.new.scratch ≡ length A.scratch.now = omega (arith, c.fill_rows-built.auto) in
    let b = past_scratch A.width A.links A.entries.value.now A.entries.length.now A.entries.hop.now A.scratch.now
    (held A.rows.now) A.rows.now.hops.now c.in_ok-tested.ensures
    c.fill_rows-built.ensures.filled (c.zero.ensures ∙ ap (λ (n : ℕ). replicate n 0) e) in
    record { same = search rules; exact = b; meaning = bitmap_means _ _ _ _ _ _ _ _ b }
