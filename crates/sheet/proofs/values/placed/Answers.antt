-- The shift loses nothing: so many bits, moved so far, fit the width.
use mathlib.Core.Path.{sym, ◌∙◌}
use mathlib.Core.Logic.{⊎_elim}
use native.Mathlib.Omega.{arith}
use borrow.Author.Tests.{lt-ltb, le-ltb}
use Prim.Native.Nat.{◌<◌, ◌≤◌}
use Rattle.sheet.specs.Values.{value_of}
use Rattle.sheet.proofs.Placing.{placed_fits, placed_shl, value_is}
use Rattle.sheet.proofs.values.placed.Goals as goal

pub returns-then-width-gt-WIDTH : goal.returns-then-width-gt-WIDTH
unfolding value_of
returns-then-width-gt-WIDTH c =
    let l = c.from-l.result in
    ⊎_elim (λ (w : 32 < c.args.width). simp (lt-ltb 32 c.args.width w))
    (λ (w : (c.args.width ≤ 32) × (c.args.width < l)). simp (le-ltb 32 c.args.width w.0, lt-ltb c.args.width c.args.len (rw c.from-l.ensures at w.1)))
    c.then-width-gt-WIDTH.either

pub overflow_cast-result-2 : goal.overflow_cast-result-2
overflow_cast-result-2 c =
    let a = c.args in
    rw (c.from.ensures, c.from-l.ensures, placed_shl a.width a.bits a.len c.requires (omega arith) (omega arith))
    (record { fits = placed_fits a.width a.bits a.len c.requires (omega arith) (omega arith) })

pub returns : goal.returns
returns c =
    let a = c.args in
    rw (c.from.ensures, c.from-l.ensures)
    (placed_shl a.width a.bits a.len c.requires (omega arith) (omega arith) ∙ sym (value_is a.width a.bits a.len c.requires (omega arith) (omega arith)))
