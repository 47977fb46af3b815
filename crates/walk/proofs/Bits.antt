-- Shift and mask at any machine width w: what the machine's `x & ((1 << s) - 1)` is, where s is below w.
use Prim.Native.Nat.{ℕ, ◌-◌, ◌*◌, ◌%◌, ◌^◌, ◌≤◌, ◌<◌}
use mathlib.Core.Path.{◌≡◌, ap, ◌∙◌}
use mathlib.Core.Bool.{false}
use native.Mathlib.Omega.{arith}
use lib.Bits.{bit_and, and_mask}
use lib.Dec.{leb}
use lib.Pow.{pow_mono}
use borrow.Author.Tests.{lt-leb}
use Rattle.table.proofs.Shifts.{one_shl}

pub and_shl : (w s x : ℕ) → s < w → bit_and x ((1 * 2 ^ s) % 2 ^ w - 1) ≡ x % 2 ^ s
and_shl w s x h = ap (λ (m : ℕ). bit_and x (m - 1)) (one_shl w s h) ∙ and_mask x s

-- a number that w bits hold is below every wider power
pub held_below : (w s x : ℕ) → x < 2 ^ w → w ≤ s → leb (2 ^ s) x ≡ false
held_below w s x h more = lt-leb (2 ^ s) x (let p : 2 ^ w ≤ 2 ^ s = pow_mono more in omega arith)
