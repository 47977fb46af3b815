-- The strides of a default record are all 0.
use mathlib.Core.Path.{◌≡◌}
use mathlib.Core.List.{List, []}
use Prim.Native.Nat.{ℕ}
use Rattle.std.specs.Array.{AllOfLen}
use Rattle.table.specs.Lists.{padded}
use Rattle.table.proofs.Lists.{padded_is}

pub zero_strides : {xs : List ℕ} {n : ℕ} → AllOfLen (λ x. x ≡ 0) xs n → xs ≡ padded n []
zero_strides {xs} {n} a = padded_is n xs [] a.long (λ x h. a.at x 0 h)
