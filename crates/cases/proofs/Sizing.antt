-- The length of a room: one law for all sizes, whose level and type are written out, so that no check unfolds a long array.
use mathlib.Core.Path.{◌≡◌, sym}
use Prim.Native.Nat.{ℕ}
use lib.ListN.{length, replicate, length-replicate}

pub sized : (n : ℕ) → n ≡ length (replicate {0} {A = ℕ} n 0)
sized n = sym (length-replicate {0} {A = ℕ} n 0)
