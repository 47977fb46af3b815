-- The count of nodes, turn by turn, and that it stays small.
use mathlib.Core.Path.{◌≡◌, refl}
use Prim.Native.Nat.{ℕ, zero, suc, min, ◌+◌, ◌-◌, ◌*◌, ◌≤◌, ◌<◌}
use native.Mathlib.Numerals.{add-one}
use native.Mathlib.Omega.{arith}
use Rattle.std.specs.Prelude.{Result, Ok}
use Rattle.table.specs.Shared.{shared}
use Rattle.table.specs.declared.refusal.Refusal.{Refusal}
use Rattle.strides.specs.Insertion.{new_after, new_nodes, node_count}
use Rattle.walk.specs.Limits.{WIDTH}

pub same_shared : {s r : ℕ} → ◌≡◌ {A = Result ℕ Refusal} (Ok s) (Ok r) → s ≡ r
same_shared e = cc

pub new_after_lem : (W a k b l : ℕ) {s m r : ℕ} → s ≡ shared W a b (min k l) → m ≡ min k l → r ≡ min (s + 1) m → l - r ≡ new_after W a k b l
unfolding new_after
new_after_lem W a k b l {s} e f g = let h : s + 1 ≡ suc s = add-one s in rw (g, f, h, e)

module _ (W : ℕ) (val len : ℕ → ℕ) (n : ℕ) (short : (i : ℕ) → i < n → len i ≤ WIDTH) where
  pub new_small : (i : ℕ) → i < n → new_nodes W val len i ≤ WIDTH
  unfolding new_nodes new_after
  new_small zero h = short 0 h
  new_small (suc i) h = omega (arith, short (suc i) h)

  pub count_small : (i : ℕ) → i ≤ n → node_count W val len i ≤ i * WIDTH
  unfolding node_count
  count_small zero h = omega arith
  count_small (suc i) h = omega (arith, count_small i (omega arith), new_small i (omega arith))

-- one entry more
pub count_next : (W : ℕ) (val len : ℕ → ℕ) (i : ℕ) → node_count W val len (i + 1) ≡ node_count W val len i + new_nodes W val len i
unfolding node_count
count_next W val len i = let f : i + 1 ≡ suc i = add-one i in rw f

pub new_next : (W : ℕ) (val len : ℕ → ℕ) (i : ℕ) → (i ≡ 0 → ⊥) → new_after W (val (i - 1)) (len (i - 1)) (val i) (len i) ≡ new_nodes W val len i
unfolding new_nodes
new_next W val len zero ne = absurd (ne refl)
new_next W val len (suc i) ne = let e : suc i - 1 ≡ i = omega arith in rw e
