-- Bits that begin some entry of the first n.
use mathlib.Core.Path.{◌≡◌, refl, ap, subst}
use mathlib.Core.Bool.{Bool, true, ◌&&◌, ◌||◌, false≢true}
use mathlib.Core.Logic.{⊎_elim}
use Prim.Native.Nat.{ℕ, zero, suc, ◌<◌}
use native.Mathlib.Nat.{eq-or-lt_of_le}
use native.Mathlib.Omega.{arith}
use lib.Dec.{eqb, leb}
use borrow.Author.Tests.{eqb-true, eq-eqb, leb-true, le-leb}
use Rattle.table.specs.Prefix.{start}
use Rattle.table.proofs.Bools.{and_true, or_true}
use Rattle.strides.proofs.Bools.{or_right}
use Rattle.pieces.specs.BinaryTrie.{begins_entry, some_begins, SomeBegins}

module _ (W : ℕ) (val len : ℕ → ℕ) where
  pub begins_is : (n d q : ℕ) → some_begins W val len n d q ≡ true → SomeBegins W val len n d q
  unfolding some_begins begins_entry
  begins_is zero d q e = absurd (false≢true e)
  begins_is (suc n) d q e = ⊎_elim
      (λ (x : begins_entry W val len d q n ≡ true). let w = and_true (leb d (len n)) (eqb (start W d (val n)) q) x in (n, omega arith, leb-true _ _ w.0, eqb-true _ _ w.1))
      (λ (x : some_begins W val len n d q ≡ true). let w = begins_is n d q x in (w.0, omega (arith, w.1), w.2, w.3))
      (or_true (begins_entry W val len d q n) (some_begins W val len n d q) e)

  pub begins_of : (n d q : ℕ) → SomeBegins W val len n d q → some_begins W val len n d q ≡ true
  unfolding some_begins begins_entry
  begins_of zero d q (i, h, g, f) = absurd (omega arith)
  begins_of (suc n) d q (i, h, g, f) = ⊎_elim
      (λ (e : i ≡ n). ap (λ (b : Bool). b || some_begins W val len n d q)
      (subst (λ (j : ℕ). (leb d (len j) && eqb (start W d (val j)) q) ≡ true) e (rw (le-leb d (len i) g, eq-eqb _ _ f) refl)))
      (λ (e : i < n). rw (begins_of n d q (i, e, g, f)) (or_right (begins_entry W val len d q n)))
      (eq-or-lt_of_le (omega arith))
