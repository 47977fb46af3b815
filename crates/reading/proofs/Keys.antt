-- Laws of bytes and keys at a place of the text.
use mathlib.Core.Path.{◌≡◌}
use mathlib.Core.List.{List}
use mathlib.Core.Bool.{true, false}
use Prim.Native.Nat.{ℕ, suc, ◌+◌, ◌≤◌, ◌<◌}
use Prim.Dec.{yes, no}
use native.Mathlib.Omega.{arith}
use native.Mathlib.Decide.{dec_lt}
use native.Mathlib.Numerals.{add-one}
use lib.ListN.{length, get_or, drop, get_or-eq_default, drop_of_length-le}
use lib.Seq.{drop-cons}
use borrow.Author.Tests.{eq-eqb, ne_eqb}
use Rattle.reading.specs.Lines.{byte_at, key_at}

-- a byte that is not 0 stands within the text
pub byte_inside : (s : List ℕ) (p : ℕ) → (byte_at s p ≡ 0 → ⊥) → p < length s
unfolding byte_at
byte_inside s p h = elim (dec_lt p (length s)) [ yes q ↦ q | no q ↦ absurd (h (get_or-eq_default s 0 (omega arith))) ]

-- ---- the loop over a key's bytes

module _ (key s : List ℕ) (p i : ℕ) where
  pub key_go : i < length key → byte_at s (p + i) ≡ get_or key i 0 → key_at (drop i key) s (p + i) ≡ key_at (drop (i + 1) key) s (p + (i + 1))
  unfolding key_at byte_at
  key_go h e =
      let f : p + (i + 1) ≡ suc (p + i) = omega arith in
      rw (f, add-one, drop-cons key i 0, eq-eqb _ _ e)

  pub key_stop : i < length key → (byte_at s (p + i) ≡ get_or key i 0 → ⊥) → key_at (drop i key) s (p + i) ≡ false
  unfolding key_at byte_at
  key_stop h e = rw (drop-cons key i 0, ne_eqb _ _ e)

  pub key_end : length key ≤ i → key_at (drop i key) s (p + i) ≡ true
  unfolding key_at
  key_end h = rw (drop_of_length-le key h)
