-- The path that the rule takes: the trail is one, and what holds of each of its rows.
use Prim.Native.Nat.{ℕ, zero, suc, ◌-◌, ◌≤◌, ◌<◌}
use mathlib.Core.Path.{◌≡◌, refl}
use mathlib.Core.Bool.{Bool, true, false, cond}
use mathlib.Core.List.Memᴰ
use mathlib.Core.List.{List, [], ◌∷◌, Memᴰ}
use mathlib.Core.Logic.{inl, inr}
use native.Mathlib.Omega.{arith}
use lib.Dec.{eqb}
use lib.ListN.{length}
use borrow.Author.Tests.{eqb-true, eqb-false}
use Rattle.walk.specs.Rows.{Row, row_of}
use Rattle.walk.specs.Answers.{HopLength, new_best, latest}
use Rattle.walk.specs.Lookup.{Trail, ended, broken, behind, trail}
use Rattle.walk.specs.Meaning.{Readable, Path, spent, damaged, last, on}
use Rattle.walk.proofs.Walks.{read_cases}

module _ (e address : ℕ) (at : ℕ → Row) where
  -- the trail is a path
  pub trail_path : (k base s left : ℕ)
      → Path e address at k base s left (trail e address at k base s left).rows (trail e address at k base s left).whole
  unfolding trail
  trail_path zero base s left = spent
  trail_path (suc k) base s left =
      let r = row_of address base s left in
      let next = trail e address at k (at r).link (at r).stride (left - s) in
      read_cases e address base s left
      (λ (t : Bool). let x = cond t (behind r (cond (eqb (at r).link 0) ended next)) broken in Path e address at (suc k) base s left x.rows x.whole)
      (go (eqb (at r).link 0) refl (trail_path k (at r).link (at r).stride (left - s)))
      damaged
    where
      go : {next : Trail} (u : Bool) → eqb (at (row_of address base s left)).link 0 ≡ u
          → Path e address at k (at (row_of address base s left)).link (at (row_of address base s left)).stride (left - s) next.rows next.whole
          → Readable e address base s left
          → Path e address at (suc k) base s left (row_of address base s left ∷ (cond u ended next).rows) (cond u ended next).whole
      go true z p h = last h (eqb-true _ _ z)
      go false z p h = on h (omega (arith, eqb-false (at (row_of address base s left)).link 0 z)) p

-- a path has at most as many rows as there are blocks to read
pub path_length : {e address : ℕ} {at : ℕ → Row} {k base s left : ℕ} {rs : List ℕ} {w : Bool} → Path e address at k base s left rs w
    → length rs ≤ k
path_length spent = omega arith
path_length (damaged d) = omega arith
path_length (last h z) = omega arith
path_length (on h z p) = omega (arith, path_length p)

-- each of its rows is below E
pub path_below : {e address : ℕ} {at : ℕ → Row} {k base s left : ℕ} {rs : List ℕ} {w : Bool} → Path e address at k base s left rs w
    → (r : ℕ) → Memᴰ r rs → r < e
path_below spent r i = absurd (Memᴰ.not-nil i)
path_below (damaged d) r i = absurd (Memᴰ.not-nil i)
path_below (last h z) r i = rw (Memᴰ.eq_of_singleton i) h.within
path_below (on h z p) r i = elim (Memᴰ.cases_cons i) [ inl q ↦ rw q h.within | inr m ↦ path_below p r m ]

-- two sets of rows that agree along a path have it in common
pub path_local : {e address : ℕ} {at at' : ℕ → Row} {k base s left : ℕ} {rs : List ℕ} {w : Bool} → Path e address at k base s left rs w
    → ((r : ℕ) → Memᴰ r rs → at r ≡ at' r) → Path e address at' k base s left rs w
path_local spent same = spent
path_local (damaged d) same = damaged d
path_local (last h z) same = last h (rw (same _ (Memᴰ.head refl)) at z)
path_local (on h z p) same =
    let e = same _ (Memᴰ.head refl) in
    on h (rw e at z) (rw e at (path_local p (λ r i. same r (Memᴰ.tail i))))

-- and the same best after it
pub latest_local : (at at' : ℕ → Row) (best : HopLength) (rs : List ℕ) → ((r : ℕ) → Memᴰ r rs → at r ≡ at' r)
    → latest at best rs ≡ latest at' best rs
unfolding latest
latest_local at at' best [] same = refl
latest_local at at' best (r ∷ rs) same =
    rw (same r (Memᴰ.head refl)) (latest_local at at' (new_best (at' r) best) rs (λ q i. same q (Memᴰ.tail i)))
