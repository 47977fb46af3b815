-- How the way goes on from a supernode, one law for each way that it can end, in the terms in which a loop has them.
use Prim.Native.Nat.{ℕ, zero, suc, ◌+◌, ◌-◌, ◌/◌, ◌≤◌, ◌<◌}
use mathlib.Core.Path.{◌≡◌, refl, sym, ap, ◌∙◌}
use mathlib.Core.Bool.{Bool, true, false, cond}
use mathlib.Core.List.{List}
use native.Mathlib.Omega.{arith}
use lib.Dec.{eqb}
use lib.ListN.{length}
use borrow.Author.Tests.{lt-ltb, le-ltb, eq-eqb, ne_eqb}
use Rattle.table.specs.Table.{at}
use Rattle.walk.specs.Cases.{Answer}
use Rattle.walk.specs.Cases.{Refused}
use Rattle.walk.specs.Answers.{answer}
use Rattle.pieces.specs.Maps.{STEP, INTERNAL, bit_at, place_level}
use Rattle.pieces.specs.Rows.{SupernodeRow}
use Rattle.pieces.specs.Cuts.{path_at, found, ones_before, highest}
use Rattle.visits.specs.Winner.{Best}
use Rattle.visits.specs.Winner.{won}
use Rattle.std.specs.Prelude.{None}
use Rattle.visits.specs.declared.record.Bitmap.{Bitmap}
use Rattle.visits.specs.Rows.{RowLists, row_room, supernode_at}
use Rattle.visits.specs.Lookup.{better_of, best_after, Visited, after_visit, visit, LeftWithin, tell_best, tell_visited, visit_from, visited_by}
use Rattle.visits.specs.Lookup.{bitmap_refusal, lookup_bitmap_of}

-- ---- one supernode
module _ (map first p left : ℕ) (best : Best) {on : ℕ} (e : on ≡ found map p left) where
  pub better_old : on ≡ 0 → best ≡ better_of map first p left best
  unfolding better_of
  better_old z = rw (eq-eqb _ _ (sym e ∙ z)) refl

  pub better_new : {i b l : ℕ} → (on ≡ 0 → ⊥) → i ≡ highest INTERNAL on → b ≡ ones_before map i → l ≡ place_level i
      → won (first + b) (left - l) ≡ better_of map first p left best
  unfolding better_of
  better_new {i} z f g h =
      let j : i ≡ highest INTERNAL (found map p left) = f ∙ ap (highest INTERNAL) e in
      rw (ne_eqb (found map p left) 0 (λ y. z (e ∙ y)), g, h, j) refl

-- no more bits are left behind the best than the width has
pub better_within : (map first p left : ℕ) (best : Best) {b : Best} {W : ℕ} → b ≡ better_of map first p left best → left ≤ W → LeftWithin best W → LeftWithin b W
unfolding better_of
better_within map first p left best {W = W} e h l = rw e (go (eqb (found map p left) 0))
  where
    go : (z : Bool) → let i = highest INTERNAL (found map p left) in LeftWithin (cond z best (won (first + ones_before map i) (left - place_level i))) W
    go true = l
    go false = omega arith

-- ---- the way
module _ (W count hops address : ℕ) (row : ℕ → SupernodeRow) (hop : ℕ → ℕ) (k i left : ℕ) (best : Best) (reads : ℕ) where
  pub visit_stops : count ≤ i → visit_from W count hops address row hop k i left best reads ≡ Refused 9
  unfolding visit_from visit tell_visited
  visit_stops h = elim k as (λ (k : ℕ). visit_from W count hops address row hop k i left best reads ≡ Refused 9) [ zero ↦ refl | suc j ↦ rw (le-ltb i count h) refl ]

  module _ {j p : ℕ} {b : Best} {t : Bool} (f : k ≡ suc j) (h : i < count) (e : p ≡ path_at address left)
      (g : b ≡ best_after (row i) p left best) (s : t ≡ bit_at (row i).external p) where
    pub visit_ends : t ≡ false → visit_from W count hops address row hop k i left best reads ≡ tell_best W hops hop b (reads + 1)
    unfolding visit_from visit tell_visited
    visit_ends z = rw (f, lt-ltb i count h, ← e, sym s ∙ z, g) refl

    after_told : (v : Visited) → tell_visited W hops hop reads (after_visit i v) ≡ tell_visited W hops hop (reads + 1) v
    unfolding tell_visited
    after_told v = ap (λ (n : ℕ). cond v.whole (tell_best W hops hop v.best n) (Refused 9)) (omega arith)

    pub visit_goes : {n m : ℕ} → t ≡ true → n ≡ ones_before (row i).external p → m ≡ j
        → visit_from W count hops address row hop k i left best reads ≡ visit_from W count hops address row hop m ((row i).first_child + n) (left - STEP) b (reads + 1)
    unfolding visit_from visit
    visit_goes z q y = rw (f, lt-ltb i count h, ← e, sym s ∙ z, g, q, y) (after_told _)

    pub visit_breaks : t ≡ true → j ≡ 0 → visit_from W count hops address row hop k i left best reads ≡ Refused 9
    unfolding visit_from visit tell_visited
    visit_breaks z y = rw (f, lt-ltb i count h, ← e, sym s ∙ z, y) refl

-- ---- the tests before a row is read
module _ (most : ℕ) (rec : Bitmap) (rows : RowLists) (hops : List ℕ) (address : ℕ) {r : ℕ}
    (e : r ≡ bitmap_refusal most rec (row_room rows) (length hops) address) {a : Answer} where
  pub look_refused : (r ≡ 0 → ⊥) → a ≡ Refused r → a ≡ lookup_bitmap_of most rec rows hops address
  unfolding lookup_bitmap_of
  look_refused h f = f ∙ rw (← e, ne_eqb r 0 h) refl

  module _ (z : r ≡ 0) where
    pub look_empty : rec.supernodes ≡ 0 → a ≡ answer 0 0 0 → a ≡ lookup_bitmap_of most rec rows hops address
    unfolding lookup_bitmap_of visited_by tell_visited tell_best
    look_empty y f = f ∙ rw (eq-eqb _ 0 (sym e ∙ z), eq-eqb _ _ y) refl

    pub look_visits : (rec.supernodes ≡ 0 → ⊥)
        → a ≡ visit_from rec.width rec.supernodes rec.hops address (supernode_at rows) (at hops) (suc (rec.width / STEP)) 0 rec.width None 0
        → a ≡ lookup_bitmap_of most rec rows hops address
    unfolding lookup_bitmap_of visited_by visit_from
    look_visits y f = f ∙ rw (eq-eqb _ 0 (sym e ∙ z), ne_eqb _ _ y) refl
