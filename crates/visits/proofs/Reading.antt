-- What a lookup reads, over any record and any lists (02 [1]: demand 3's last sentence, "with these for blocks, that bound for k, and the
-- winning hop's row besides"): as many supernodes as there are on its path, at most W / 4 + 1, each below the count; and nothing but the
-- record, their rows and the winner's hop can change its answer.
use Prim.Native.Nat.{ℕ, suc, ◌+◌, ◌-◌, ◌/◌, ◌≤◌, ◌<◌}
use mathlib.Core.Path.{◌≡◌, refl, sym, ap, ◌∙◌}
use mathlib.Core.Bool.{Bool, true, false, cond}
use mathlib.Core.List.Memᴰ
use mathlib.Core.List.{List, Memᴰ}
use mathlib.Core.Logic.{inl, inr}
use native.Mathlib.Omega.{arith}
use native.Mathlib.Decide.{dec_le}
use lib.Dec.{eqb, leb}
use lib.ListN.{length}
use borrow.Author.Tests.{eqb-true, eqb-false, leb-false}
use Rattle.table.specs.Table.{at}
use Rattle.walk.specs.Cases.{Answer}
use Rattle.walk.specs.Cases.{Refused}
use Rattle.walk.specs.Answers.{number_of, reads_of, NotRefused, answer}
use Rattle.walk.proofs.Answers.{refused_none}
use Rattle.pieces.specs.Maps.{STEP}
use Rattle.pieces.specs.Rows.{SupernodeRow}
use Rattle.visits.specs.Winner.{Best}
use Rattle.std.specs.Prelude.{None, Some}
use Rattle.visits.specs.declared.record.Bitmap.{Bitmap}
use Rattle.visits.specs.Rows.{RowLists, row_room, supernode_at}
use Rattle.visits.specs.Lookup.{arrived, from_first, visited_by, path_numbers, path_winner, tell_best, tell_visited, lookup_bitmap_of}
use Rattle.visits.specs.Meaning.{Way, past, last, above, on, OnWay, empty, visited, winning_hop, InCount, LookedBitmap}
use Rattle.visits.proofs.Tests.{bitmap_tests_same}
use Rattle.visits.proofs.Means.{visit_way}
use Rattle.visits.proofs.Unique.{way_unique}

-- ---- a way
module _ {count address : ℕ} {row : ℕ → SupernodeRow} where
  way_length : {i left : ℕ} {b c : Best} {is : List ℕ} {w : Bool} → Way count address row i left b is c w → length is ≤ suc (left / STEP)
  way_length (past h) = omega arith
  way_length (last h a s) = omega arith
  way_length (above h a s l) = omega arith
  way_length (on h a s l p) = omega (arith, way_length p)

  way_below : {i left : ℕ} {b c : Best} {is : List ℕ} {w : Bool} → Way count address row i left b is c w → (r : ℕ) → Memᴰ r is → r < count
  way_below (past h) r m = absurd (Memᴰ.not-nil m)
  way_below (last h a s) r m = rw (Memᴰ.eq_of_singleton m) h
  way_below (above h a s l) r m = rw (Memᴰ.eq_of_singleton m) h
  way_below (on h a s l p) r m = elim (Memᴰ.cases_cons m) [ inl q ↦ rw q h | inr n ↦ way_below p r n ]

  -- the same rows on it, the same way
  way_local : {row' : ℕ → SupernodeRow} {i left : ℕ} {b c : Best} {is : List ℕ} {w : Bool} → Way count address row i left b is c w
      → ((r : ℕ) → Memᴰ r is → row r ≡ row' r) → Way count address row' i left b is c w
  way_local (past h) same = past h
  way_local (last h a s) same = let e = same _ (Memᴰ.head refl) in last h (rw e at a) (rw e at s)
  way_local (above h a s l) same = let e = same _ (Memᴰ.head refl) in above h (rw e at a) (rw e at s) l
  way_local (on h a s l p) same =
      let e = same _ (Memᴰ.head refl) in
      on h (rw e at a) (rw e at s) l (rw e at (way_local p (λ r m. same r (Memᴰ.tail m))))

-- ---- the way of a lookup
module _ (rec : Bitmap) (rows : RowLists) (address : ℕ) where
  -- each supernode visited is below the count
  pub numbers_below : (r : ℕ) → Memᴰ r (path_numbers rec rows address) → r < rec.supernodes
  unfolding visited_by
  numbers_below r = go (eqb rec.supernodes 0)
    where
      go : (z : Bool) → Memᴰ r (cond z (arrived None) (from_first rec rows address)).numbers → r < rec.supernodes
      go true m = absurd (Memᴰ.not-nil m)
      go false m = way_below (visit_way _ _ _ _ _ _ _ refl) r m

  -- the path's supernodes and its winner are those of the rule
  pub way_numbers : {is : List ℕ} {b : Best} → OnWay rec rows address is b → (path_numbers rec rows address ≡ is) × (path_winner rec rows address ≡ b)
  unfolding visited_by
  way_numbers {is = is} {b = b} o = go (eqb rec.supernodes 0) refl o
    where
      go : {is : List ℕ} {b : Best} (z : Bool) → eqb rec.supernodes 0 ≡ z → OnWay rec rows address is b →
          let v = cond z (arrived None) (from_first rec rows address) in (v.numbers ≡ is) × (v.best ≡ b)
      go true e (empty z) = (refl, refl)
      go true e (visited h w) = absurd (omega (arith, eqb-true rec.supernodes 0 e))
      go false e (empty z) = absurd (eqb-false rec.supernodes 0 e z)
      go false e (visited h w) = let u = way_unique (visit_way _ _ _ _ _ _ _ refl) w in (u.0, u.1)

module _ {most : ℕ} {rec : Bitmap} {rows : RowLists} {hops : List ℕ} {address : ℕ} {a : Answer} (l : LookedBitmap most rec rows hops address a) where
  -- an accepted lookup has as many reads as there are supernodes on its path
  pub reads_numbers : NotRefused a → reads_of a ≡ length (path_numbers rec rows address)
  reads_numbers z = let t = l.told z in t.5 ∙ ap length (sym (way_numbers rec rows address t.2).0)

  -- no lookup has more reads than W / 4 and one
  pub reads_bound : reads_of a ≤ suc (rec.width / STEP)
  reads_bound = elim (dec_le (number_of a) 0) [
    | yes z ↦ let t = l.told (omega arith) in omega (arith, t.5, few t.2)
    | no z ↦ omega (arith, refused_none a (omega arith))
  ]
    where
      few : {is : List ℕ} {b : Best} → OnWay rec rows address is b → length is ≤ suc (rec.width / STEP)
      few (empty z) = omega arith
      few (visited h w) = way_length w

-- two sets of lists agree at the rows of the first's path and, where its winner is below the count, at the winner's hop
module _ (rec : Bitmap) (address : ℕ) (rows rows' : RowLists) (hops hops' : List ℕ)
    (same : (r : ℕ) → Memᴰ r (path_numbers rec rows address) → supernode_at rows r ≡ supernode_at rows' r)
    (same-hop : InCount (path_winner rec rows address) rec.hops → winning_hop hops (path_winner rec rows address) ≡ winning_hop hops' (path_winner rec rows address)) where
  -- then the way is one
  way_same : let v = visited_by rec rows address in let v' = visited_by rec rows' address in
      (v.numbers ≡ v'.numbers) × (v.best ≡ v'.best) × (v.whole ≡ v'.whole)
  unfolding visited_by
  way_same = go (eqb rec.supernodes 0) same
    where
      go : (z : Bool) → ((r : ℕ) → Memᴰ r (cond z (arrived None) (from_first rec rows address)).numbers → supernode_at rows r ≡ supernode_at rows' r) →
          let v = cond z (arrived None) (from_first rec rows address) in let v' = cond z (arrived None) (from_first rec rows' address) in
          (v.numbers ≡ v'.numbers) × (v.best ≡ v'.best) × (v.whole ≡ v'.whole)
      go true s = (refl, refl, refl)
      go false s = way_unique (way_local (visit_way _ _ _ _ _ _ _ refl) s) (visit_way _ _ _ _ _ _ _ refl)

  best_same : (b : Best) (n reads : ℕ) → (InCount b n → winning_hop hops b ≡ winning_hop hops' b)
      → tell_best rec.width n (at hops) b reads ≡ tell_best rec.width n (at hops') b reads
  unfolding tell_best
  best_same None n reads f = refl
  best_same (Some w) n reads f = go (leb n w.place) refl
    where
      go : (z : Bool) → leb n w.place ≡ z
          → cond z (Refused 9) (answer (at hops w.place) (rec.width - w.left) reads) ≡ cond z (Refused 9) (answer (at hops' w.place) (rec.width - w.left) reads)
      go true e = refl
      go false e = ap (λ (h : ℕ). answer h (rec.width - w.left) reads) (f (leb-false _ _ e))

  -- and the answer, where no list is shorter than its count
  pub lookup_alone : (most : ℕ) → rec.supernodes ≤ row_room rows → rec.supernodes ≤ row_room rows' → rec.hops ≤ length hops → rec.hops ≤ length hops'
      → lookup_bitmap_of most rec rows hops address ≡ lookup_bitmap_of most rec rows' hops' address
  unfolding lookup_bitmap_of tell_visited
  lookup_alone most a b c d =
      let w = way_same in
      let tests = bitmap_tests_same most rec (row_room rows) (row_room rows') (length hops) (length hops') address a b c d in
      let told = best_same (path_winner rec rows address) rec.hops (0 + length (path_numbers rec rows address)) same-hop in
      rw (tests, told, w.0, w.1, w.2) refl
