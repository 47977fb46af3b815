-- How a walk goes on from a block, one law for each way that the block can end, in the terms in which a loop has them; and
-- how a lookup goes on from its tests.
use Prim.Native.Nat.{ℕ, zero, suc, ◌+◌, ◌-◌}
use mathlib.Core.Path.{◌≡◌, refl, sym, ap, ◌∙◌}
use mathlib.Core.Bool.{Bool, true, false, cond, not, ◌&&◌}
use native.Mathlib.Omega.{arith}
use lib.Dec.{leb, ltb, eqb}
use borrow.Author.Tests.{eq-eqb, ne_eqb, ltb-true, ltb-false, leb-true, leb-false}
use Rattle.walk.specs.declared.record.Record.{Record}
use Rattle.walk.specs.Cases.{Refused}
use Rattle.walk.specs.Rows.{Row, Lists, shortest, row_at, root, row_of}
use Rattle.walk.specs.Answers.{HopLength, floor_best, new_best, latest, answer}
use Rattle.walk.specs.Lookup.{readable, Trail, ended, behind, trail, tell, walk, from_root, path_of, refusal_of, first_refusal, lookup_of}
use Rattle.walk.specs.Meaning.{Readable, Damaged, no_stride, too_wide, past_end}
use Rattle.walk.proofs.Unique.{not_both}
use Rattle.walk.proofs.Tests.{first_passes}

module _ (e address base s left : ℕ) where
  -- the test says which of the two a block is
  pub read_cases : (P : Bool → Type 0) → (Readable e address base s left → P true) → (Damaged e address base s left → P false)
      → P (readable e address base s left)
  unfolding readable
  read_cases P f g = go (ltb 0 s) refl (leb s left) refl (ltb (row_of address base s left) e) refl
    where
      go : (t : Bool) → ltb 0 s ≡ t → (u : Bool) → leb s left ≡ u → (v : Bool) → ltb (row_of address base s left) e ≡ v → P (t && u && v)
      go false a u b v c = g (no_stride (omega (arith, ltb-false 0 s a)))
      go true a false b v c = g (too_wide (leb-false _ _ b))
      go true a true b false c = g (past_end (ltb-false _ _ c))
      go true a true b true c = f (record { stride = ltb-true _ _ a; fits = leb-true _ _ b; within = ltb-true _ _ c })

  readable_true : Readable e address base s left → readable e address base s left ≡ true
  readable_true h = read_cases (λ (t : Bool). t ≡ true) (λ g. refl) (λ d. absurd (not_both h d))

  readable_false : Damaged e address base s left → readable e address base s left ≡ false
  readable_false d = read_cases (λ (t : Bool). t ≡ false) (λ h. absurd (not_both h d)) (λ g. refl)

-- a row at the front is counted, and is the new best where its hop is not 0
tell_behind : (at : ℕ → Row) (best : HopLength) (reads r : ℕ) (t : Trail)
    → tell at best reads (behind r t) ≡ tell at (new_best (at r) best) (reads + 1) t
unfolding tell latest
tell_behind at best reads r t =
    let b = latest at (new_best (at r) best) t.rows in
    ap (λ (n : ℕ). cond t.whole (answer b.hop b.len n) (Refused 9)) (omega arith)

module _ (e address : ℕ) (at : ℕ → Row) (k base s left : ℕ) (best : HopLength) (reads : ℕ) where
  pub walk_stops : Damaged e address base s left → walk e address at k base s left best reads ≡ Refused 9
  unfolding walk trail tell
  walk_stops d = elim k as (λ (k : ℕ). walk e address at k base s left best reads ≡ Refused 9) [ zero ↦ refl | suc j ↦ rw (readable_false e address base s left d) ]

  pub walk_spends : k ≡ 0 → walk e address at k base s left best reads ≡ Refused 9
  unfolding walk trail tell
  walk_spends z = rw z

  module _ {j r : ℕ} {b : HopLength} (f : k ≡ suc j) (h : Readable e address base s left) (q : r ≡ row_of address base s left)
      (m : b ≡ new_best (at r) best) where
    pub walk_ends : (at r).link ≡ 0 → walk e address at k base s left best reads ≡ answer b.hop b.len (reads + 1)
    unfolding walk trail tell latest
    walk_ends z = rw (f, readable_true e address base s left h, ← q, eq-eqb _ _ z, m)

    pub walk_goes : ((at r).link ≡ 0 → ⊥) → walk e address at k base s left best reads
        ≡ walk e address at j (at r).link (at r).stride (left - s) b (reads + 1)
    unfolding walk trail
    walk_goes z = rw (f, readable_true e address base s left h, ← q, ne_eqb _ _ z, m) (tell_behind at best reads r _)

module _ (rec : Record) (ls : Lists) (address : ℕ) where
  pub path_empty : root rec ≡ 0 → path_of rec ls address ≡ ended
  unfolding path_of
  path_empty z = rw (eq-eqb _ _ z)

  pub path_root : (root rec ≡ 0 → ⊥) → path_of rec ls address ≡ from_root rec ls address
  unfolding path_of
  path_root z = rw (ne_eqb _ _ z)

module _ (most : ℕ) (rec : Record) (ls : Lists) (address : ℕ) where
  pub lookup_early : {n : ℕ} → n ≡ refusal_of most rec (shortest ls) address → (n ≡ 0 → ⊥) → lookup_of most rec ls address ≡ Refused n
  unfolding lookup_of
  lookup_early e h = rw (← e, ne_eqb _ _ h)

  module _ (e : refusal_of most rec (shortest ls) address ≡ 0) where
    lookup_empty : root rec ≡ 0 → lookup_of most rec ls address ≡ answer rec.floor 0 0
    unfolding lookup_of tell latest
    lookup_empty z = rw (eq-eqb _ _ e, path_empty rec ls address z)

    pub lookup_walks : (root rec ≡ 0 → ⊥) → lookup_of most rec ls address
        ≡ walk rec.elements address (row_at ls) rec.levels 0 (root rec) rec.width (floor_best rec.floor) 0
    unfolding lookup_of walk
    lookup_walks z = rw (eq-eqb _ _ e, path_root rec ls address z)

  -- where the root's stride is 0: the empty trie, or damage
  pub lookup_rootless : first_refusal most rec (shortest ls) address ≡ 0 → root rec ≡ 0
      → lookup_of most rec ls address ≡ cond (eqb rec.elements 0) (answer rec.floor 0 0) (Refused 9)
  lookup_rootless e z = go (eqb rec.elements 0) (first_passes most rec (shortest ls) address e ∙ rw (eq-eqb _ _ z) refl)
    where
      go : (t : Bool) → refusal_of most rec (shortest ls) address ≡ cond (not t && true) 9 0
          → lookup_of most rec ls address ≡ cond t (answer rec.floor 0 0) (Refused 9)
      go true p = lookup_empty p z
      go false p = lookup_early (sym p) (λ h. omega arith)
