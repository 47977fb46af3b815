-- The lookup's way is one that the meaning allows.
use Prim.Native.Nat.{ℕ, zero, suc, ◌+◌, ◌-◌, ◌/◌, ◌<◌}
use mathlib.Core.Path.{◌≡◌, refl, subst}
use mathlib.Core.Bool.{Bool, true, false, cond}
use mathlib.Core.Logic.{◌⊎◌, inl, inr}
use native.Mathlib.Omega.{arith}
use lib.Dec.{eqb, ltb}
use borrow.Author.Tests.{eq-eqb, ne_eqb, ltb-true, ltb-false}
use Rattle.pieces.specs.Maps.{STEP, INTERNAL, EXTERNAL, place_on, bit_at, place_level}
use Rattle.pieces.specs.Rows.{SupernodeRow}
use Rattle.pieces.specs.Cuts.{path_at, found, ones_before, highest, child_at, Bit, NoBit, Matchable, IsLongest}
use Rattle.pieces.proofs.Places.{found_longest}
use Rattle.visits.specs.Winner.{Best}
use Rattle.visits.specs.Winner.{won}
use Rattle.visits.specs.Lookup.{better_of, best_after, Visited, arrived, lost, after_visit, visit}
use Rattle.visits.specs.Meaning.{After, kept, newest, Way, past, last, above, on}

-- ---- one supernode
pub better_after : (row : SupernodeRow) (p left : ℕ) (best : Best) → p < EXTERNAL → After row p left best (best_after row p left best)
unfolding better_of
better_after row p left best h = go (found_longest row.internal p left h)
  where
    on : ℕ
    on = found row.internal p left

    i : ℕ
    i = highest INTERNAL on

    go : ((on ≡ 0) × ((j : ℕ) → Matchable left j → NoBit row.internal (place_on p j)))
        ⊎ ((on ≡ 0 → ⊥) × IsLongest row.internal p left (place_level i) × (place_on p (place_level i) ≡ i))
        → After row p left best (cond (eqb on 0) best (won (row.first_hop + ones_before row.internal i) (left - place_level i)))
    go (inl a) = rw (eq-eqb on 0 a.0) (kept a.1)
    go (inr a) =
        rw (ne_eqb on 0 a.0)
        (subst (λ (x : ℕ). After row p left best (won (row.first_hop + ones_before row.internal x) (left - place_level i))) a.2 (newest (place_level i) a.1))

pub path_small : (address left : ℕ) → path_at address left < EXTERNAL
unfolding path_at
path_small address left = omega arith

-- ---- the way
module _ (count address : ℕ) (row : ℕ → SupernodeRow) where
  abbrev pub WayOf : (i left : ℕ) → Best → Visited → Type 0
  WayOf i left best v = Way count address row i left best v.numbers v.best v.whole

  module _ (i left : ℕ) (best : Best) where
    abbrev p : ℕ
    p = path_at address left

    abbrev now : Best
    now = best_after (row i) p left best

    after : After (row i) p left best now
    after = better_after (row i) p left best (path_small address left)

    -- this supernode, and then what comes behind the branch
    one_visit : (v : Visited) → (i < count → Bit (row i).external p → WayOf i left best (after_visit i v))
        → WayOf i left best (cond (ltb i count) (after_visit i (cond (bit_at (row i).external p) v (arrived now))) (lost best))
    one_visit v f = go (ltb i count) refl (bit_at (row i).external p) refl
      where
        go : (a : Bool) → ltb i count ≡ a → (s : Bool) → bit_at (row i).external p ≡ s
            → WayOf i left best (cond a (after_visit i (cond s v (arrived now))) (lost best))
        go false e s g = past (ltb-false _ _ e)
        go true e false g = last (ltb-true _ _ e) after g
        go true e true g = f (ltb-true _ _ e) g

  pub visit_way : (k i left : ℕ) (best : Best) → k ≡ left / STEP → WayOf i left best (visit count address row (suc k) i left best)
  unfolding visit
  visit_way zero i left best z = one_visit i left best _ (λ h s. above h (after i left best) s (omega arith))
  visit_way (suc k) i left best z =
      one_visit i left best _ (λ h s. on h (after i left best) s (omega arith) (visit_way k (child_at (row i) (p i left best)) (left - STEP) (now i left best) (omega arith)))
