-- What a lookup reads (demand 3): as many rows as its path has blocks, at most k, each below E; and nothing off the path
-- can change its answer.
use Prim.Native.Nat.{ℕ, ◌≤◌, ◌<◌}
use mathlib.Core.Path.{◌≡◌, refl, ap, ◌∙◌}
use mathlib.Core.Bool.{Bool, true, false, cond}
use mathlib.Core.List.Memᴰ
use mathlib.Core.List.{List, Memᴰ}
use native.Mathlib.Omega.{arith}
use native.Mathlib.Decide.{dec_le}
use lib.Dec.{eqb}
use lib.ListN.{length}
use Rattle.walk.specs.declared.record.Record.{Record}
use Rattle.walk.specs.Cases.{Answer}
use Rattle.walk.specs.Rows.{Lists, shortest, row_at, root}
use Rattle.walk.specs.Answers.{number_of, hop_of, length_of, reads_of, NotRefused, Carries, floor_best, latest}
use Rattle.walk.specs.Lookup.{Trail, ended, tell, from_root, path_of, path_rows, lookup_of}
use Rattle.walk.specs.Meaning.{OnPath, empty, walked, Looked}
use Rattle.walk.proofs.Tests.{tests_same}
use Rattle.walk.proofs.Walks.{path_empty, path_root}
use Rattle.walk.proofs.Answers.{refused_none}
use Rattle.walk.proofs.Unique.{path_unique}
use Rattle.walk.proofs.Paths.{trail_path, path_length, path_below, path_local, latest_local}
use Rattle.walk.proofs.Looked.{looked}

module _ (rec : Record) (ls : Lists) (address : ℕ) where
  -- the path's rows are those of the rule
  pub path_rows_lem : {rs : List ℕ} → OnPath rec ls address rs → path_rows rec ls address ≡ rs
  path_rows_lem (empty z) = ap (λ (t : Trail). t.rows) (path_empty rec ls address z)
  path_rows_lem (walked g p) =
      ap (λ (t : Trail). t.rows) (path_root rec ls address (λ z. omega arith)) ∙ (path_unique (trail_path _ _ _ _ _ _ _) p).0

  -- each is below E
  pub rows_below : (r : ℕ) → Memᴰ r (path_rows rec ls address) → r < rec.elements
  unfolding path_of
  rows_below r = go (eqb (root rec) 0)
    where
      go : (z : Bool) → Memᴰ r (cond z ended (from_root rec ls address)).rows → r < rec.elements
      go true i = absurd (Memᴰ.not-nil i)
      go false i = path_below (trail_path _ _ _ _ _ _ _) r i

module _ (most : ℕ) (rec : Record) (ls : Lists) (address : ℕ) where
  -- what an accepted answer says, of the rule's own rows
  on_rows : {a : Answer} → Looked most rec ls address a → NotRefused a → OnPath rec ls address (path_rows rec ls address)
      × Carries a (latest (row_at ls) (floor_best rec.floor) (path_rows rec ls address)) (length (path_rows rec ls address))
  on_rows l z = let t = l.told z in rw (path_rows_lem rec ls address t.1) (t.1, t.2)

  module _ (z : NotRefused (lookup_of most rec ls address)) where
    -- an accepted lookup went along the path to its end
    pub rows_on_path : OnPath rec ls address (path_rows rec ls address)
    rows_on_path = (on_rows (looked most rec ls address) z).0

    -- it has as many reads as there are rows on it
    pub reads_path : reads_of (lookup_of most rec ls address) ≡ length (path_rows rec ls address)
    reads_path = (on_rows (looked most rec ls address) z).1.2

    -- and the hop and the length that they leave as best
    pub best_path : let b = latest (row_at ls) (floor_best rec.floor) (path_rows rec ls address) in
        (hop_of (lookup_of most rec ls address) ≡ b.hop) × (length_of (lookup_of most rec ls address) ≡ b.len)
    best_path = let o = (on_rows (looked most rec ls address) z).1 in (o.0, o.1)

  -- no lookup has more reads than k
  pub reads_most : reads_of (lookup_of most rec ls address) ≤ rec.levels
  reads_most = elim (dec_le (number_of a) 0) [
    | yes z ↦ let t = (looked most rec ls address).told (omega arith) in omega (arith, t.2.2, few t.1)
    | no z ↦ omega (arith, refused_none a (omega arith))
  ]
    where
      a : Answer
      a = lookup_of most rec ls address

      few : {rs : List ℕ} → OnPath rec ls address rs → length rs ≤ rec.levels
      few (empty z) = omega arith
      few (walked g p) = path_length p

-- two sets of lists agree at the rows of the first's path
module _ (rec : Record) (address : ℕ) (ls ls' : Lists) (same : (r : ℕ) → Memᴰ r (path_rows rec ls address) → row_at ls r ≡ row_at ls' r) where
  -- then the path is one
  pub path_same : ((path_of rec ls address).rows ≡ (path_of rec ls' address).rows) × ((path_of rec ls address).whole ≡ (path_of rec ls' address).whole)
  unfolding path_of
  path_same = go (eqb (root rec) 0) same
    where
      go : (z : Bool) → ((r : ℕ) → Memᴰ r (cond z ended (from_root rec ls address)).rows → row_at ls r ≡ row_at ls' r)
          → ((cond z ended (from_root rec ls address)).rows ≡ (cond z ended (from_root rec ls' address)).rows)
          × ((cond z ended (from_root rec ls address)).whole ≡ (cond z ended (from_root rec ls' address)).whole)
      go true s = (refl, refl)
      go false s = path_unique (path_local (trail_path _ _ _ _ _ _ _) s) (trail_path _ _ _ _ _ _ _)

  tell_same : tell (row_at ls) (floor_best rec.floor) 0 (path_of rec ls address) ≡ tell (row_at ls') (floor_best rec.floor) 0 (path_of rec ls' address)
  unfolding tell
  tell_same = rw (latest_local (row_at ls) (row_at ls') (floor_best rec.floor) (path_rows rec ls address) same, path_same.0, path_same.1)

  -- and the answer, where neither is shorter than E
  pub lookup_local : (most : ℕ) → rec.elements ≤ shortest ls → rec.elements ≤ shortest ls' → lookup_of most rec ls address ≡ lookup_of most rec ls' address
  unfolding lookup_of
  lookup_local most h h' = rw (tests_same most rec (shortest ls) (shortest ls') address h h', tell_same)
