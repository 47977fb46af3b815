-- One table gives one answer, however it is built: element rows of any kind and k, or tree bitmap arrays, in any room, for gateways with
-- any numbers of links. Over what the public calls promise: Builds and BuildsBitmap for the builds, Looked and LookedBitmap for the
-- lookups.
use mathlib.Core.Path.{◌≡◌}
use mathlib.Core.List.{List}
use Prim.Native.Nat.{ℕ, ◌^◌, ◌<◌}
use Rattle.table.specs.Refusals.{Outcome}
use Rattle.std.specs.Prelude.{Ok}
use Rattle.table.proofs.Unique.{longest_unique}
use Rattle.strides.specs.Cheapest.{Kind}
use Rattle.walk.specs.declared.record.Record.{Record}
use Rattle.walk.specs.Cases.{Answer}
use Rattle.walk.specs.Limits.{WIDTH}
use Rattle.walk.specs.Rows.{Lists}
use Rattle.walk.specs.Answers.{hop_of, length_of}
use Rattle.walk.specs.Meaning.{Looked}
use Rattle.tries.specs.Build.{Builds}
use Rattle.tries.proofs.Demands.{build_longest}
use Rattle.visits.specs.declared.record.Bitmap.{Bitmap}
use Rattle.visits.specs.Rows.{RowLists}
use Rattle.visits.specs.Meaning.{LookedBitmap}
use Rattle.supernodes.specs.Build.{BuildsBitmap}
use Rattle.supernodes.proofs.Demands.{bitmap_longest}

module _ {W links : ℕ} {vs ls hs scratch : List ℕ} {rows : RowLists} {hops : List ℕ} {out : Outcome} {rec : Bitmap} {s : List ℕ} {rows' : RowLists} {hops' : List ℕ}
    (b : BuildsBitmap W links vs ls hs scratch rows hops out rec s rows' hops') (e : out ≡ Ok tt) (a : ℕ) (h : a < 2 ^ W)
    {r : Answer} (l : LookedBitmap WIDTH rec rows' hops' a r) where
  -- supernodes beside elements
  pub one_table_layouts : {kind : Kind} {k links1 : ℕ} {scratch1 : List ℕ} {rows1 : Lists} {out1 : Outcome} {rec1 : Record} {s1 : List ℕ} {rows2 : Lists}
      → Builds kind W k links1 vs ls hs scratch1 rows1 out1 rec1 s1 rows2 → out1 ≡ Ok tt → {r1 : Answer} → Looked WIDTH rec1 rows2 a r1
      → (hop_of r ≡ hop_of r1) × (length_of r ≡ length_of r1)
  one_table_layouts c e1 l1 = longest_unique W vs ls hs (b.laid e).table a (bitmap_longest b e a h l).1 (build_longest c e1 a h l1).1

  -- supernodes beside supernodes
  pub one_table_bitmaps : {links1 : ℕ} {scratch1 : List ℕ} {rows1 : RowLists} {hops1 : List ℕ} {out1 : Outcome} {rec1 : Bitmap} {s1 : List ℕ} {rows2 : RowLists} {hops2 : List ℕ}
      → BuildsBitmap W links1 vs ls hs scratch1 rows1 hops1 out1 rec1 s1 rows2 hops2 → out1 ≡ Ok tt → {r1 : Answer} → LookedBitmap WIDTH rec1 rows2 hops2 a r1
      → (hop_of r ≡ hop_of r1) × (length_of r ≡ length_of r1)
  one_table_bitmaps c e1 l1 = longest_unique W vs ls hs (b.laid e).table a (bitmap_longest b e a h l).1 (bitmap_longest c e1 a h l1).1
