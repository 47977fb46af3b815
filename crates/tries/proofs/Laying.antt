-- What `lay` gives: with the record's fields it is what the demands ask of a build; and it leaves nothing open: two results of one
-- call's promise are one.
use Prim.Native.Nat.{ℕ, ◌<◌}
use mathlib.Core.Path.{◌≡◌, sym, ap, ◌∙◌}
use mathlib.Core.List.{List}
use native.Mathlib.Omega.{arith}
use native.Mathlib.Decide.{dec_le}
use lib.ListN.{length}
use lib.Seq.{ext_get_or}
use Rattle.strides.specs.Trie.{Trie}
use Rattle.walk.specs.declared.record.Record.{Record}
use Rattle.walk.specs.Limits.{WIDTH}
use Rattle.walk.specs.Rows.{Row}
use Rattle.walk.specs.Rows.{Lists, lists, shortest, row_at, root}
use Rattle.layout.specs.Blocks.{Strides, stride_of, rows_of}
use Rattle.tries.specs.Filling.{LayAsks, LayGives}
use Rattle.layout.specs.Laid.{LaidTrie}
use Rattle.layout.proofs.Blocks.{hold_unique, rows_length}

-- a record with these fields beside the rows
pub lays_built : {σ : Strides} {t : Trie} {rows plan : List ℕ} {link w k e : ℕ} {ls ls' : Lists} (rec : Record)
    → LayAsks σ t rows plan link w k ls → LayGives σ t k ls e ls' → shortest ls' ≡ shortest ls → 0 < w → 0 < k
    → rec.width ≡ w → rec.levels ≡ k → rec.elements ≡ e → root rec ≡ stride_of σ k t → LaidTrie WIDTH σ t rec ls'
lays_built rec g o s pw pk ew ek ee er = record {
  width = (omega arith, omega (arith, g.trunk.narrow));
  levels = (omega arith, omega (arith, g.trunk.levels));
  good = rw (ew, ek) g.trunk.good;
  elements = rw ek (ee ∙ o.count);
  first = rw ek er;
  room = omega (arith, o.count, g.room.fits);
  rows = rw ek o.wrote;
}

-- ---- nothing is left open
lists_same : {a a' b b' c c' d d' : List ℕ} → a ≡ a' → b ≡ b' → c ≡ c' → d ≡ d' → lists a b c d ≡ lists a' b' c' d'
lists_same p q r s = rw (p, q, r, s)

-- lists of the same lengths that have the same rows are one
pub same_rows_one : {ls1 ls2 : Lists} → length ls1.hop ≡ length ls2.hop → length ls1.len ≡ length ls2.len → length ls1.link ≡ length ls2.link
    → length ls1.stride ≡ length ls2.stride → ((i : ℕ) → row_at ls1 i ≡ row_at ls2 i) → ls1 ≡ ls2
same_rows_one {ls1} {ls2} a b c d one =
    lists_same
    (ext_get_or 0 ls1.hop ls2.hop a (λ i l. ap (λ (v : Row). v.hop) (one i)))
    (ext_get_or 0 ls1.len ls2.len b (λ i l. ap (λ (v : Row). v.len) (one i)))
    (ext_get_or 0 ls1.link ls2.link c (λ i l. ap (λ (v : Row). v.link) (one i)))
    (ext_get_or 0 ls1.stride ls2.stride d (λ i l. ap (λ (v : Row). v.stride) (one i)))

module _ {σ : Strides} {t : Trie} where
  -- two builds with as many levels have the same rows
  module _ {k : ℕ} {ls : Lists} where
    rows_one : {e e' : ℕ} {ls1 ls2 : Lists} → LayGives σ t k ls e ls1 → LayGives σ t k ls e' ls2 → (i : ℕ) → row_at ls1 i ≡ row_at ls2 i
    rows_one {e} {ls1 = ls1} {ls2 = ls2} g h i = elim (dec_le e i) [
      | yes p ↦ g.after i p ∙ sym (h.after i (omega (arith, g.count, h.count)))
      | no p ↦ hold_unique ls1 ls2 0 (rows_of σ k t) g.wrote h.wrote i (omega arith) (omega (arith, rows_length σ t k, g.count))
    ]

    -- from one set of lists one set of lists comes, of the same lengths
    pub lay_unique : {e e' : ℕ} {ls1 ls2 : Lists} → LayGives σ t k ls e ls1 → LayGives σ t k ls e' ls2
        → length ls1.hop ≡ length ls2.hop → length ls1.len ≡ length ls2.len → length ls1.link ≡ length ls2.link → length ls1.stride ≡ length ls2.stride
        → (e ≡ e') × (ls1 ≡ ls2)
    lay_unique g h a b c d = (g.count ∙ sym h.count, same_rows_one a b c d (rows_one g h))
