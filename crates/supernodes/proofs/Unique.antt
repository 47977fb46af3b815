-- What the bitmap build's promise means leaves one result: outcome, record, scratch, all four row lists and the hop list, each whole.
use Prim.Native.Nat.{ℕ, suc, ◌+◌, ◌≤◌, ◌<◌}
use mathlib.Core.Path.{◌≡◌, refl, sym, ap, subst, ◌∙◌}
use mathlib.Core.List.{List, [], ◌∷◌}
use native.Mathlib.Nat.{eq-or-lt_of_le}
use native.Mathlib.Omega.{arith}
use native.Mathlib.Decide.{dec_le}
use mathlib.Core.Logic.{⊎_elim}
use lib.ListN.{length, get_or}
use lib.Seq.{ext_get_or}
use Rattle.table.specs.Refusals.{Outcome, Test, outcome, Gives}
use Rattle.std.specs.Prelude.{Ok, Err}
use Rattle.table.proofs.Refusals.{outcome_gives, gives_unique, gives_outcome, refused_not_accepted}
use Rattle.pieces.specs.BinaryTrie.{BinaryTrie, table_binary}
use Rattle.pieces.specs.Rows.{SupernodeRow, supernodes_of, bitmap_rows, bitmap_hops}
use Rattle.visits.specs.declared.record.Bitmap.{Bitmap}
use Rattle.visits.specs.Rows.{RowLists, row_lists, row_room, supernode_at, HoldRows, HoldHops}
use Rattle.supernodes.specs.Build.{up_to_scratch, bitmap_tests, BuildsBitmap}
use Rattle.supernodes.proofs.Filing.{rows_long}

-- ---- what holds the same is the same
hold_rows_one : (r s : RowLists) (b : ℕ) (xs : List SupernodeRow) → HoldRows r b xs → HoldRows s b xs → (i : ℕ) → b ≤ i → i < b + length xs → supernode_at r i ≡ supernode_at s i
hold_rows_one r s b [] p q i l h = absurd (omega arith)
hold_rows_one r s b (x ∷ xs) p q i l h = ⊎_elim (λ (e : b ≡ i). subst (λ (j : ℕ). supernode_at r j ≡ supernode_at s j) e (p.0 ∙ sym q.0))
    (λ (m : b < i). hold_rows_one r s (suc b) xs p.1 q.1 i m (omega arith)) (eq-or-lt_of_le l)

hold_hops_one : (r s : List ℕ) (b : ℕ) (xs : List ℕ) → HoldHops r b xs → HoldHops s b xs → (i : ℕ) → b ≤ i → i < b + length xs → get_or r i 0 ≡ get_or s i 0
hold_hops_one r s b [] p q i l h = absurd (omega arith)
hold_hops_one r s b (x ∷ xs) p q i l h = ⊎_elim (λ (e : b ≡ i). subst (λ (j : ℕ). get_or r j 0 ≡ get_or s j 0) e (p.0 ∙ sym q.0))
    (λ (m : b < i). hold_hops_one r s (suc b) xs p.1 q.1 i m (omega arith)) (eq-or-lt_of_le l)

bitmap_same : (r s : Bitmap) → r.width ≡ s.width → r.supernodes ≡ s.supernodes → r.hops ≡ s.hops → r ≡ s
bitmap_same r s w n h =
    ap (λ (x : ℕ). record { width = x; supernodes = r.supernodes; hops = r.hops }) w
    ∙ ap (λ (x : ℕ). record { width = s.width; supernodes = x; hops = r.hops }) n
    ∙ ap (λ (x : ℕ). record { width = s.width; supernodes = s.supernodes; hops = x }) h

row_lists_same : {a a' b b' c c' d d' : List ℕ} → a ≡ a' → b ≡ b' → c ≡ c' → d ≡ d' → row_lists a b c d ≡ row_lists a' b' c' d'
row_lists_same p q r s = rw (p, q, r, s)

module _ (W links : ℕ) (vs ls hs scratch : List ℕ) (rows : RowLists) (hops : List ℕ) {out out' : Outcome} {rec rec' : Bitmap} {s s' : List ℕ} {rows1 rows2 : RowLists}
    {hops1 hops2 : List ℕ} (c : BuildsBitmap W links vs ls hs scratch rows hops out rec s rows1 hops1) (d : BuildsBitmap W links vs ls hs scratch rows hops out' rec' s' rows2 hops2) where
  abbrev t : BinaryTrie
  t = table_binary W vs ls hs

  one_outcome : out ≡ out'
  one_outcome = gives_unique (bitmap_tests W links vs ls hs (length scratch) (row_room rows) (length hops)) out out' c.tested d.tested

  one_scratch : s ≡ s'
  one_scratch = go (outcome tests) refl
    where
      tests : List Test
      tests = up_to_scratch W links vs ls hs (length scratch)

      go : (o : Outcome) → outcome tests ≡ o → s ≡ s'
      go (Ok tt) e = let a = subst (Gives tests) e (outcome_gives tests) in c.zeroed a ∙ sym (d.zeroed a)
      go (Err x) e =
          let ne : Gives tests (Ok tt) → ⊥ = λ a. refused_not_accepted (sym e ∙ sym (gives_outcome tests (Ok tt) a)) in
          c.untouched ne ∙ sym (d.untouched ne)

  accepted_bitmap : out ≡ Ok tt → out' ≡ Ok tt → (rec ≡ rec') × (rows1 ≡ rows2) × (hops1 ≡ hops2)
  unfolding bitmap_rows
  accepted_bitmap e e' =
      let l = c.laid e in
      let l' = d.laid e' in
      let k = c.keeps in
      let k' = d.keeps in
      let n : rec.supernodes ≡ length (supernodes_of W t) = l.built.supernodes ∙ ap (λ (x : ℕ). length (supernodes_of x t)) l.width in
      let n' : rec'.supernodes ≡ length (supernodes_of W t) = l'.built.supernodes ∙ ap (λ (x : ℕ). length (supernodes_of x t)) l'.width in
      let m : rec.hops ≡ length (bitmap_hops W t) = l.built.hop_count ∙ ap (λ (x : ℕ). length (bitmap_hops x t)) l.width in
      let m' : rec'.hops ≡ length (bitmap_hops W t) = l'.built.hop_count ∙ ap (λ (x : ℕ). length (bitmap_hops x t)) l'.width in
      let p : HoldRows rows1 0 (bitmap_rows W t) = subst (λ (x : ℕ). HoldRows rows1 0 (bitmap_rows x t)) l.width l.built.row in
      let p' : HoldRows rows2 0 (bitmap_rows W t) = subst (λ (x : ℕ). HoldRows rows2 0 (bitmap_rows x t)) l'.width l'.built.row in
      let q : HoldHops hops1 0 (bitmap_hops W t) = subst (λ (x : ℕ). HoldHops hops1 0 (bitmap_hops x t)) l.width l.built.hop in
      let q' : HoldHops hops2 0 (bitmap_hops W t) = subst (λ (x : ℕ). HoldHops hops2 0 (bitmap_hops x t)) l'.width l'.built.hop in
      let row : (i : ℕ) → supernode_at rows1 i ≡ supernode_at rows2 i = λ i. elim (dec_le rec.supernodes i) [
        | yes y ↦ k.later e i y ∙ sym (k'.later e' i (omega (arith, n, n')))
        | no y ↦ hold_rows_one rows1 rows2 0 (bitmap_rows W t) p p' i (omega arith) (omega (arith, n, rows_long 1 0 (supernodes_of W t)))
      ] in
      let hop : (i : ℕ) → get_or hops1 i 0 ≡ get_or hops2 i 0 = λ i. elim (dec_le rec.hops i) [
        | yes y ↦ k.later_hop e i y ∙ sym (k'.later_hop e' i (omega (arith, m, m')))
        | no y ↦ hold_hops_one hops1 hops2 0 (bitmap_hops W t) q q' i (omega arith) (omega (arith, m))
      ] in (
        bitmap_same rec rec' (l.width ∙ sym l'.width) (n ∙ sym n') (m ∙ sym m'),
        row_lists_same
            (ext_get_or 0 rows1.internal rows2.internal (k.internal ∙ sym k'.internal) (λ i h. ap (λ (v : SupernodeRow). v.internal) (row i)))
            (ext_get_or 0 rows1.external rows2.external (k.external ∙ sym k'.external) (λ i h. ap (λ (v : SupernodeRow). v.external) (row i)))
            (ext_get_or 0 rows1.first_child rows2.first_child (k.first_child ∙ sym k'.first_child) (λ i h. ap (λ (v : SupernodeRow). v.first_child) (row i)))
            (ext_get_or 0 rows1.first_hop rows2.first_hop (k.first_hop ∙ sym k'.first_hop) (λ i h. ap (λ (v : SupernodeRow). v.first_hop) (row i))),
        ext_get_or 0 hops1 hops2 (k.hop_rows ∙ sym k'.hop_rows) (λ i h. hop i),
      )

  refused_bitmap : (out ≡ Ok tt → ⊥) → (out' ≡ Ok tt → ⊥) → (rec ≡ rec') × (rows1 ≡ rows2) × (hops1 ≡ hops2)
  refused_bitmap ne ne' =
      let r = c.keeps.refused ne in
      let r' = d.keeps.refused ne' in (
        bitmap_same rec rec' (r.0.width ∙ sym r'.0.width) (r.0.supernodes ∙ sym r'.0.supernodes) (r.0.hops ∙ sym r'.0.hops),
        r.1 ∙ sym r'.1,
        r.2 ∙ sym r'.2,
      )

  pub bitmap_unique : (out ≡ out') × (rec ≡ rec') × (s ≡ s') × (rows1 ≡ rows2) × (hops1 ≡ hops2)
  bitmap_unique =
      let o = one_outcome in
      let r = rest out refl o in
      (o, r.0, one_scratch, r.1, r.2)
    where
      rest : (x : Outcome) → out ≡ x → out ≡ out' → (rec ≡ rec') × (rows1 ≡ rows2) × (hops1 ≡ hops2)
      rest (Ok tt) e o = accepted_bitmap e (sym o ∙ e)
      rest (Err z) e o =
          refused_bitmap (λ (a : out ≡ Ok tt). refused_not_accepted (sym e ∙ a)) (λ (a : out' ≡ Ok tt). refused_not_accepted (sym e ∙ o ∙ a))
