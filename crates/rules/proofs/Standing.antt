-- Source tries laid one after the other: what one more adds to those that stand, and that those stay.
use mathlib.Core.Path.{◌≡◌, refl, sym, ap, subst, ◌∙◌}
use mathlib.Core.Bool.{Bool, true, false, cond}
use mathlib.Core.List.{List, [], ◌∷◌}
use mathlib.Core.Logic.{⊎_elim}
use Prim.Native.Nat.{ℕ, zero, suc, ◌+◌, ◌-◌, ◌*◌, ◌≤◌, ◌<◌}
use native.Mathlib.Nat.{le_trans, eq-or-lt_of_le, le_of_suc-le-suc}
use native.Mathlib.Numerals.{add-one}
use native.Mathlib.Omega.{arith}
use lib.ListN.{length}
use Rattle.table.specs.Table.{at}
use Rattle.table.specs.Lists.{padded}
use Rattle.strides.specs.Cheapest.{Kind}
use Rattle.strides.specs.Recurrence.{plain}
use Rattle.strides.specs.Strides.{chosen_by}
use Rattle.walk.specs.Limits.{WIDTH, HOPS}
use Rattle.walk.specs.Rows.{Lists, shortest, row_at, root}
use Rattle.walk.specs.Rows.{Row}
use Rattle.walk.specs.declared.record.Record.{Record}
use Rattle.layout.specs.Blocks.{Strides, rows_of, Hold}
use Rattle.layout.specs.Laid.{table_trie, Laid}
use Rattle.layout.proofs.Blocks.{rows_length}
use Rattle.fields.specs.Runs.{part, sum_first, last_before}
use Rattle.verdicts.specs.Limits.{trie_row_cells}
use Rattle.verdicts.specs.declared.tries.TrieRow.{TrieRow}
use Rattle.verdicts.specs.Tries.{trie_row, source_record, from_place}
use Rattle.verdicts.proofs.Alone.{row_from, shortest_from}
use Rattle.tries.specs.Limits.{ELEMENTS}
use Rattle.rules.specs.Splitting.{SplitRules, split_table, split_trie}
use Rattle.rules.specs.Build.{SameRoom}
use Rattle.rules.specs.Laying.{CanLayAt, LaysSource, next_of, source_cost, place_of, SourceStands, CanLaySources, LaidTo}
use Rattle.rules.proofs.Sums.{sum_mono}

-- the last one before g is at most g
pub last_few : (P : ℕ → Bool) (g : ℕ) → last_before P g ≤ g
unfolding last_before
last_few P zero = omega arith
last_few P (suc g) = go (P g) (last_few P g)
  where
    go : (t : Bool) → last_before P g ≤ g → cond t (suc g) (last_before P g) ≤ suc g
    go true h = omega arith
    go false h = omega arith

-- ---- rows that stay are still held

hold_kept : (ls ls' : Lists) (b : ℕ) (rs : List Row) → ((i : ℕ) → i < length rs → row_at ls' (b + i) ≡ row_at ls (b + i)) → Hold ls b rs → Hold ls' b rs
hold_kept ls ls' b [] same h = tt
hold_kept ls ls' b (x ∷ rs) same h =
    let e : b + 0 ≡ b = omega arith in
    let here : row_at ls' b ≡ row_at ls b = rw e at (same 0 (omega arith)) in
    (here ∙ h.0, hold_kept ls ls' (suc b) rs (λ i l. let d : b + suc i ≡ suc b + i = omega arith in rw d at (same (suc i) (omega arith))) h.1)

pub same_shortest : {rows rows' : Lists} → SameRoom rows rows' → shortest rows' ≡ shortest rows
same_shortest r = omega (arith, r.hops, r.lens, r.links, r.strides)

-- a trie whose rows stay is still laid
pub laid_kept : {W : ℕ} {vs ls hs : List ℕ} {σ : Strides} {k : ℕ} {rec : Record} (q : ℕ) (rows rows' : Lists) → shortest rows' ≡ shortest rows
    → ((i : ℕ) → q ≤ i → i < q + rec.elements → row_at rows' i ≡ row_at rows i)
    → Laid WIDTH W vs ls hs σ k rec (from_place q rows) → Laid WIDTH W vs ls hs σ k rec (from_place q rows')
laid_kept {W} {vs} {ls} {hs} {σ} {k} {rec} q rows rows' short same g = record {
  table = g.table;
  width = g.width;
  levels = g.levels;
  floor = g.floor;
  built = record {
    width = g.built.width;
    levels = g.built.levels;
    good = g.built.good;
    elements = g.built.elements;
    first = g.built.first;
    room = subst (λ (n : ℕ). rec.elements ≤ n) (shortest_from q rows ∙ ap (λ (n : ℕ). n - q) (sym short) ∙ sym (shortest_from q rows')) g.built.room;
    rows = hold_kept (from_place q rows) (from_place q rows') 0 (rows_of σ rec.levels (table_trie W vs ls hs)) held g.built.rows;
  };
}
  where
    held : (i : ℕ) → i < length (rows_of σ rec.levels (table_trie W vs ls hs)) → row_at (from_place q rows') (0 + i) ≡ row_at (from_place q rows) (0 + i)
    held i l =
        let n = rows_length σ (table_trie W vs ls hs) rec.levels in
        row_from q rows' (0 + i) ∙ same (q + (0 + i)) (omega arith) (omega (arith, n, g.built.elements)) ∙ sym (row_from q rows (0 + i))

-- of its record a lookup reads what a row of the list has
pub laid_row : {W : ℕ} {vs ls hs : List ℕ} {σ : Strides} {k : ℕ} {rec : Record} {rows : Lists} (t : TrieRow) → t.floor ≡ rec.floor → t.root ≡ root rec
    → t.elements ≡ rec.elements → Laid WIDTH W vs ls hs σ k rec rows → Laid WIDTH W vs ls hs σ k (source_record W k t) rows
unfolding padded
laid_row {W} {vs} {ls} {hs} {σ} {k} {rec} {rows} t ef er ee g = record {
  table = g.table;
  width = refl;
  levels = refl;
  floor = ef ∙ g.floor;
  built = record {
    width = rw g.width at g.built.width;
    levels = rw g.levels at g.built.levels;
    good = rw (g.width, g.levels) at g.built.good;
    elements = ee ∙ rw g.levels at g.built.elements;
    first = er ∙ rw g.levels at g.built.first;
    room = rw ee g.built.room;
    rows = rw g.levels at g.built.rows;
  };
}

-- ---- rows of the list that stay

same_row : (list list' : List ℕ) (g : ℕ) → ((i : ℕ) → i < g * trie_row_cells + trie_row_cells → at list' i ≡ at list i) → trie_row list' g ≡ trie_row list g
same_row list list' g same =
    rw (
      same (g * trie_row_cells) (omega arith),
      same (g * trie_row_cells + 1) (omega arith),
      same (g * trie_row_cells + 2) (omega arith),
      same (g * trie_row_cells + 3) (omega arith),
      same (g * trie_row_cells + 4) (omega arith),
    ) refl

module _ (kind : Kind) (W k : ℕ) (s : SplitRules) where
  abbrev cost : ℕ → ℕ
  cost = source_cost kind W k s

  -- a source trie whose rows and whose row of the list stay still stands
  stands_kept : (start : ℕ) (rows rows' : Lists) (list list' : List ℕ) (g : ℕ) → shortest rows' ≡ shortest rows
      → ((i : ℕ) → i < place_of kind W k s start g + cost g → row_at rows' i ≡ row_at rows i)
      → ((i : ℕ) → i < g * trie_row_cells + trie_row_cells → at list' i ≡ at list i) → SourceStands kind W k s start rows list g → SourceStands kind W k s start rows' list' g
  stands_kept start rows rows' list list' g short same_rows same-list t =
      let e : trie_row list' g ≡ trie_row list g = same_row list list' g same-list in
      let here = laid_kept (trie_row list g).place rows rows' short (λ i l h. same_rows i (omega (arith, t.placed, t.count))) t.laid in
      let v = split_table s (suc g) in
      record {
        laid = subst (λ (r : TrieRow). Laid WIDTH W v.vals v.lens v.hops (chosen_by plain kind k (split_trie W s (suc g))) k (source_record W k r) (from_place r.place rows')) (sym e) here;
        placed = ap (λ (r : TrieRow). r.place) e ∙ t.placed;
        count = ap (λ (r : TrieRow). r.elements) e ∙ t.count;
        floor = subst (λ (n : ℕ). n < HOPS) (sym (same-list (g * trie_row_cells) (omega arith))) t.floor;
        next = ap (λ (r : TrieRow). r.next) e ∙ t.next;
      }

  -- what a source trie that was just laid is
  stands_new : (start : ℕ) {rows rows' : Lists} {list list' : List ℕ} (g : ℕ) {place r : ℕ} → place ≡ place_of kind W k s start g
      → let v = split_table s (suc g) in LaysSource kind W k v.vals v.lens v.hops place (next_of W s.vals s.lens g) rows list g r rows' list'
      → SourceStands kind W k s start rows' list' g
  stands_new start {rows} {rows'} {list} {list'} g {place} {r} e l =
      let row = l.puts.put in
      let v = split_table s (suc g) in
      let p : (trie_row list' g).place ≡ place = ap (λ (t : TrieRow). t.place) row in
      record {
        laid = subst (λ (q : ℕ). Laid WIDTH W v.vals v.lens v.hops (chosen_by plain kind k (split_trie W s (suc g))) k (source_record W k (trie_row list' g)) (from_place q rows')) (sym p)
            (laid_row (trie_row list' g) (ap (λ (t : TrieRow). t.floor) row) (ap (λ (t : TrieRow). t.root) row) (ap (λ (t : TrieRow). t.elements) row) l.lays.laid);
        placed = p ∙ e;
        count = ap (λ (t : TrieRow). t.elements) row ∙ l.lays.count;
        floor = l.puts.floor;
        next = ap (λ (t : TrieRow). t.next) row;
      }

  -- one more
  pub laid_on : (start : ℕ) {rows₀ rows rows' : Lists} {list₀ list list' : List ℕ} {g place r : ℕ} → g < length s.vals
      → LaidTo kind W k s start rows₀ list₀ g place rows list
      → let v = split_table s (suc g) in LaysSource kind W k v.vals v.lens v.hops place (next_of W s.vals s.lens g) rows list g r rows' list'
      → length list' ≡ length list → LaidTo kind W k s start rows₀ list₀ (suc g) (place + r) rows' list'
  unfolding sum_first
  laid_on start {rows₀} {rows} {rows'} {list₀} {list} {list'} {g} {place} {r} h t l long =
      let room = l.lays.room in
      let short : shortest rows' ≡ shortest rows = same_shortest room in
      record {
        inside = h;
        reached = omega (arith, t.reached, l.counted, l.lays.count);
        stands = stands;
        before = λ i b. l.lays.before i (omega (arith, t.reached)) ∙ t.before i b;
        after = λ i b. l.lays.after i (omega (arith, l.counted)) ∙ t.after i (omega arith);
        rest = λ i b. l.puts.after i (omega arith) ∙ t.rest i (omega arith);
        room = record { hops = room.hops ∙ t.room.hops; lens = room.lens ∙ t.room.lens; links = room.links ∙ t.room.links; strides = room.strides ∙ t.room.strides };
        long = long ∙ t.long;
      }
    where
      stands : (j : ℕ) → j < suc g → SourceStands kind W k s start rows' list' j
      stands j b = ⊎_elim (λ (e : j ≡ g). rw e (stands_new start g t.reached l))
          (λ (q : j < g). stands_kept start rows rows' list list' j (same_shortest l.lays.room) (λ i c. l.lays.before i (omega (arith, t.reached, sum_mono cost j g q)))
          (λ i c. l.puts.before i (omega arith)) (t.stands j q)) (eq-or-lt_of_le (le_of_suc-le-suc b))

  -- ---- as the code counts: g + 1 is the next

  pub laid_next : (start : ℕ) {rows₀ rows rows' : Lists} {list₀ list list' : List ℕ} {g place r : ℕ} → g < length s.vals
      → LaidTo kind W k s start rows₀ list₀ g place rows list
      → let i = at s.first g in let j = at s.first (g + 1) in
      LaysSource kind W k (part i j s.svals) (part i j s.slens) (part i j s.actions) place (next_of W s.vals s.lens g) rows list g r rows' list'
      → length list' ≡ length list → LaidTo kind W k s start rows₀ list₀ (g + 1) (place + r) rows' list'
  laid_next start {rows₀} {rows} {rows'} {list₀} {list} {list'} {g} {place} {r} h t l long =
      subst (λ (n : ℕ). LaidTo kind W k s start rows₀ list₀ n (place + r) rows' list') (sym (add-one g)) (laid_on start h t l long)

  module _ {start words : ℕ} {rows₀ rows : Lists} {list₀ list : List ℕ} {g place : ℕ} (can : CanLaySources kind W k s start words rows₀ list₀)
      (t : LaidTo kind W k s start rows₀ list₀ g place rows list) where
    -- where the first g end, the next one fits
    next_fits : g < length s.vals → place + cost g ≤ place_of kind W k s start (length s.vals)
    next_fits h = omega (arith, t.reached, sum_mono cost g (length s.vals) h)

    pub source_place_few : place ≤ ELEMENTS
    source_place_few =
        ⊎_elim (λ (e : g ≡ length s.vals). omega (arith, t.reached, ap (place_of kind W k s start) e, can.few))
        (λ (l : g < length s.vals). omega (arith, next_fits l, can.few)) (eq-or-lt_of_le t.inside)

    pub may_lay_source : g < length s.vals → let u = split_table s (suc g) in CanLayAt kind W k u.vals u.lens u.hops words place rows
    may_lay_source h =
        let short : shortest rows ≡ shortest rows₀ = same_shortest t.room in
        record {
          plan = can.split.plans (suc g) h;
          roomy = can.roomy (suc g) h;
          fits = rw short (le_trans (next_fits h) can.fits);
          few = omega (arith, next_fits h, can.few);
        }

    pub may_list : g < length s.vals → g * trie_row_cells + trie_row_cells ≤ length list
    may_list h = omega (arith, t.long, can.long)

  -- before the first
  pub laid_none : (start : ℕ) (rows : Lists) (list : List ℕ) → LaidTo kind W k s start rows list 0 start rows list
  unfolding sum_first
  laid_none start rows list = record {
    inside = omega arith;
    reached = omega arith;
    stands = λ j h. absurd (omega arith);
    before = λ i h. refl;
    after = λ i h. refl;
    rest = λ i h. refl;
    room = record { hops = refl; lens = refl; links = refl; strides = refl };
    long = refl;
  }
