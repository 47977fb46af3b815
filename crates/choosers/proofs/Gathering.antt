-- The sums over the rows below: a row is added number by number, rows are handed up, and a tree's sums are its two sides', one level
-- lower, and its own costs.
use mathlib.Core.Path.{◌≡◌, refl, ap, sym, subst, ◌∙◌}
use mathlib.Core.List.{List}
use mathlib.Core.Logic.{◌⊎◌, inl, inr, ⊎_elim}
use Prim.Native.Nat.{ℕ, zero, suc, max, ◌+◌, ◌-◌, ◌*◌, ◌≤◌, ◌<◌}
use native.Mathlib.Decide.{dec_le}
use native.Mathlib.Omega.{arith}
use lib.ListN.{length, get_or, set, replicate, length-set, length-replicate}
use lib.Seq.{get_or-set_same, get_or-set_other}
use Rattle.table.proofs.Zeroes.{zeros_read}
use Rattle.strides.specs.Trie.{Trie, none, node, depth, sum_below, sum_by}
use Rattle.strides.specs.Recurrence.{opt_by}
use Rattle.strides.proofs.Sums.{sum_deep}
use Rattle.walk.specs.Limits.{WIDTH}
use Rattle.choosers.specs.Limits.{cost_cap}
use Rattle.choosers.specs.Scratch.{ask, before_costs}
use Rattle.choosers.specs.Costs.{held, COLUMNS, Pass, sum_cells, slot, SmallSums, RowAdded, Lifted, HandedUp, sum_to, SumsIn, SumsOut, Sums, sum_lines}

pub same? : (a b : ℕ) → (a ≡ b) ⊎ (a ≡ b → ⊥)
same? a b = elim (dec_le a b) [ yes p ↦ elim (dec_le b a) [ yes q ↦ inl (omega arith) | no q ↦ inr (λ e. omega arith) ] | no p ↦ inr (λ e. omega arith) ]

-- ---- lines handed up

module _ (sums : List ℕ) (up down : ℕ) where
  pub lift_next : (sums1 : List ℕ) (n m v : ℕ) → up + n ≤ down → down + n ≤ length sums1 → m < n → Lifted sums up down m sums1
      → v ≡ held (get_or sums1 (up + m) 0 + get_or sums1 (down + m) 0) → Lifted sums up down (m + 1) (set (set sums1 (up + m) v) (down + m) 0)
  lift_next sums1 n m v h fit hm a e =
      let sums2 = set sums1 (up + m) v in
      let sums3 = set sums2 (down + m) 0 in
      let len : length sums2 ≡ length sums1 = length-set sums1 (up + m) v in
      let new : get_or sums3 (up + m) 0 ≡ v
      = get_or-set_other sums2 (down + m) (up + m) 0 0 (λ q. omega arith) ∙ get_or-set_same sums1 (up + m) v 0 (omega arith) in
      let clear : get_or sums3 (down + m) 0 ≡ 0 = get_or-set_same sums2 (down + m) 0 0 (omega arith) in
      let far : (i : ℕ) → (i ≡ up + m → ⊥) → (i ≡ down + m → ⊥) → get_or sums3 i 0 ≡ get_or sums1 i 0
      = λ i p q. get_or-set_other sums2 (down + m) i 0 0 q ∙ get_or-set_other sums1 (up + m) i v 0 p in
      let old-up : get_or sums1 (up + m) 0 ≡ get_or sums (up + m) 0 = a.between (up + m) (omega arith) (omega arith) in
      let old-down : get_or sums1 (down + m) 0 ≡ get_or sums (down + m) 0 = a.after (down + m) (omega arith) in
      record {
        lifted = λ i l. ⊎_elim
            (λ (z : i ≡ m). subst (λ (y : ℕ). get_or sums3 (up + y) 0 ≡ held (get_or sums (up + y) 0 + get_or sums (down + y) 0)) (sym z) (new ∙ omega arith))
            (λ (z : i ≡ m → ⊥). far (up + i) (λ q. omega arith) (λ q. omega arith) ∙ a.lifted i (omega arith)) (same? i m);
        gone = λ i l. ⊎_elim
            (λ (z : i ≡ m). subst (λ (y : ℕ). get_or sums3 (down + y) 0 ≡ 0) (sym z) clear)
            (λ (z : i ≡ m → ⊥). far (down + i) (λ q. omega arith) (λ q. omega arith) ∙ a.gone i (omega arith)) (same? i m);
        before = λ i l. far i (λ q. omega arith) (λ q. omega arith) ∙ a.before i l;
        between = λ i l g. far i (λ q. omega arith) (λ q. omega arith) ∙ a.between i (omega arith) g;
        after = λ i l. far i (λ q. omega arith) (λ q. omega arith) ∙ a.after i (omega arith);
        small = λ s i. ⊎_elim (λ (z : i ≡ up + m). subst (λ (x : ℕ). get_or sums3 x 0 ≤ cost_cap) (sym z) (omega (arith, new, e)))
            (λ (y : i ≡ up + m → ⊥). ⊎_elim (λ (z : i ≡ down + m). subst (λ (x : ℕ). get_or sums3 x 0 ≤ cost_cap) (sym z) (omega (arith, clear)))
            (λ (z : i ≡ down + m → ⊥). omega (arith, far i y z, a.small s i)) (same? i (down + m))) (same? i (up + m));
      }

pub handed_up : (from to : ℕ) (rows : List ℕ) (k j below m : ℕ) (sums sums1 sums2 : List ℕ) → Pass from to → j + m < below
    → Lifted sums ((j + 1) * COLUMNS) (below * COLUMNS) (m * COLUMNS) sums1 → RowAdded from to rows k j sums1 sums2 → HandedUp from to rows k j below m sums sums2
handed_up from to rows k j below m sums sums1 sums2 pass h a b = record {
  own = λ r some lo hi. b.here r some lo hi
      ∙ ap (λ (x : ℕ). held (x + ask rows k (before_costs + r))) (a.before (j * COLUMNS + (r - from)) (omega (arith, pass.few)));
  lifted = λ i c hi hc.
      let e : (j + 1) * COLUMNS + (i * COLUMNS + c) ≡ (j + suc i) * COLUMNS + c = omega arith in
      let f : below * COLUMNS + (i * COLUMNS + c) ≡ (below + i) * COLUMNS + c = omega arith in
      past ((j + suc i) * COLUMNS + c) (omega arith) ∙ rw (e, f) at (a.lifted (i * COLUMNS + c) (omega arith));
  gone = λ i lo hi. let e : below * COLUMNS + (i - below * COLUMNS) ≡ i = omega arith in past i (omega arith) ∙ rw e at (a.gone (i - below * COLUMNS) (omega arith));
  before = λ i l. b.before i l ∙ a.before i (omega arith);
  between = λ i lo hi. past i (omega arith) ∙ a.between i (omega arith) hi;
  after = λ i l. past i (omega arith) ∙ a.after i (omega arith);
  small = λ s. b.small (a.small s);
}
  where
    past : (i : ℕ) → (j + 1) * COLUMNS ≤ i → get_or sums2 i 0 ≡ get_or sums1 i 0
    past i l = b.after i (omega (arith, pass.few))

-- ---- the sums of a tree

down_next : (w : ℕ) → 0 < w → sum_to w ≡ w + sum_to (w - 1)
unfolding sum_to
down_next zero h = absurd (omega arith)
down_next (suc w) h = let e : suc w - 1 ≡ w = omega arith in rw e

-- the last line is only read
down_twice : (w : ℕ) → w + w ≤ sum_to w + 1
unfolding sum_to
down_twice zero = omega arith
down_twice (suc zero) = omega arith
down_twice (suc (suc w)) = omega (arith, down_twice (suc w))

pub lines_enough : sum_to WIDTH + 1 ≡ sum_lines
unfolding sum_to
lines_enough = refl

-- at the root of all, with no sum yet
pub sums_start : SumsIn 0 WIDTH (replicate sum_cells 0)
sums_start = record {
  long = length-replicate {A = ℕ} sum_cells 0;
  room = omega (arith, lines_enough);
  small = λ i. omega (arith, zeros_read sum_cells i);
  blank = λ i h. zeros_read sum_cells i;
}

-- a tree adds its sums on every level, deeper ones than its own too
added_all : {from to j : ℕ} {t : Trie} {sums sums' : List ℕ} → SumsOut from to j t sums sums' → SmallSums sums → (i r : ℕ) → from ≤ suc r → suc r < to
    → slot sums' (j + i) (suc r - from) ≡ held (slot sums (j + i) (suc r - from) + sum_below i (opt_by held r) t)
added_all {from} {to} {j} {t} {sums} {sums'} o small i r lo hi = go (dec_le (depth t) i)
  where
    go : Dec (depth t ≤ i) → slot sums' (j + i) (suc r - from) ≡ held (slot sums (j + i) (suc r - from) + sum_below i (opt_by held r) t)
    go (no h) = o.added i r (omega arith) lo hi
    go (yes h) =
        omega (
          arith,
          o.after ((j + i) * COLUMNS + (suc r - from)) (omega arith),
          small ((j + i) * COLUMNS + (suc r - from)),
          sum_deep (opt_by held r) t i h,
        )

module _ {j w : ℕ} {sums : List ℕ} (g : SumsIn j w sums) where
  -- the lines of what stands below
  pub sums_below : 0 < w → SumsIn (j + w) (w - 1) sums
  sums_below h = record {
    long = g.long;
    room = omega (arith, g.room, down_next w h);
    small = g.small;
    blank = λ i l. g.blank i (omega arith);
  }

  pub sums_after : {from to : ℕ} {t : Trie} {sums' : List ℕ} → depth t ≤ w → length sums' ≡ length sums → SumsOut from to j t sums sums' → SumsIn j w sums'
  sums_after {t = t} deep len o = record {
    long = len ∙ g.long;
    room = g.room;
    small = o.small;
    blank = λ i l. o.after i (omega arith) ∙ g.blank i l;
  }

  pub sums_room : (j + w + w) * COLUMNS ≤ length sums
  sums_room = omega (arith, g.long, g.room, down_twice w)

  -- nothing stands here
  pub sums_none : {from to : ℕ} → SumsOut from to j none sums sums
  unfolding depth
  sums_none = record { added = λ i r h lo hi. absurd (omega arith); before = λ i h. refl; after = λ i h. refl; small = g.small }

  -- the two sides, in the lines below
  module _ {from to : ℕ} {a b : Trie} {sums1 sums2 : List ℕ} (pass : Pass from to) (deep : suc (max (depth a) (depth b)) ≤ w)
      (left : SumsOut from to (j + w) a sums sums1) (right : SumsOut from to (j + w) b sums1 sums2) where
    pub both_sums : Sums from to (j + w) sums2 a b
    both_sums i r lo hi =
        omega (
          arith,
          added_all right left.small i r lo hi,
          added_all left g.small i r lo hi,
          g.blank ((j + w + i) * COLUMNS + (suc r - from)) (omega arith),
        )

    kept : (i : ℕ) → i < (j + w) * COLUMNS → get_or sums2 i 0 ≡ get_or sums i 0
    kept i h = right.before i h ∙ left.before i h

    pub sums_node : {p q k : ℕ} {rows sums3 : List ℕ} → ((r : ℕ) → suc r < to → ask rows k (before_costs + suc r) ≡ opt_by held r (node p a q b))
        → HandedUp from to rows k j (j + w) (max (depth a) (depth b)) sums2 sums3 → SumsOut from to j (node p a q b) sums sums3
    unfolding sum_by depth
    sums_node {p} {q} {k} {rows} {sums3} cost o = record {
      added = λ i r h lo hi. row i r h lo hi;
      before = λ i h. o.before i h ∙ kept i (omega arith);
      after = λ i h. past i h (dec_le ((j + w) * COLUMNS) i) (dec_le ((j + w + max (depth a) (depth b)) * COLUMNS) i);
      small = o.small right.small;
    }
      where
        past : (i : ℕ) → (j + suc (max (depth a) (depth b))) * COLUMNS ≤ i → Dec ((j + w) * COLUMNS ≤ i)
            → Dec ((j + w + max (depth a) (depth b)) * COLUMNS ≤ i) → get_or sums3 i 0 ≡ get_or sums i 0
        past i h (no l) m = o.between i h (omega arith) ∙ kept i (omega arith)
        past i h (yes l) (no m) = o.gone i l (omega arith) ∙ sym (g.blank i l)
        past i h (yes l) (yes m) = o.after i m ∙ right.after i (omega arith) ∙ left.after i (omega arith)

        row : (i r : ℕ) → i < suc (max (depth a) (depth b)) → from ≤ suc r → suc r < to
            → slot sums3 (j + i) (suc r - from) ≡ held (slot sums (j + i) (suc r - from) + sum_below i (opt_by held r) (node p a q b))
        row zero r h lo hi =
            let e : j + 0 ≡ j = omega arith in
            rw e (omega (arith, o.own (suc r) (omega arith) lo hi, kept (j * COLUMNS + (suc r - from)) (omega (arith, pass.few)), cost r hi))
        row (suc i) r h lo hi =
            omega (
              arith,
              o.lifted i (suc r - from) (omega arith) (omega (arith, pass.few)),
              kept ((j + suc i) * COLUMNS + (suc r - from)) (omega (arith, pass.few)),
              both_sums i r lo hi,
            )
