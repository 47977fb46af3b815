-- Writing the blocks of a level: nothing where no trie stands; a block here, or the blocks below it; else the two sides, left
-- first. Then all levels, one after the other.
use Prim.Native.Nat.{ℕ, suc, pred, ◌+◌, ◌-◌, ◌*◌, ◌^◌, ◌≤◌, ◌<◌}
use mathlib.Core.Path.{◌≡◌, refl, sym, ap, ◌∙◌}
use mathlib.Core.Logic.{⊎_elim}
use mathlib.Core.List.{List}
use native.Mathlib.Omega.{arith}
use native.Mathlib.Numerals.{add-one}
use lib.ListN.{length}
use Rattle.strides.specs.Trie.{Trie, none, left, right, depth}
use Rattle.walk.specs.Limits.{WIDTH, LEVELS}
use Rattle.tries.specs.Limits.{ELEMENTS}
use Rattle.walk.specs.Rows.{Row}
use Rattle.walk.specs.Rows.{Lists, shortest, row_at}
use Rattle.choosers.specs.Scratch.{ROW, DEPTH, ask, stride_at}
use Rattle.layout.specs.Blocks.{Strides, wide, row_below, list_of, block_rows, level_rows, first_row, levels_rows, rows_of, row_count, Hold}
use Rattle.tries.specs.Filling.{FillAsks, FillGives, LevelAsks, LevelGives, LayAsks, LayGives, CanPass, Passes, begun, between}
use Rattle.layout.proofs.Blocks.{hold_append, hold_all, hold_kept, level_length, wide_sides, level_sides, wide_own, level_own, wide_below, level_below}
use Rattle.layout.proofs.Blocks.{wide_deep, level_deep, first_next, first_le, levels_length}
use Rattle.tries.proofs.Standing.{zero?, trunk_fits, trunk_deep, trunk_none, trunk_some, trunk_width, trunk_left, trunk_right, trunk_child, trunk_level, trunk_stride, trunk_below}
use Rattle.tries.proofs.Filling.{room_kept}

-- ---- no trie
none_gives : (σ : Strides) (c n r base free : ℕ) (ls : Lists) → LevelGives σ none c n r base free ls base free ls
unfolding wide level_rows
none_gives σ c n r base free ls =
    record { end = omega arith; next = omega arith; wrote = tt; before = λ i h. refl; after = λ i h. refl }

pub nothing_gives : {σ : Strides} {t : Trie} {rows plan : List ℕ} {k w c n r base free : ℕ} {ls : Lists} → k ≡ 0
    → LevelAsks σ t rows plan k w c n r base free ls → LevelGives σ t c n r base free ls base free ls
nothing_gives {σ} {c = c} {n = n} {r = r} {base = base} {free = free} {ls = ls} z g = rw (trunk_none g.trunk z) (none_gives σ c n r base free ls)

-- ---- a trie with no level so low
deep_gives : (σ : Strides) (t : Trie) (c n r base free : ℕ) (ls : Lists) → depth t ≤ c + n → LevelGives σ t c n r base free ls base free ls
deep_gives σ t c n r base free ls h = record {
  end = omega (arith, wide_deep σ t c n r h);
  next = omega (arith, wide_deep σ t c (suc n) r (omega arith));
  wrote = rw (level_deep σ t c n r free h) tt;
  before = λ i h. refl;
  after = λ i h. refl;
}

pub shallow_gives : {σ : Strides} {t : Trie} {rows plan : List ℕ} {k w n r base free d : ℕ} {ls : Lists} → d ≡ ask rows k DEPTH → d ≤ n
    → LevelAsks σ t rows plan k w 0 n r base free ls → LevelGives σ t 0 n r base free ls base free ls
shallow_gives {σ} {t} {n = n} {r = r} {base = base} {free = free} {ls = ls} e h g = deep_gives σ t 0 n r base free ls (omega (arith, trunk_deep g.trunk))

-- ---- a block begins here
pub at_block : {σ : Strides} {t : Trie} {rows plan : List ℕ} {k w c n r base free : ℕ} {ls : Lists} → c ≡ 0
    → LevelAsks σ t rows plan k w c n r base free ls → LevelAsks σ t rows plan k w 0 n r base free ls
at_block e g = rw e at g

pub from_block : {σ : Strides} {t : Trie} {c n r base free base' free' : ℕ} {ls ls' : Lists} → c ≡ 0
    → LevelGives σ t 0 n r base free ls base' free' ls' → LevelGives σ t c n r base free ls base' free' ls'
from_block e o = rw e o

-- it is of the level asked for
pub at_own : {σ : Strides} {t : Trie} {rows plan : List ℕ} {k w n r base free : ℕ} {ls : Lists} → n ≡ 0
    → LevelAsks σ t rows plan k w 0 n r base free ls → LevelAsks σ t rows plan k w 0 0 r base free ls
at_own e g = rw e at g

pub from_own : {σ : Strides} {t : Trie} {n r base free base' free' : ℕ} {ls ls' : Lists} → n ≡ 0
    → LevelGives σ t 0 0 r base free ls base' free' ls' → LevelGives σ t 0 n r base free ls base' free' ls'
from_own e o = rw e o

pub record BlockBounds (rows plan : List ℕ) (k r base : ℕ) : Type 0 where
  pub fits : k * ROW ≤ length rows
  pub level : 0 < r
  pub levels : r ≤ length plan
  pub planned : length plan ≤ LEVELS
  pub own : base ≤ ELEMENTS
  pub stride : stride_at rows plan k r ≤ WIDTH

module _ {σ : Strides} {t : Trie} {rows plan : List ℕ} {k w n r base free : ℕ} {ls : Lists}
    (g : LevelAsks σ t rows plan k w 0 n r base free ls) (some : 0 < k) where
  pub block_bounds : BlockBounds rows plan k r base
  block_bounds = record {
    fits = trunk_fits g.trunk;
    level = trunk_level g.trunk some;
    levels = g.trunk.levels;
    planned = g.trunk.planned;
    own = omega (arith, g.own, g.room.few);
    stride = (trunk_child g.trunk).small;
  }

  -- s is its stride, and d levels are left below it
  module _ {s d : ℕ} (q : s ≡ stride_at rows plan k r) (e : r ≡ suc d) where
    is : σ (suc d) t ≡ s
    is = (trunk_stride g.trunk some q e).0

    pub stride_positive : 0 < s
    stride_positive = (trunk_stride g.trunk some q e).1

    positive : s ≡ suc (pred s)
    positive = omega (arith, stride_positive)

    wide_down : (m : ℕ) → wide σ t 0 (suc m) r ≡ wide σ t s m d
    wide_down m =
        ap (λ (v : ℕ). wide σ t 0 (suc m) v) e ∙ wide_below σ t m d (pred s) (is ∙ positive) ∙ ap (λ (v : ℕ). wide σ t v m d) (sym positive)

    rows_down : (m f : ℕ) → level_rows σ t 0 (suc m) r f ≡ level_rows σ t s m d f
    rows_down m f =
        ap (λ (v : ℕ). level_rows σ t 0 (suc m) v f) e ∙ level_below σ t m d f (pred s) (is ∙ positive)
        ∙ ap (λ (v : ℕ). level_rows σ t v m d f) (sym positive)

    wide_here : wide σ t 0 0 r ≡ 2 ^ s
    wide_here = ap (λ (v : ℕ). wide σ t 0 0 v) e ∙ wide_own σ t d (trunk_some g.trunk some) ∙ ap (λ (v : ℕ). 2 ^ v) is

    rows_here_lem : (f : ℕ) → level_rows σ t 0 0 r f ≡ list_of (2 ^ s) (row_below σ s d t 0 f)
    unfolding block_rows
    rows_here_lem f =
        ap (λ (v : ℕ). level_rows σ t 0 0 v f) e ∙ level_own σ t d f (trunk_some g.trunk some)
        ∙ ap (λ (v : ℕ). list_of (2 ^ v) (row_below σ v d t 0 f)) is

    -- its own rows
    pub own_asks : n ≡ 0 → FillAsks σ t rows plan k s d base free ls
    own_asks z = record {
      w = w;
      trunk = trunk_below g.trunk some q e;
      short = (trunk_stride g.trunk some q e).3;
      e = g.e;
      own = omega (arith, rw z at g.own, wide_here);
      children = omega (arith, rw z at g.children, wide_down 0);
      room = g.room;
    }

    pub own_gives : {p f : ℕ} {ls' : Lists} → n ≡ 0 → p ≡ 2 ^ s → FillGives σ t s d base 0 free ls f ls'
        → LevelGives σ t 0 n r base free ls (base + p) f ls'
    own_gives {ls' = ls'} z ep o = rw z (record {
      end = omega (arith, wide_here);
      next = o.next ∙ ap (λ (v : ℕ). free + v) (sym (wide_down 0));
      wrote = rw (rows_here_lem free) (hold_all ls' (2 ^ s) base (row_below σ s d t 0 free) o.wrote);
      before = o.before;
      after = λ i h. o.after i (omega arith);
    })

    -- the blocks below it
    pub below_asks : {m : ℕ} → n ≡ suc m → LevelAsks σ t rows plan k w s m d base free ls
    below_asks {m} en = record {
      trunk = trunk_below g.trunk some q e;
      e = g.e;
      own = omega (arith, rw en at g.own, wide_down m);
      children = omega (arith, rw en at g.children, wide_down (suc m));
      room = g.room;
    }

    pub below_gives : {m base' f : ℕ} {ls' : Lists} → n ≡ suc m → LevelGives σ t s m d base free ls base' f ls'
        → LevelGives σ t 0 n r base free ls base' f ls'
    below_gives {m} en o = rw en (record {
      end = o.end ∙ ap (λ (v : ℕ). base + v) (sym (wide_down m));
      next = o.next ∙ ap (λ (v : ℕ). free + v) (sym (wide_down (suc m)));
      wrote = rw (rows_down m free) o.wrote;
      before = o.before;
      after = o.after;
    })

-- ---- from a node to its children: a block that begins at it is passed
module _ {σ : Strides} {t : Trie} {rows plan : List ℕ} {k w c n r base free : ℕ} {ls : Lists}
    (g : LevelAsks σ t rows plan k w c n r base free ls) (some : 0 < k) where
  pub can_pass : (c ≡ 0 → 0 < n) → c ≡ 0 → CanPass rows plan k n r
  can_pass more z =
      let h = at_block z g in
      let b = block_bounds h some in
      let e : r ≡ suc (r - 1) = omega (arith, b.level) in
      record { fits = b.fits; blocks = more z; level = b.level; levels = b.levels; planned = b.planned; stride = stride_positive h some refl e }

  pub pass_asks : {gap blocks levels : ℕ} → Passes rows plan k c n r gap blocks levels → LevelAsks σ t rows plan k w (suc gap) blocks levels base free ls
  pass_asks (begun z s en er) = below_asks (at_block z g) some s er en
  pass_asks (between e en er) = rw (e, en, er) at g

  pub pass_gives : {gap blocks levels base' f : ℕ} {ls' : Lists} → Passes rows plan k c n r gap blocks levels
      → LevelGives σ t (suc gap) blocks levels base free ls base' f ls' → LevelGives σ t c n r base free ls base' f ls'
  pass_gives (begun z s en er) o = from_block z (below_gives (at_block z g) some s er en o)
  pass_gives (between e en er) o = rw (e, en, er) o

-- ---- a node between blocks: its two sides
module _ {σ : Strides} {t : Trie} {rows plan : List ℕ} {k w c n r base free : ℕ} {ls : Lists}
    (g : LevelAsks σ t rows plan k w c n r base free ls) where
  pub side_bounds : 0 < k → (k * ROW ≤ length rows) × (0 < w)
  side_bounds some = (trunk_fits g.trunk, trunk_width g.trunk some)

module _ {σ : Strides} {t : Trie} {rows plan : List ℕ} {k w c n r base free : ℕ} {ls : Lists}
    (g : LevelAsks σ t rows plan k w c n r base free ls) {d : ℕ} (dc : c ≡ suc d) where
  parts : (m : ℕ) → wide σ t c m r ≡ wide σ (left t) d m r + wide σ (right t) d m r
  parts m = rw dc (wide_sides σ t d m r)

  pub first_asks : {k0 : ℕ} → k0 ≡ ask rows k 0 → LevelAsks σ (left t) rows plan k0 (w - 1) d n r base free ls
  first_asks q = record {
    trunk = trunk_left g.trunk dc q;
    e = g.e;
    own = omega (arith, g.own, parts n);
    children = omega (arith, g.children, parts (suc n));
    room = g.room;
  }

  module _ {base1 f1 : ℕ} {ls1 : Lists} (s : shortest ls1 ≡ shortest ls) (o : LevelGives σ (left t) d n r base free ls base1 f1 ls1) where
    pub second_asks : {k1 : ℕ} → k1 ≡ ask rows k 1 → LevelAsks σ (right t) rows plan k1 (w - 1) d n r base1 f1 ls1
    second_asks q = record {
      trunk = trunk_right g.trunk dc q;
      e = g.e;
      own = omega (arith, g.own, parts n, o.end);
      children = omega (arith, g.children, parts (suc n), o.next);
      room = room_kept s g.room;
    }

    pub sides_give : {base2 f2 : ℕ} {ls2 : Lists} → LevelGives σ (right t) d n r base1 f1 ls1 base2 f2 ls2
        → LevelGives σ t c n r base free ls base2 f2 ls2
    sides_give {ls2 = ls2} u = record {
      end = omega (arith, parts n, o.end, u.end);
      next = omega (arith, parts (suc n), o.next, u.next);
      wrote = rw (dc, level_sides σ t d n r free) (hold_append ls2 base lefts rights kept new);
      before = λ i h. u.before i (omega (arith, o.end)) ∙ o.before i h;
      after = λ i h. u.after i h ∙ o.after i (omega (arith, u.end));
    }
      where
        lefts : List Row
        lefts = level_rows σ (left t) d n r free

        rights : List Row
        rights = level_rows σ (right t) d n r (free + wide σ (left t) d (suc n) r)

        size : length lefts ≡ wide σ (left t) d n r
        size = level_length σ (left t) d n r free

        kept : Hold ls2 base lefts
        kept = hold_kept ls1 ls2 base lefts (λ i p q. u.before i (omega (arith, o.end, size))) o.wrote

        new : Hold ls2 (base + length lefts) rights
        new = let a : base + length lefts ≡ base1 = omega (arith, size, o.end) in rw (a, ← o.next) u.wrote

  -- no trie on the left: what stands here stands on the right
  module _ {k0 : ℕ} (z : k0 ≡ 0) (q0 : k0 ≡ ask rows k 0) where
    pub only_second_asks : {k1 : ℕ} → k1 ≡ ask rows k 1 → LevelAsks σ (right t) rows plan k1 (w - 1) d n r base free ls
    only_second_asks q1 = second_asks refl (nothing_gives z (first_asks q0)) q1

    pub only_second_gives : {base2 f2 : ℕ} {ls2 : Lists} → LevelGives σ (right t) d n r base free ls base2 f2 ls2
        → LevelGives σ t c n r base free ls base2 f2 ls2
    only_second_gives u = sides_give refl (nothing_gives z (first_asks q0)) u

-- ---- all levels
-- the levels before level n are there, and no row after them was touched
pub record Done (σ : Strides) (t : Trie) (L : ℕ) (ls : Lists) (base free n : ℕ) (ls' : Lists) : Type 0 where
  pub at : base ≡ first_row σ t L n
  pub next : free ≡ first_row σ t L (suc n)
  pub wrote : Hold ls' 0 (levels_rows σ t L n)
  pub after : (i : ℕ) → base ≤ i → row_at ls' i ≡ row_at ls i

levels_hold : (σ : Strides) (t : Trie) (L n : ℕ) (ls : Lists) → Hold ls 0 (levels_rows σ t L n)
    → Hold ls (first_row σ t L n) (level_rows σ t 0 n L (first_row σ t L (suc n))) → Hold ls 0 (levels_rows σ t L (suc n))
unfolding levels_rows
levels_hold σ t L n ls a b =
    let e : 0 + length (levels_rows σ t L n) ≡ first_row σ t L n = omega (arith, levels_length σ t L n) in
    hold_append ls 0 (levels_rows σ t L n) (level_rows σ t 0 n L (first_row σ t L (suc n))) a (rw e b)

pub record LayBounds (rows plan : List ℕ) (k L : ℕ) : Type 0 where
  pub fits : k * ROW ≤ length rows
  pub level : 0 < k → 0 < L
  pub levels : L ≤ length plan
  pub planned : length plan ≤ LEVELS
  pub stride : stride_at rows plan k L ≤ WIDTH

module _ {σ : Strides} {t : Trie} {rows plan : List ℕ} {k w L : ℕ} {ls : Lists} (g : LayAsks σ t rows plan k w L ls) where
  pub lay_bounds : LayBounds rows plan k L
  lay_bounds = record {
    fits = trunk_fits g.trunk;
    level = trunk_level g.trunk;
    levels = g.trunk.levels;
    planned = g.trunk.planned;
    stride = (trunk_child g.trunk).small;
  }

  -- no level yet; the root's block is the first
  pub done_none : {s p v : ℕ} → s ≡ stride_at rows plan k L → p ≡ 2 ^ s → (0 < k → v ≡ p) × (k ≡ 0 → v ≡ 0) → Done σ t L ls 0 v 0 ls
  unfolding first_row levels_rows
  done_none {s} {p} {v} es ep ev =
      let b = trunk_child g.trunk in
      let vw : v ≡ wide σ t 0 0 L =
      ⊎_elim (λ z. ev.1 z ∙ sym (b.none z).0) (λ z. ev.0 z ∙ ep ∙ ap (λ (j : ℕ). 2 ^ j) es ∙ sym (b.some z).0) (zero? k) in
      record { at = refl; next = omega arith; wrote = tt; after = λ i h. refl }

  module _ {base free n : ℕ} {ls1 : Lists} (s : shortest ls1 ≡ shortest ls) (p : Done σ t L ls base free n ls1) where
    pub next_asks : LevelAsks σ t rows plan k w 0 n L base free ls1
    unfolding row_count
    next_asks = record {
      trunk = g.trunk;
      e = row_count σ L t;
      own = omega (arith, p.at, first_next σ t L n, first_le σ t L (suc n));
      children = omega (arith, p.next, first_next σ t L (suc n), first_le σ t L (suc (suc n)));
      room = room_kept s g.room;
    }

    pub done_more : {base2 free2 : ℕ} {ls2 : Lists} → LevelGives σ t 0 n L base free ls1 base2 free2 ls2
        → Done σ t L ls base2 free2 (n + 1) ls2
    done_more {ls2 = ls2} o = rw (add-one n) (record {
      at = omega (arith, p.at, o.end, first_next σ t L n);
      next = omega (arith, p.next, o.next, first_next σ t L (suc n));
      wrote = levels_hold σ t L n ls2 kept (rw (← p.at, ← p.next) o.wrote);
      after = λ i h. o.after i h ∙ p.after i (omega (arith, o.end));
    })
      where
        kept : Hold ls2 0 (levels_rows σ t L n)
        kept = hold_kept ls1 ls2 0 (levels_rows σ t L n) (λ i a b. o.before i (omega (arith, p.at, levels_length σ t L n))) p.wrote

    pub done_all : n ≡ L → LayGives σ t L ls base ls1
    unfolding row_count rows_of
    done_all e = record { count = p.at ∙ ap (first_row σ t L) e; wrote = rw e at p.wrote; after = p.after }
