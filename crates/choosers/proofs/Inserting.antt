-- One entry laid into a tree whose rows lie in any order: the rows of the new tree stand, and all other rows are kept.
use mathlib.Core.Path.{◌≡◌, refl, ap, sym, subst, ◌∙◌}
use mathlib.Core.List.{List}
use mathlib.Core.Logic.{◌⊎◌, inl, inr, ⊎_elim}
use Prim.Native.Nat.{ℕ, zero, suc, max, ◌+◌, ◌-◌, ◌*◌, ◌≤◌, ◌<◌}
use native.Mathlib.Nat.{mod-lt}
use native.Mathlib.Omega.{arith}
use native.Mathlib.Numerals.{sub-one}
use lib.ListN.{length, get_or, set, length-set}
use lib.Seq.{get_or-set_same, get_or-set_other}
use Rattle.strides.specs.Trie.{bit, depth}
use Rattle.choosers.specs.Scratch.{ROW, DEPTH}
use Rattle.choosers.specs.Trees.{Tree, nil, fork, shape, col, link_of, Stand, Deep, Deepens, HasRow, Apart, Under, lt, rt, lmark, rmark}
use Rattle.choosers.specs.Trees.{row_for, next, side, set_side, set_mark, insert_r, count_r}
use Rattle.choosers.specs.Inserting.{Downed, InsertIn, InsertOut, Inserted}
use Rattle.choosers.proofs.Frames.{keep_stand, keep_deep}
use Rattle.choosers.proofs.Shapes.{depth_insert}

pub bit_two : (n x : ℕ) → bit n x < 2
unfolding bit
bit_two n x = mod-lt _ (omega arith)

step : (n u : ℕ) (t : Tree) (v h : ℕ) → (n ≡ 0 → ⊥) → insert_r n u t v h ≡ set_side (bit n v) (row_for u t) t (insert_r (n - 1) (next u t) (side (bit n v) t) v h)
unfolding insert_r
step zero u t v h ne = absurd (ne refl)
step (suc n) u t v h ne = rw (sub-one (suc n)) refl

count_step : (n u : ℕ) (t : Tree) (v : ℕ) → (n ≡ 0 → ⊥) → count_r n u t v ≡ count_r (n - 1) (next u t) (side (bit n v) t) v
unfolding count_r
count_step zero u t v ne = absurd (ne refl)
count_step (suc n) u t v ne = rw (sub-one (suc n)) refl

pub next_le : (u : ℕ) (t : Tree) → u ≤ next u t
next_le u nil = omega arith
next_le u (fork x p l q r) = omega arith

pub count_grows : (n u : ℕ) (t : Tree) (v : ℕ) → u ≤ count_r n u t v
unfolding count_r
count_grows zero u t v = next_le u t
count_grows (suc n) u t v = omega (arith, count_grows n (next u t) (side (bit (suc n) v) t) v, next_le u t)

-- a tree that is nil, and its node just made, are one to insert_r
abbrev pub made : ℕ → Tree → Tree
made u t = fork (row_for u t) (lmark t) (lt t) (rmark t) (rt t)

made_mark : (s u : ℕ) (t : Tree) (h : ℕ) → set_mark s (row_for u t) (made u t) h ≡ set_mark s (row_for u t) t h
made_mark zero u t h = refl
made_mark (suc s) u t h = refl

made_kid : (s u : ℕ) (t : Tree) → side s (made u t) ≡ side s t
made_kid zero u t = refl
made_kid (suc s) u t = refl

made_set : (s u : ℕ) (t k : Tree) → set_side s (row_for u t) (made u t) k ≡ set_side s (row_for u t) t k
made_set zero u t k = refl
made_set (suc s) u t k = refl

pub made_insert : (n u : ℕ) (t : Tree) (v h : ℕ) → insert_r n (next u t) (made u t) v h ≡ insert_r n u t v h
unfolding insert_r
made_insert zero u t v h = made_mark (bit 0 v) u t h
made_insert (suc n) u t v h = rw (made_kid (bit (suc n) v) u t) (made_set (bit (suc n) v) u t (insert_r n (next u t) (side (bit (suc n) v) t) v h))

pub made_count : (n u : ℕ) (t : Tree) (v : ℕ) → count_r n (next u t) (made u t) v ≡ count_r n u t v
unfolding count_r
made_count zero u t v = refl
made_count (suc n) u t v = rw (made_kid (bit (suc n) v) u t)

not_made : (u z : ℕ) (t : Tree) → (HasRow z t → ⊥) → z < u → HasRow z (made u t) → ⊥
not_made u z nil off l (inl e) = omega arith
not_made u z nil off l (inr (inl e)) = e
not_made u z nil off l (inr (inr e)) = e
not_made u z (fork x p a q b) off l h = off h

pub made_apart : (u : ℕ) (t : Tree) → Apart t → Apart (made u t)
made_apart u nil a = ((λ e. e), (λ e. e), (λ y e f. e), tt, tt)
made_apart u (fork x p l q r) a = a

pub made_under : (u : ℕ) (t : Tree) → Under u t → Under (next u t) (made u t)
made_under u nil h y (inl e) = omega arith
made_under u nil h y (inr (inl e)) = absurd e
made_under u nil h y (inr (inr e)) = absurd e
made_under u (fork x p l q r) h y e = h y e

pub link_insert : (n u : ℕ) (t : Tree) (v h : ℕ) → link_of (insert_r n u t v h) ≡ row_for u t + 1
unfolding insert_r
link_insert zero u t v h = go (bit 0 v)
  where
    go : (s : ℕ) → link_of (set_mark s (row_for u t) t h) ≡ row_for u t + 1
    go zero = refl
    go (suc s) = refl
link_insert (suc n) u t v h = go (bit (suc n) v) (insert_r n (next u t) (side (bit (suc n) v) t) v h)
  where
    go : (s : ℕ) (k : Tree) → link_of (set_side s (row_for u t) t k) ≡ row_for u t + 1
    go zero k = refl
    go (suc s) k = refl

-- the other side
abbrev sib : ℕ → Tree → Tree
sib zero t = rt t
sib (suc s) t = lt t

-- the parts of a node by side
module _ (rows : List ℕ) (x p : ℕ) (l : Tree) (q : ℕ) (r : Tree) where
  abbrev T : Tree
  T = fork x p l q r

  kid_link : (s : ℕ) → s < 2 → Stand rows T → (col rows x s ≡ link_of (side s T)) × Stand rows (side s T) × Stand rows (sib s T)
  kid_link zero h u = (u.0.link0, u.1, u.2)
  kid_link (suc zero) h u = (u.0.link1, u.2, u.1)
  kid_link (suc (suc s)) h u = absurd (omega arith)

  kid_apart : (s : ℕ) → Apart T → (HasRow x (side s T) → ⊥) × (HasRow x (sib s T) → ⊥) × ((y : ℕ) → HasRow y (side s T) → HasRow y (sib s T) → ⊥) × Apart (side s T)
  kid_apart zero a = (a.0, a.1, a.2, a.3)
  kid_apart (suc s) a = (a.1, a.0, (λ y h k. a.2 y k h), a.4)

  kid_has : (s y : ℕ) → HasRow y (side s T) → HasRow y T
  kid_has zero y h = inr (inl h)
  kid_has (suc s) y h = inr (inr h)

  sib_has : (s y : ℕ) → HasRow y (sib s T) → HasRow y T
  sib_has zero y h = inr (inr h)
  sib_has (suc s) y h = inr (inl h)

  -- a node from its parts: the link at side s is new, all else as it was
  join_side : (rows' : List ℕ) (s : ℕ) (k : Tree) → s < 2 → ((c : ℕ) → c < ROW → (c ≡ s → ⊥) → col rows' x c ≡ col rows x c) → col rows' x s ≡ link_of k
      → Stand rows T → Stand rows' k → Stand rows' (sib s T) → Stand rows' (set_side s x T k)
  join_side rows' zero k h same lk u sk ss = (
    record {
      link0 = lk;
      link1 = same 1 (omega arith) (omega arith) ∙ u.0.link1;
      mark0 = same 2 (omega arith) (omega arith) ∙ u.0.mark0;
      mark1 = same 3 (omega arith) (omega arith) ∙ u.0.mark1;
    },
    sk,
    ss,
  )
  join_side rows' (suc zero) k h same lk u sk ss = (
    record {
      link0 = same 0 (omega arith) (omega arith) ∙ u.0.link0;
      link1 = lk;
      mark0 = same 2 (omega arith) (omega arith) ∙ u.0.mark0;
      mark1 = same 3 (omega arith) (omega arith) ∙ u.0.mark1;
    },
    ss,
    sk,
  )
  join_side rows' (suc (suc s)) k h same lk u sk ss = absurd (omega arith)

  -- its depth, where the tree at side s is new and the node's row says how deep it now reaches
  join_deep : (n : ℕ) (rows' : List ℕ) (s : ℕ) (k : Tree) → s < 2 → Deepens n rows T → n < col rows x DEPTH → col rows' x DEPTH ≡ col rows x DEPTH
      → depth (shape k) ≡ max n (depth (shape (side s T))) → Deep rows' k → Deep rows' (sib s T) → Deep rows' (set_side s x T k)
  unfolding depth
  join_deep n rows' zero k h d up own e dk ds = (own ∙ omega (arith, d.0), dk, ds)
  join_deep n rows' (suc zero) k h d up own e dk ds = (own ∙ omega (arith, d.0), ds, dk)
  join_deep n rows' (suc (suc s)) k h d up own e dk ds = absurd (omega arith)

  deep_sides : (n s : ℕ) → Deepens n rows T → Deep rows (side s T) × Deep rows (sib s T)
  deep_sides n zero d = (d.1, d.2)
  deep_sides n (suc s) d = (d.2, d.1)

  other : (h c i : ℕ) → (i ≡ x * ROW + c → ⊥) → get_or (set rows (x * ROW + c) h) i 0 ≡ get_or rows i 0
  other h c i ne = get_or-set_other rows (x * ROW + c) i h 0 ne

  -- after the last bit
  mark_put : (h s : ℕ) → s < 2 → (x + 1) * ROW ≤ length rows → Apart T → Stand rows T → Stand (set rows (x * ROW + (2 + s)) h) (set_mark s x T h)
  mark_put h s hs fits a u = go s hs
    where
      far : (c : ℕ) → c < ROW → (t : Tree) → (HasRow x t → ⊥) → Stand rows t → Stand (set rows (x * ROW + c) h) t
      far c hc t off st = keep_stand rows (set rows (x * ROW + c) h) t
          (λ y hy e he. let ne : y ≡ x → ⊥ = λ z. off (subst (λ (w : ℕ). HasRow w t) z hy) in other h c (y * ROW + e) (omega arith)) st

      go : (s : ℕ) → s < 2 → Stand (set rows (x * ROW + (2 + s)) h) (set_mark s x T h)
      go zero l2 = (
        record {
          link0 = other h 2 (x * ROW + 0) (omega arith) ∙ u.0.link0;
          link1 = other h 2 (x * ROW + 1) (omega arith) ∙ u.0.link1;
          mark0 = get_or-set_same rows (x * ROW + 2) h 0 (omega arith);
          mark1 = other h 2 (x * ROW + 3) (omega arith) ∙ u.0.mark1;
        },
        far 2 (omega arith) l a.0 u.1,
        far 2 (omega arith) r a.1 u.2,
      )
      go (suc zero) l2 = (
        record {
          link0 = other h 3 (x * ROW + 0) (omega arith) ∙ u.0.link0;
          link1 = other h 3 (x * ROW + 1) (omega arith) ∙ u.0.link1;
          mark0 = other h 3 (x * ROW + 2) (omega arith) ∙ u.0.mark0;
          mark1 = get_or-set_same rows (x * ROW + 3) h 0 (omega arith);
        },
        far 3 (omega arith) l a.0 u.1,
        far 3 (omega arith) r a.1 u.2,
      )
      go (suc (suc s)) l2 = absurd (omega arith)

  mark_deep : (h s : ℕ) → s < 2 → Apart T → Deepens 0 rows T → 0 < col rows x DEPTH → Deep (set rows (x * ROW + (2 + s)) h) (set_mark s x T h)
  unfolding depth
  mark_deep h s hs a d up = go s hs
    where
      far : (c : ℕ) → c < DEPTH → (t : Tree) → Deep rows t → Deep (set rows (x * ROW + c) h) t
      far c hc t dt = keep_deep rows (set rows (x * ROW + c) h) t (λ y hy. other h c (y * ROW + DEPTH) (omega arith)) dt

      go : (s : ℕ) → s < 2 → Deep (set rows (x * ROW + (2 + s)) h) (set_mark s x T h)
      go zero l2 = (other h 2 (x * ROW + DEPTH) (omega arith) ∙ omega (arith, d.0), far 2 (omega arith) l d.1, far 2 (omega arith) r d.2)
      go (suc zero) l2 = (other h 3 (x * ROW + DEPTH) (omega arith) ∙ omega (arith, d.0), far 3 (omega arith) l d.1, far 3 (omega arith) r d.2)
      go (suc (suc s)) l2 = absurd (omega arith)

pub record Ready (rows rows1 : List ℕ) (x s used y used1 : ℕ) (k : Tree) : Type 0 where
  pub place : y ≡ row_for used k
  pub count : used1 ≡ next used k
  pub stand : Stand rows1 (made used k)
  pub deep : (n : ℕ) → Deep rows k → Deepens n rows1 (made used k)
  pub link : col rows1 x s ≡ y + 1
  pub same : (i : ℕ) → (i ≡ x * ROW + s → ⊥) → get_or rows1 i 0 ≡ get_or rows i 0

kid_ready : (rows rows1 : List ℕ) (x s used y used1 : ℕ) → (x + 1) * ROW ≤ length rows → s < 2 → x < used
    → ((i : ℕ) → used * ROW ≤ i → get_or rows i 0 ≡ 0)
    → Downed rows x s used y rows1 → (y ≡ used → used1 ≡ used + 1) × ((y ≡ used → ⊥) → used1 ≡ used)
    → (k : Tree) → col rows x s ≡ link_of k → Stand rows k → Under used k → Ready rows rows1 x s used y used1 k
unfolding shape depth
kid_ready rows rows1 x s used y used1 fits l xu blank d g nil e u under =
    let m = d.made e in
    let eq : rows1 ≡ set rows (x * ROW + s) (used + 1) = m.1 in
    let off : (i : ℕ) → (i ≡ x * ROW + s → ⊥) → get_or rows1 i 0 ≡ get_or rows i 0 =
    λ i ne. ap (λ (r : List ℕ). get_or r i 0) eq ∙ get_or-set_other rows (x * ROW + s) i (used + 1) 0 ne in
    let zeros : (c : ℕ) → c < ROW → col rows1 used c ≡ 0 =
    λ c h. off (used * ROW + c) (omega arith) ∙ blank (used * ROW + c) (omega arith) in
    record {
      place = m.0;
      count = g.0 m.0;
      stand = (record { link0 = zeros 0 (omega arith); link1 = zeros 1 (omega arith); mark0 = zeros 2 (omega arith); mark1 = zeros 3 (omega arith) }, tt, tt);
      deep = λ n dk. (omega (arith, zeros DEPTH (omega arith)), tt, tt);
      link = ap (λ (r : List ℕ). col r x s) eq ∙ get_or-set_same rows (x * ROW + s) (used + 1) 0 (omega arith) ∙ omega (arith, m.0);
      same = off;
    }
kid_ready rows rows1 x s used y used1 fits l xu blank d g (fork w p a q b) e u under =
    let m = d.there (λ z. omega arith) in
    let eq : rows1 ≡ rows = m.1 in
    let yw : y ≡ w = omega (arith, m.0) in
    let wu : w < used = under w (inl refl) in
    record {
      place = yw;
      count = g.1 (λ z. omega arith);
      stand = subst (λ (r : List ℕ). Stand r (fork w p a q b)) (sym eq) u;
      deep = λ n dk. rw eq (ap (λ (z : ℕ). max z (suc n)) dk.0, dk.1, dk.2);
      link = ap (λ (r : List ℕ). col r x s) eq ∙ e ∙ omega arith;
      same = λ i ne. ap (λ (r : List ℕ). get_or r i 0) eq;
    }

-- what the function's needs cite
module _ (rows : List ℕ) (x used v n : ℕ) (g : InsertIn rows x used v n) where
  pub in_fits : ((x + 1) * ROW ≤ length rows) × (used * ROW ≤ length rows) × (bit n v < 2)
  in_fits =
      let xu = g.under x (inl refl) in
      let grows = count_grows n used (fork x g.p g.l g.q g.r) v in
      (omega (arith, g.room), omega (arith, g.room), bit_two n v)

  pub last_out : (h : ℕ) (rows' : List ℕ) → n < col rows x DEPTH → n ≡ 0 → rows' ≡ set rows (x * ROW + (2 + bit n v)) h → Inserted rows x used v n h used rows'
  unfolding insert_r count_r
  last_out h rows' up z e =
      let f = in_fits in
      let xu = g.under x (inl refl) in
      rw (e, z) (record {
        columns = λ y c lo hi. get_or-set_other rows (x * ROW + (2 + bit 0 v)) (y * ROW + c) h 0 (omega (arith, bit_two 0 v));
        after = λ i l. get_or-set_other rows (x * ROW + (2 + bit 0 v)) i h 0 (omega (arith, bit_two 0 v));
        tree = λ p l q r u a b. record {
          stands = mark_put rows x p l q r h (bit 0 v) (bit_two 0 v) f.0 a u;
          deep = λ dp. mark_deep rows x p l q r h (bit 0 v) (bit_two 0 v) a dp (omega arith);
          count = refl;
          keeps = λ y off yu c hc. let ne : y ≡ x → ⊥ = λ w. off (inl w) in get_or-set_other rows (x * ROW + (2 + bit 0 v)) (y * ROW + c) h 0 (omega (arith, bit_two 0 v));
        };
      })

  module _ (up : n < col rows x DEPTH) (ne : n ≡ 0 → ⊥) (rows1 : List ℕ) (y used1 : ℕ) (d : Downed rows x (bit n v) used y rows1)
      (gr : (y ≡ used → used1 ≡ used + 1) × ((y ≡ used → ⊥) → used1 ≡ used)) where
    go_down : (p : ℕ) (l : Tree) (q : ℕ) (r : Tree) → Stand rows (fork x p l q r) → Under used (fork x p l q r)
        → Ready rows rows1 x (bit n v) used y used1 (side (bit n v) (fork x p l q r))
    go_down p l q r u b =
        let s = bit n v in
        let kl = kid_link rows x p l q r s in_fits.2 u in
        kid_ready rows rows1 x s used y used1 in_fits.0 in_fits.2 (b x (inl refl)) g.blank d gr
        (side s (fork x p l q r)) kl.0 kl.1 (λ z h. b z (kid_has rows x p l q r s z h))

    pub down_in : length rows1 ≡ length rows → InsertIn rows1 y used1 v (n - 1)
    down_in len =
        let s = bit n v in
        let t = fork x g.p g.l g.q g.r in
        let k = side s t in
        let r = go_down g.p g.l g.q g.r g.stand g.under in
        let ka = kid_apart rows x g.p g.l g.q g.r s g.apart in
        let ku : Under used k = λ z h. g.under z (kid_has rows x g.p g.l g.q g.r s z h) in
        let cs = count_step n used t v ne in
        let mc = made_count (n - 1) used k v in
        let xu = g.under x (inl refl) in
        rw (r.place, r.count) (record {
          p = lmark k;
          l = lt k;
          q = rmark k;
          r = rt k;
          stand = r.stand;
          apart = made_apart used k ka.3;
          under = made_under used k ku;
          room = omega (arith, g.room);
          blank = λ i l. r.same i (omega (arith, next_le used k, bit_two n v)) ∙ g.blank i (omega (arith, next_le used k));
          short = omega (arith, g.short);
        })

    pub down_out : (h : ℕ) (rows2 : List ℕ) (used2 : ℕ) → Inserted rows1 y used1 v (n - 1) h used2 rows2 → Inserted rows x used v n h used2 rows2
    down_out h rows2 used2 ins = record {
      columns = λ z c lo hi. ins.columns z c lo hi ∙ r₀.same (z * ROW + c) (omega (arith, in_fits.2));
      after = λ i l. ins.after i l ∙ r₀.same i (omega (arith, xu, far, bit_two n v));
      tree = λ p l q r u a b. out p l q r u a b;
    }
      where
        xu : x < used
        xu = g.under x (inl refl)

        r₀ : Ready rows rows1 x (bit n v) used y used1 (side (bit n v) (fork x g.p g.l g.q g.r))
        r₀ = go_down g.p g.l g.q g.r g.stand g.under

        -- what the call gives of the child k, whose row is y
        child : (k : Tree) → Ready rows rows1 x (bit n v) used y used1 k → Apart k → Under used k
            → InsertOut rows1 (row_for used k) (next used k) v (n - 1) h used2 rows2 (made used k)
        child k r a b =
            let ins' = rw (r.place, r.count) at ins in
            ins'.tree (lmark k) (lt k) (rmark k) (rt k) r.stand (made_apart used k a) (made_under used k b)

        far : used ≤ used2
        far =
            let s = bit n v in
            let t = fork x g.p g.l g.q g.r in
            let k = side s t in
            let c = child k r₀ (kid_apart rows x g.p g.l g.q g.r s g.apart).3 (λ z e. g.under z (kid_has rows x g.p g.l g.q g.r s z e)) in
            omega (arith, c.count, count_grows (n - 1) (next used k) (made used k) v, next_le used k)

        out : (p : ℕ) (l : Tree) (q : ℕ) (r : Tree) → Stand rows (fork x p l q r) → Apart (fork x p l q r) → Under used (fork x p l q r)
            → InsertOut rows x used v n h used2 rows2 (fork x p l q r)
        out p l q r u a b =
            let s = bit n v in
            let t = fork x p l q r in
            let k = side s t in
            let rd = go_down p l q r u b in
            let ka = kid_apart rows x p l q r s a in
            let c = child k rd ka.3 (λ z e. b z (kid_has rows x p l q r s z e)) in
            -- a row below `used` that is not the child's is kept by the call
            let low : (z : ℕ) → (HasRow z k → ⊥) → z < used → (e : ℕ) → e < ROW → col rows2 z e ≡ col rows1 z e =
            λ z off zu e he. c.keeps z (not_made used z k off zu) (omega (arith, next_le used k)) e he in
            let beside : (z : ℕ) → HasRow z (sib s t) → (e : ℕ) → e < ROW → col rows2 z e ≡ col rows z e =
            λ z hz e he.
            let ne' : z ≡ x → ⊥ = λ w. ka.1 (subst (λ (j : ℕ). HasRow j (sib s t)) w hz) in
            low z (λ hk. ka.2 z hk hz) (b z (sib_has rows x p l q r s z hz)) e he ∙ rd.same (z * ROW + e) (omega (arith, in_fits.2)) in
            record {
              stands = rw (step n used t v h ne, ← made_insert (n - 1) used k v h)
                  (join_side rows x p l q r rows2 s (insert_r (n - 1) (next used k) (made used k) v h) in_fits.2
                  (λ e he es. low x ka.0 xu e he ∙ rd.same (x * ROW + e) (omega arith))
                  (low x ka.0 xu s (omega (arith, in_fits.2)) ∙ rd.link ∙ omega (arith, rd.place, link_insert (n - 1) (next used k) (made used k) v h))
                  u c.stands
                  (keep_stand rows rows2 (sib s t) (λ z hz e he. beside z hz e (omega arith))
                  (kid_link rows x p l q r s in_fits.2 u).2));
              deep = λ dp.
                  let ds = deep_sides rows x p l q r n s dp in
                  rw (step n used t v h ne, ← made_insert (n - 1) used k v h)
                  (join_deep rows x p l q r n rows2 s (insert_r (n - 1) (next used k) (made used k) v h) in_fits.2 dp up
                  (low x ka.0 xu DEPTH (omega arith) ∙ rd.same (x * ROW + DEPTH) (omega (arith, in_fits.2)))
                  (omega (arith, ap (λ (w : Tree). depth (shape w)) (made_insert (n - 1) used k v h), depth_insert (n - 1) used k v h))
                  (c.deep (rd.deep (n - 1) ds.0))
                  (keep_deep rows rows2 (sib s t) (λ z hz. beside z hz DEPTH (omega arith)) ds.1));
              count = count_step n used t v ne ∙ sym (made_count (n - 1) used k v) ∙ c.count;
              keeps = λ z off zu e he.
                  let ne' : z ≡ x → ⊥ = λ w. off (inl w) in
                  low z (λ hk. off (kid_has rows x p l q r s z hk)) zu e he ∙ rd.same (z * ROW + e) (omega (arith, in_fits.2));
            }

-- before all that the node's depth is raised
module _ (rows : List ℕ) (x used v n : ℕ) (g : InsertIn rows x used v n) (rows0 : List ℕ)
    (one : rows0 ≡ set rows (x * ROW + DEPTH) (max (col rows x DEPTH) (n + 1))) where
  off : (i : ℕ) → (i ≡ x * ROW + DEPTH → ⊥) → get_or rows0 i 0 ≡ get_or rows i 0
  off i ne = ap (λ (r : List ℕ). get_or r i 0) one ∙ get_or-set_other rows (x * ROW + DEPTH) i _ 0 ne

  own : col rows0 x DEPTH ≡ max (col rows x DEPTH) (n + 1)
  own = ap (λ (r : List ℕ). col r x DEPTH) one ∙ get_or-set_same rows (x * ROW + DEPTH) _ 0 (omega (arith, (in_fits rows x used v n g).0))

  raised_stand : (t : Tree) → Stand rows t → Stand rows0 t
  raised_stand t s = keep_stand rows rows0 t (λ y h c hc. off (y * ROW + c) (λ e. omega arith)) s

  pub raised_up : n < col rows0 x DEPTH
  raised_up = omega (arith, own)

  pub raised_in : InsertIn rows0 x used v n
  raised_in = record {
    p = g.p;
    l = g.l;
    q = g.q;
    r = g.r;
    stand = raised_stand (fork x g.p g.l g.q g.r) g.stand;
    apart = g.apart;
    under = g.under;
    room = omega (arith, g.room, ap length one, length-set rows (x * ROW + DEPTH) (max (col rows x DEPTH) (n + 1)));
    blank = λ i l. off i (λ e. omega (arith, g.under x (inl refl))) ∙ g.blank i l;
    short = g.short;
  }

  pub raised_out : (h used' : ℕ) (rows' : List ℕ) → Inserted rows0 x used v n h used' rows' → Inserted rows x used v n h used' rows'
  raised_out h used' rows' ins = record {
    columns = λ y c lo hi. ins.columns y c lo hi ∙ off (y * ROW + c) (λ e. omega arith);
    after = λ i l. ins.after i l ∙ off i (λ e. omega (arith, grows, g.under x (inl refl)));
    tree = λ p l q r u a b.
        let o = ins.tree p l q r (raised_stand (fork x p l q r) u) a b in
        record {
          stands = o.stands;
          deep = λ d. o.deep (omega (arith, own, d.0), below l a.0 d.1, below r a.1 d.2);
          count = o.count;
          keeps = λ y no yu c hc. let ne : y ≡ x → ⊥ = λ e. no (inl e) in o.keeps y no yu c hc ∙ off (y * ROW + c) (λ e. omega arith);
        };
  }
    where
      grows : used ≤ used'
      grows =
          omega (
            arith,
            (ins.tree g.p g.l g.q g.r (raised_stand (fork x g.p g.l g.q g.r) g.stand) g.apart g.under).count,
            count_grows n used (fork x g.p g.l g.q g.r) v,
          )

      below : (t : Tree) → (HasRow x t → ⊥) → Deep rows t → Deep rows0 t
      below t gone d = keep_deep rows rows0 t
          (λ y h. let ne : y ≡ x → ⊥ = λ e. gone (subst (λ (w : ℕ). HasRow w t) e h) in off (y * ROW + DEPTH) (λ e. omega arith)) d

-- what a caller has to know for the next entry: the new tree's rows are the old ones and those from `used` up to the new count
has_mark : (s x y : ℕ) (t : Tree) (h : ℕ) → HasRow y (set_mark s x t h) → HasRow y (fork x (lmark t) (lt t) (rmark t) (rt t))
has_mark zero x y t h e = e
has_mark (suc s) x y t h e = e

has_made : (u y : ℕ) (t : Tree) → HasRow y (made u t) → HasRow y t ⊎ ((u ≤ y) × (y < next u t))
has_made u y nil (inl e) = inr (omega arith, omega arith)
has_made u y nil (inr (inl e)) = absurd e
has_made u y nil (inr (inr e)) = absurd e
has_made u y (fork x p l q r) h = inl h

has_side : (s x y : ℕ) (t k : Tree) → HasRow y (set_side s x t k) → HasRow y (fork x (lmark t) (lt t) (rmark t) (rt t)) ⊎ HasRow y k
has_side zero x y t k (inl e) = inl (inl e)
has_side zero x y t k (inr (inl e)) = inr e
has_side zero x y t k (inr (inr e)) = inl (inr (inr e))
has_side (suc s) x y t k (inl e) = inl (inl e)
has_side (suc s) x y t k (inr (inl e)) = inl (inr (inl e))
has_side (suc s) x y t k (inr (inr e)) = inr e

side_has : (s y : ℕ) (t : Tree) → HasRow y (side s t) → HasRow y t
side_has zero y nil h = absurd h
side_has (suc s) y nil h = absurd h
side_has zero y (fork x p l q r) h = inr (inl h)
side_has (suc s) y (fork x p l q r) h = inr (inr h)

pub has_insert : (n u : ℕ) (t : Tree) (v h y : ℕ) → HasRow y (insert_r n u t v h) → HasRow y t ⊎ ((u ≤ y) × (y < count_r n u t v))
unfolding insert_r count_r
has_insert zero u t v h y e = has_made u y t (has_mark (bit 0 v) (row_for u t) y t h e)
has_insert (suc n) u t v h y e =
    let s = bit (suc n) v in
    let k = side s t in
    let grows = count_grows n (next u t) k v in
    let old : HasRow y (made u t) → HasRow y t ⊎ ((u ≤ y) × (y < count_r n (next u t) k v)) =
    λ m. ⊎_elim (λ a. inl a) (λ b. inr (omega arith, omega arith)) (has_made u y t m) in
    let new : HasRow y (insert_r n (next u t) k v h) → HasRow y t ⊎ ((u ≤ y) × (y < count_r n (next u t) k v)) =
    λ m. ⊎_elim (λ a. inl (side_has s y t a)) (λ b. inr (omega (arith, next_le u t), omega arith)) (has_insert n (next u t) k v h y m) in
    ⊎_elim old new (has_side s (row_for u t) y t (insert_r n (next u t) k v h) e)

pub under_insert : (n u : ℕ) (t : Tree) (v h : ℕ) → Under u t → Under (count_r n u t v) (insert_r n u t v h)
under_insert n u t v h b y e = ⊎_elim (λ a. omega (arith, b y a, count_grows n u t v)) (λ c. omega arith) (has_insert n u t v h y e)

apart_mark : (s x : ℕ) (t : Tree) (h : ℕ) → Apart (fork x (lmark t) (lt t) (rmark t) (rt t)) → Apart (set_mark s x t h)
apart_mark zero x t h a = a
apart_mark (suc s) x t h a = a

apart_side : (s x : ℕ) (t k : Tree) → Apart (fork x (lmark t) (lt t) (rmark t) (rt t)) → Apart k → (HasRow x k → ⊥)
    → ((y : ℕ) → HasRow y k → HasRow y (sib s t) → ⊥) → Apart (set_side s x t k)
apart_side zero x t k a b c d = (c, a.1, d, b, a.4)
apart_side (suc s) x t k a b c d = (a.0, c, (λ y p q. d y q p), a.3, b)

apart_kids : (s u : ℕ) (t : Tree) → Apart t → (HasRow (row_for u t) (side s t) → ⊥) × Apart (side s t) × ((y : ℕ) → HasRow y (side s t) → HasRow y (sib s t) → ⊥)
apart_kids zero u nil a = ((λ e. e), tt, (λ y p q. p))
apart_kids (suc s) u nil a = ((λ e. e), tt, (λ y p q. p))
apart_kids zero u (fork x p l q r) a = (a.0, a.3, a.2)
apart_kids (suc s) u (fork x p l q r) a = (a.1, a.4, (λ y h k. a.2 y k h))

row_under : (u : ℕ) (t : Tree) → Under u t → row_for u t < next u t
row_under u nil b = omega arith
row_under u (fork x p l q r) b = b x (inl refl)

sib_under : (s y : ℕ) (t : Tree) → HasRow y (sib s t) → HasRow y t
sib_under zero y nil h = absurd h
sib_under (suc s) y nil h = absurd h
sib_under zero y (fork x p l q r) h = inr (inr h)
sib_under (suc s) y (fork x p l q r) h = inr (inl h)

pub apart_insert : (n u : ℕ) (t : Tree) (v h : ℕ) → Apart t → Under u t → Apart (insert_r n u t v h)
unfolding insert_r
apart_insert zero u t v h a b = apart_mark (bit 0 v) (row_for u t) t h (made_apart u t a)
apart_insert (suc n) u t v h a b =
    let s = bit (suc n) v in
    let k = side s t in
    let ks = apart_kids s u t a in
    let kb : Under (next u t) k = λ y e. omega (arith, b y (side_has s y t e), next_le u t) in
    apart_side s (row_for u t) t (insert_r n (next u t) k v h) (made_apart u t a)
    (apart_insert n (next u t) k v h ks.1 kb)
    (λ e. ⊎_elim (λ c. ks.0 c) (λ c. omega (arith, row_under u t b)) (has_insert n (next u t) k v h (row_for u t) e))
    (λ y e f. ⊎_elim (λ c. ks.2 y c f) (λ c. omega (arith, b y (sib_under s y t f), next_le u t)) (has_insert n (next u t) k v h y e))
