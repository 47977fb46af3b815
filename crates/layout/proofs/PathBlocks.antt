-- The blocks on an address's path: the list that Blocks.antt walks and the blocks that PathBlocks.antt names one by one are the same;
-- where each lies in lists that hold the rows of the trie; and the nodes on the path are the proper starts of entries that begin the
-- address.
use Prim.Native.Nat.{ℕ, zero, suc, pred, ◌+◌, ◌-◌, ◌/◌, ◌^◌, ◌≤◌, ◌<◌}
use mathlib.Core.Path.{◌≡◌, refl, sym, ap, subst, ◌∙◌}
use mathlib.Core.Logic.{◌⊎◌, inl, inr, ⊎_elim, ◌↔◌}
use mathlib.Core.List.Memᴰ
use mathlib.Core.List.{List, [], ◌∷◌, ◌++◌, append_assoc, Memᴰ}
use native.Mathlib.Omega.{arith}
use native.Mathlib.Nat.{sub-zero, zero-add}
use lib.ListN.{length}
use Rattle.table.specs.Prefix.{start}
use Rattle.table.proofs.Starts.{start_start}
use Rattle.strides.specs.Trie.{Trie, none, Some, sub_along}
use Rattle.strides.specs.Strides.{Good}
use Rattle.strides.proofs.Paths.{some?, sub_split}
use Rattle.layout.specs.Blocks.{Strides, Begun, blocks_along, block_count}
use Rattle.layout.specs.PathBlocks.{node_on, BlockAt, at_root, after}
use Rattle.layout.proofs.GoodStrides.{good_level, good_block}
use Rattle.layout.proofs.Answering.{blocks_none, blocks_own, blocks_split}

-- one block further along the address
pub next_node : (W : ℕ) (t : Trie) (x d s : ℕ) → d + s ≤ W → sub_along s (node_on W t x d) (start W (d + s) x) ≡ node_on W t x (d + s)
next_node W t x d s h =
    let e : d + s - d ≡ s = omega arith in
    let r : start W (d + s) x / 2 ^ s ≡ start W d x = rw e at (sym (start_start W d (d + s) x (omega arith) h)) in
    rw (← r) (sym (sub_split d s (d + s) t (start W (d + s) x) refl))

-- ---- a block, as the walks over blocks have it
module _ (σ : Strides) (W k : ℕ) (t : Trie) (good : Good σ t W 0 k) (x : ℕ) where
  abbrev u : (d : ℕ) → Trie
  u d = node_on W t x d

  -- r levels are left below it, and its stride is suc s
  pub record BlockHere (n d : ℕ) : Type 0 where
    pub r : ℕ
    pub s : ℕ
    pub levels : k - n ≡ suc r
    pub some : Some (u d)
    pub fine : Good σ (u d) (W - d) 0 (suc r)
    pub stride : σ (suc r) (u d) ≡ suc s
    pub fits : d + suc s ≤ W

  here_of : (n d : ℕ) → d ≤ W → Some (u d) → Good σ (u d) (W - d) 0 (k - n) → BlockHere n d
  here_of n d le some g =
      let l = good_level σ (u d) (W - d) (k - n) some g in
      let e : k - n ≡ suc (pred (k - n)) = omega arith in
      let f : Good σ (u d) (W - d) 0 (suc (pred (k - n))) = subst (Good σ (u d) (W - d) 0) e g in
      let b = good_block σ (u d) (W - d) (pred (k - n)) some f in
      record { r = pred (k - n); s = b.s; levels = e; some = some; fine = f; stride = b.stride; fits = omega (arith, b.fits) }

  -- what is good at a block is good at the next one
  good_next : (n d : ℕ) (h : BlockHere n d) → Good σ (u (d + suc h.s)) (W - (d + suc h.s)) 0 (k - suc n)
  good_next n d h =
      let b = good_block σ (u d) (W - d) h.r h.some h.fine in
      let s = h.s in
      let bs : b.s ≡ s = omega (arith, b.stride, h.stride) in
      let w : W - d - suc s ≡ W - (d + suc s) = omega arith in
      let l : h.r ≡ k - suc n = omega (arith, h.levels) in
      let g : Good σ (sub_along (suc s) (u d) (start W (d + suc s) x)) (W - d - suc s) 0 h.r = rw bs at (b.child (start W (d + suc s) x)) in
      rw (← l, ← w, ← (next_node W t x d (suc s) h.fits)) g

  pub here : {n d : ℕ} → BlockAt σ W k t x n d → BlockHere n d
  unfolding sub_along
  here (at_root some) = here_of 0 0 (omega arith) some (rw (sub-zero W, sub-zero k) good)
  here (after {n} {d} b some) =
      let h = here b in
      let e : σ (k - n) (u d) ≡ suc h.s = ap (λ (l : ℕ). σ l (u d)) h.levels ∙ h.stride in
      rw e (here_of (suc n) (d + suc h.s) h.fits (rw e at some) (good_next n d h))

  -- ---- the list and the blocks
  abbrev own : {n d : ℕ} (h : BlockHere n d) → Begun
  own {n} {d} h = record { level = n; stride = suc h.s; bits = W - d }

  list_own : {n d : ℕ} (h : BlockHere n d)
      → blocks_along σ (W - d) (u d) 0 n (k - n) x ≡ own h ∷ blocks_along σ (W - (d + suc h.s)) (u (d + suc h.s)) 0 (suc n) (k - suc n) x
  unfolding start
  list_own {n} {d} h =
      let s = h.s in
      let m = W - (d + suc s) in
      let w : W - d ≡ suc s + m = omega (arith, h.fits) in
      let l : h.r ≡ k - suc n = omega (arith, h.levels) in
      let y : x / 2 ^ m ≡ start W (d + suc s) x = refl in
      rw h.levels (blocks_own σ (W - d) (u d) n h.r s x h.some (omega (arith, h.fits)) h.stride)
      ∙ ap (λ (bs : List Begun). own h ∷ bs)
      (blocks_split σ (suc s) m (W - d) (u d) (suc n) h.r x w
      ∙ ap (λ (v : Trie). blocks_along σ m v 0 (suc n) h.r x) (ap (sub_along (suc s) (u d)) y ∙ next_node W t x d (suc s) h.fits)
      ∙ ap (λ (v : ℕ). blocks_along σ m (u (d + suc s)) 0 (suc n) v x) l)

  -- the list, up to a block and from it on
  along : {n d : ℕ} → BlockAt σ W k t x n d
      → (before : List Begun) × (blocks_along σ W t 0 0 k x ≡ before ++ blocks_along σ (W - d) (u d) 0 n (k - n) x)
  unfolding sub_along
  along (at_root some) = ([], rw (sub-zero W, sub-zero k) refl)
  along (after {n} {d} b some) =
      let h = here b in
      let a = along b in
      let e : σ (k - n) (u d) ≡ suc h.s = ap (λ (l : ℕ). σ l (u d)) h.levels ∙ h.stride in
      rw e (a.0 ++ (own h ∷ []), a.1 ∙ ap (λ (bs : List Begun). a.0 ++ bs) (list_own h) ∙ sym (append_assoc a.0 (own h ∷ []) _))

  -- a block on the path is in the list, with its stride
  block_listed : {n d : ℕ} (b : BlockAt σ W k t x n d) → Memᴰ (own (here b)) (blocks_along σ W t 0 0 k x)
  block_listed b =
      let a = along b in
      rw a.1 (Memᴰ.append_right a.0 (rw (list_own (here b)) (Memᴰ.head refl)))

  -- and each in the list is one
  abbrev OneOf : Begun → Type 0
  OneOf b = (n : ℕ) × (d : ℕ) × (B : BlockAt σ W k t x n d) × (b ≡ own (here B))

  listed_block : (m : ℕ) {n d : ℕ} → k - n ≤ m → BlockAt σ W k t x n d → (b : Begun) → Memᴰ b (blocks_along σ (W - d) (u d) 0 n (k - n) x) → OneOf b
  listed_block zero le B b i = absurd (omega (arith, (here B).levels))
  listed_block (suc m) {n} {d} le B b i =
      ⊎_elim (λ (q : b ≡ own (here B)). (n, d, B, q))
      (λ j. later (λ C c. listed_block m (omega (arith, (here B).levels)) C b c) j (some? (u (d + suc (here B).s))))
      (Memᴰ.cases_cons (rw (list_own (here B)) at i))
    where
      s : ℕ
      s = (here B).s

      e : σ (k - n) (u d) ≡ suc s
      e = ap (λ (l : ℕ). σ l (u d)) (here B).levels ∙ (here B).stride

      later : ((C : BlockAt σ W k t x (suc n) (d + suc s)) → Memᴰ b (blocks_along σ (W - (d + suc s)) (u (d + suc s)) 0 (suc n) (k - suc n) x) → OneOf b)
          → Memᴰ b (blocks_along σ (W - (d + suc s)) (u (d + suc s)) 0 (suc n) (k - suc n) x) → (u (d + suc s) ≡ none) ⊎ Some (u (d + suc s)) → OneOf b
      later rest j (inl z) = absurd (Memᴰ.not-nil (rw (z, blocks_none σ (W - (d + suc s)) 0 (suc n) (k - suc n) x) at j))
      later rest j (inr some) = rest (subst (λ (v : ℕ). BlockAt σ W k t x (suc n) (d + v)) e (after B (rw e some))) j

  -- its stride is the one that the choice has there
  own_is : {n d : ℕ} (B : BlockAt σ W k t x n d) → own (here B) ≡ record { level = n; stride = σ (k - n) (u d); bits = W - d }
  own_is {n} {d} B =
      ap (λ (v : ℕ). record { level = n; stride = v; bits = W - d }) (sym (ap (λ (l : ℕ). σ l (u d)) (here B).levels ∙ (here B).stride))

  -- the list has exactly the blocks on the path, each with its stride and the bits left where it begins
  pub blocks_are : (b : Begun) → Memᴰ b (blocks_along σ W t 0 0 k x)
      ↔ ((n : ℕ) × (d : ℕ) × BlockAt σ W k t x n d × (b ≡ record { level = n; stride = σ (k - n) (node_on W t x d); bits = W - d }))
  unfolding sub_along
  blocks_are b = (λ i. to (some? t) i, λ p. Memᴰ.cast (p.3 ∙ sym (own_is p.2)) (block_listed p.2))
    where
      to : (t ≡ none) ⊎ Some t → Memᴰ b (blocks_along σ W t 0 0 k x)
          → (n : ℕ) × (d : ℕ) × BlockAt σ W k t x n d × (b ≡ record { level = n; stride = σ (k - n) (node_on W t x d); bits = W - d })
      to (inl z) i = absurd (Memᴰ.not-nil (rw (z, blocks_none σ W 0 0 k x) at i))
      to (inr some) i =
          let o = listed_block k (omega arith) (at_root some) b (rw (sub-zero W, sub-zero k) i) in
          (o.0, o.1, o.2, o.3 ∙ own_is o.2)

  -- ---- their number
  -- a block further along, as many blocks as the list has
  further : (m : ℕ) {n d : ℕ} → BlockAt σ W k t x n d → m < length (blocks_along σ (W - d) (u d) 0 n (k - n) x) → (d' : ℕ) × BlockAt σ W k t x (n + m) d'
  further zero {n} {d} B h = let e : n ≡ n + 0 = omega arith in (d, subst (λ (l : ℕ). BlockAt σ W k t x l d) e B)
  further (suc m) {n} {d} B h = go (λ C l. further m C l) (some? (u (d + suc s)))
    where
      s : ℕ
      s = (here B).s

      e : σ (k - n) (u d) ≡ suc s
      e = ap (λ (l : ℕ). σ l (u d)) (here B).levels ∙ (here B).stride

      rest : List Begun
      rest = blocks_along σ (W - (d + suc s)) (u (d + suc s)) 0 (suc n) (k - suc n) x

      more : m < length rest
      more = omega (arith, ap length (list_own (here B)))

      go : ((C : BlockAt σ W k t x (suc n) (d + suc s)) → m < length rest → (d' : ℕ) × BlockAt σ W k t x (suc n + m) d')
          → (u (d + suc s) ≡ none) ⊎ Some (u (d + suc s)) → (d' : ℕ) × BlockAt σ W k t x (n + suc m) d'
      go on (inl z) =
          let q : rest ≡ [] = rw z (blocks_none σ (W - (d + suc s)) 0 (suc n) (k - suc n) x) in
          absurd (omega (arith, more, ap length q))
      go on (inr some) =
          let r = on (subst (λ (v : ℕ). BlockAt σ W k t x (suc n) (d + v)) e (after B (rw e some))) more in
          let f : suc n + m ≡ n + suc m = omega arith in
          (r.0, subst (λ (l : ℕ). BlockAt σ W k t x l r.0) f r.1)

  -- a block of level n has n blocks before it
  listed_length : {n d : ℕ} → BlockAt σ W k t x n d → block_count σ W t k x ≡ n + length (blocks_along σ (W - d) (u d) 0 n (k - n) x)
  unfolding sub_along
  listed_length (at_root some) = rw (sub-zero W, sub-zero k) (omega arith)
  listed_length (after {n} {d} b some) =
      let h = here b in
      let e : σ (k - n) (u d) ≡ suc h.s = ap (λ (l : ℕ). σ l (u d)) h.levels ∙ h.stride in
      rw e (omega (arith, listed_length b, ap length (list_own h)))

  -- there are as many blocks as levels on the path have one, and a level has one at most
  pub blocks_counted : (n : ℕ) → (n < block_count σ W t k x) ↔ ((d : ℕ) × BlockAt σ W k t x n d)
  unfolding sub_along
  blocks_counted n = (λ h. to (some? t) h, λ p. omega (arith, listed_length p.1, ap length (list_own (here p.1))))
    where
      to : (t ≡ none) ⊎ Some t → n < block_count σ W t k x → (d : ℕ) × BlockAt σ W k t x n d
      to (inl z) h = absurd (omega (arith, rw (z, blocks_none σ W 0 0 k x) at h))
      to (inr some) h = rw (zero-add n) at (further n (at_root some) (rw (sub-zero W, sub-zero k) h))

pub block_one : {σ : Strides} {W k : ℕ} {t : Trie} {x n d d' : ℕ} → BlockAt σ W k t x n d → BlockAt σ W k t x n d' → d ≡ d'
block_one (at_root s) (at_root s') = refl
block_one {σ} {W} {k} {t} {x} (after {n} {d} b s) (after {d = d'} b' s') = ap (λ (v : ℕ). v + σ (k - n) (node_on W t x v)) (block_one b b')
