-- Strides that can be built stay so on the way down: at a node between blocks on both sides, at a block below its stride, and
-- where bits lead.
use Prim.Native.Nat.{ℕ, zero, suc, pred, ◌+◌, ◌-◌, ◌≤◌, ◌<◌}
use mathlib.Core.Path.{◌≡◌}
use native.Mathlib.Omega.{arith}
use Rattle.strides.specs.Trie.{Trie, none, node, Some, left, right, kid, bit, sub_along}
use Rattle.strides.specs.Strides.{Good}
use Rattle.layout.specs.Blocks.{Strides}

module _ (σ : Strides) where
  pub good_left : (t : Trie) (w c r : ℕ) → Good σ t w (suc c) r → Good σ (left t) (pred w) c r
  good_left none w c r g = tt
  good_left (node p a q b) zero c r g = absurd g
  good_left (node p a q b) (suc w) c r g = g.0

  pub good_right : (t : Trie) (w c r : ℕ) → Good σ t w (suc c) r → Good σ (right t) (pred w) c r
  good_right none w c r g = tt
  good_right (node p a q b) zero c r g = absurd g
  good_right (node p a q b) (suc w) c r g = g.1

  -- a node has an address bit left, and where its block begins a level too
  pub good_width : (t : Trie) (w c r : ℕ) → Some t → Good σ t w c r → 0 < w
  good_width none w c r s g = absurd s
  good_width (node p a q b) zero c r s g = absurd g
  good_width (node p a q b) (suc w) c r s g = omega arith

  pub good_level : (t : Trie) (w r : ℕ) → Some t → Good σ t w 0 r → 0 < r
  good_level none w r s g = absurd s
  good_level (node p a q b) zero r s g = absurd g
  good_level (node p a q b) (suc w) zero s g = absurd g
  good_level (node p a q b) (suc w) (suc r) s g = omega arith

  pub good_stride : (t : Trie) (w r : ℕ) → Some t → Good σ t w 0 (suc r) → (1 ≤ σ (suc r) t) × (σ (suc r) t ≤ w)
  good_stride none w r s g = absurd s
  good_stride (node p a q b) zero r s g = absurd g
  good_stride (node p a q b) (suc w) r s g = (g.0, g.1)

  pub good_root : (t : Trie) (w k : ℕ) → Some t → Good σ t w 0 k → 0 < σ k t
  good_root t w zero s g = absurd (omega (arith, good_level t w 0 s g))
  good_root t w (suc r) s g = (good_stride t w r s g).0

  pub good_below : (t : Trie) (w r s : ℕ) → σ (suc r) t ≡ suc s → Good σ t w 0 (suc r) → Good σ t w (suc s) r
  good_below none w r s e g = tt
  good_below (node p a q b) zero r s e g = absurd g
  good_below (node p a q b) (suc w) r s e g = go e (g.2, g.3)
    where
      go : {v : ℕ} → v ≡ suc s → Good σ a w (pred v) r × Good σ b w (pred v) r → Good σ a w s r × Good σ b w s r
      go e h = rw e at h

  -- a block: its stride, and what is good for the child that bits lead to
  pub record GoodBlock (w r : ℕ) (t : Trie) : Type 0 where
    pub s : ℕ
    pub stride : σ (suc r) t ≡ suc s
    pub fits : suc s ≤ w
    pub child : (x : ℕ) → Good σ (sub_along (suc s) t x) (w - suc s) 0 r

  pub good_along : (c m w r : ℕ) (t : Trie) (x : ℕ) → w ≡ c + m → Good σ t w c r → Good σ (sub_along c t x) m 0 r
  unfolding sub_along
  good_along zero m w r t x e g = let z : w ≡ m = omega arith in rw z at g
  good_along (suc c) m w r t x e g = side (bit c x)
      (good_along c m (pred w) r (left t) x (omega arith) (good_left t w c r g))
      (good_along c m (pred w) r (right t) x (omega arith) (good_right t w c r g))
    where
      side : (i : ℕ) → Good σ (sub_along c (left t) x) m 0 r → Good σ (sub_along c (right t) x) m 0 r → Good σ (sub_along c (kid i t) x) m 0 r
      side zero a b = a
      side (suc i) a b = b

  pub good_block : (t : Trie) (w r : ℕ) → Some t → Good σ t w 0 (suc r) → GoodBlock w r t
  good_block t w r some good =
      let g = good_stride t w r some good in
      let s = pred (σ (suc r) t) in
      let e : σ (suc r) t ≡ suc s = omega arith in
      record { s = s; stride = e; fits = omega arith; child = λ x. good_along (suc s) (w - suc s) w r t x (omega arith) (good_below t w r s e good) }
