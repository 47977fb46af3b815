-- The frame: a tree stands, and its rows hold their depths, where what is read of each of its rows is kept.
use mathlib.Core.Path.{◌≡◌, refl, ◌∙◌}
use mathlib.Core.List.{List}
use mathlib.Core.Logic.{inl, inr}
use Prim.Native.Nat.{ℕ, ◌<◌}
use native.Mathlib.Omega.{arith}
use Rattle.choosers.specs.Scratch.{DEPTH}
use Rattle.choosers.specs.Trees.{Tree, nil, fork, col, Stand, Deep, HasRow}

module _ (rows rows' : List ℕ) where
  -- links and marks stand before the depth
  pub keep_stand : (t : Tree) → ((y : ℕ) → HasRow y t → (c : ℕ) → c < DEPTH → col rows' y c ≡ col rows y c) → Stand rows t → Stand rows' t
  keep_stand nil same s = tt
  keep_stand (fork x p l q r) same s = (
    record {
      link0 = same x (inl refl) 0 (omega arith) ∙ s.0.link0;
      link1 = same x (inl refl) 1 (omega arith) ∙ s.0.link1;
      mark0 = same x (inl refl) 2 (omega arith) ∙ s.0.mark0;
      mark1 = same x (inl refl) 3 (omega arith) ∙ s.0.mark1;
    },
    keep_stand l (λ y h. same y (inr (inl h))) s.1,
    keep_stand r (λ y h. same y (inr (inr h))) s.2,
  )

  pub keep_deep : (t : Tree) → ((y : ℕ) → HasRow y t → col rows' y DEPTH ≡ col rows y DEPTH) → Deep rows t → Deep rows' t
  keep_deep nil same d = tt
  keep_deep (fork x p l q r) same d =
      (same x (inl refl) ∙ d.0, keep_deep l (λ y h. same y (inr (inl h))) d.1, keep_deep r (λ y h. same y (inr (inr h))) d.2)
