-- Breadth first: the levels one after the other are what a queue gives; the children of the supernode at i stand together, after those
-- of all before it.
use Prim.Native.Nat.{ℕ, zero, suc, ◌+◌, ◌-◌, ◌≤◌}
use mathlib.Core.Path.{◌≡◌, refl, sym, ap, ◌∙◌}
use mathlib.Core.List.{List, [], ◌∷◌, ◌++◌, append_assoc, append-nil}
use native.Mathlib.Omega.{arith}
use lib.ListN.{length, length-append, drop}
use lib.Seq.{drop-append_seam}
use Rattle.pieces.specs.Order.{kids_of, order, level, queue_of}

module _ {X : Type 0} (kids : X → List X) where
  pub kids-++ : (a b : List X) → kids_of kids (a ++ b) ≡ kids_of kids a ++ kids_of kids b
  unfolding kids_of
  kids-++ [] b = refl
  kids-++ (x ∷ a) b = ap (λ (t : List X). kids x ++ t) (kids-++ a b) ∙ sym (append_assoc (kids x) (kids_of kids a) (kids_of kids b))

  -- the children of all levels are all levels but the first
  pub kids_order : (n : ℕ) (q : List X) → kids_of kids (order kids n q) ≡ order kids n (kids_of kids q)
  unfolding order kids_of
  kids_order zero q = refl
  kids_order (suc n) q = kids-++ q (order kids n (kids_of kids q)) ∙ ap (λ (t : List X). kids_of kids q ++ t) (kids_order n (kids_of kids q))

  -- one level more changes nothing where there is none
  pub order_more : (n : ℕ) (q : List X) → level kids n q ≡ [] → order kids (suc n) q ≡ order kids n q
  unfolding order level kids_of
  order_more zero q e = rw e refl
  order_more (suc n) q e = ap (λ (t : List X). q ++ t) (order_more n (kids_of kids q) e)

  -- so the list is its start and then the children of its members, in order
  pub order_closed : (n : ℕ) (q : List X) → level kids n q ≡ [] → order kids n q ≡ q ++ kids_of kids (order kids n q)
  unfolding order
  order_closed n q e = sym (order_more n q e) ∙ ap (λ (t : List X). q ++ t) (sym (kids_order n q))

  -- ---- the queue
  pub queue_none : (n : ℕ) → queue_of kids n [] ≡ []
  unfolding queue_of
  queue_none zero = refl
  queue_none (suc n) = refl

  -- a whole level is taken; its children then wait behind what waited
  queue_level : (a b : List X) (m n : ℕ) → m ≡ length a + n → queue_of kids m (a ++ b) ≡ a ++ queue_of kids n (b ++ kids_of kids a)
  unfolding queue_of kids_of
  queue_level [] b m n e = let z : m ≡ n = omega arith in rw (z, append-nil b) refl
  queue_level (x ∷ a) b zero n e = absurd (omega arith)
  queue_level (x ∷ a) b (suc m) n e =
      ap (λ (t : List X). x ∷ t)
      (ap (queue_of kids m) (append_assoc a b (kids x)) ∙ queue_level a (b ++ kids x) m n (omega arith) ∙ ap (λ (t : List X). a ++ queue_of kids n t) (append_assoc b (kids x) (kids_of kids a)))

  -- n turns are enough where the levels hold n
  pub queue_order : (m : ℕ) (q : List X) (n : ℕ) → level kids m q ≡ [] → length (order kids m q) ≤ n → queue_of kids n q ≡ order kids m q
  unfolding order level
  queue_order zero q n e h = rw e (queue_none n)
  queue_order (suc m) q n e h =
      let l = length-append q (order kids m (kids_of kids q)) in
      ap (queue_of kids n) (sym (append-nil q)) ∙ queue_level q [] n (n - length q) (omega arith)
      ∙ ap (λ (t : List X). q ++ t) (queue_order m (kids_of kids q) (n - length q) e (omega arith))

  -- ---- the children of the member x, after the members a
  pub kid_place : (n : ℕ) (q a b : List X) (x : X) → level kids n q ≡ [] → order kids n q ≡ a ++ (x ∷ b)
      → drop (length q + length (kids_of kids a)) (order kids n q) ≡ kids x ++ kids_of kids b
  unfolding kids_of
  kid_place n q a b x e f =
      let g : order kids n q ≡ (q ++ kids_of kids a) ++ (kids x ++ kids_of kids b) =
      order_closed n q e ∙ ap (λ (t : List X). q ++ kids_of kids t) f ∙ ap (λ (t : List X). q ++ t) (kids-++ a (x ∷ b)) ∙ sym (append_assoc q (kids_of kids a) (kids x ++ kids_of kids b)) in
      ap (drop (length q + length (kids_of kids a))) g
      ∙ ap (λ (k : ℕ). drop k ((q ++ kids_of kids a) ++ (kids x ++ kids_of kids b))) (sym (length-append q (kids_of kids a)))
      ∙ drop-append_seam (q ++ kids_of kids a) (kids x ++ kids_of kids b)
