-- The rows of all supernodes, one after the other: after i turns the lists hold the rows and hops of the first i of the queue.
use Prim.Native.Nat.{ℕ, suc, ◌+◌, ◌-◌, ◌*◌, ◌≤◌, ◌<◌, zero-le}
use mathlib.Core.Path.{◌≡◌, refl, sym, ap, subst, ◌∙◌}
use mathlib.Core.List.{List, [], ◌∷◌, ◌++◌, append-nil}
use native.Mathlib.Omega.{arith}
use lib.ListN.{length, length-append, get_or, length-set}
use lib.Seq.{get_or-set_same, get_or-set_other}
use Rattle.pieces.specs.BinaryTrie.{BinaryTrie}
use Rattle.pieces.specs.Maps.{EXTERNAL, kids, marks}
use Rattle.pieces.specs.Order.{kids_of}
use Rattle.pieces.specs.Rows.{SupernodeRow, supernode_row, supernode_rows, marks_of_all}
use Rattle.pieces.proofs.Order.{kids-++}
use Rattle.pieces.proofs.RangeCounts.{marks_join}
use Rattle.visits.specs.Rows.{RowLists, row_room, supernode_at, HoldRows, HoldHops}
use Rattle.supernodes.specs.Linked.{row_column}
use Rattle.supernodes.specs.Waiting.{queued}
use Rattle.supernodes.specs.Marking.{HopsPut, RowSet, SupernodeIn, SupernodeAsk, SupernodePut, SupernodeDone}
use Rattle.supernodes.specs.Filing.{FileIn, FileAsk, Filed}
use Rattle.supernodes.proofs.Lining.{queued_length, queued-++, queued_one}
use Rattle.supernodes.proofs.Marking.{put_none, put_both, kids_most}

-- ---- rows, children and hops of one supernode more
row_same : {a a' b b' c c' d d' : ℕ} → a ≡ a' → b ≡ b' → c ≡ c' → d ≡ d'
    → ◌≡◌ {A = SupernodeRow} (record { internal = a; external = b; first_child = c; first_hop = d }) (record { internal = a'; external = b'; first_child = c'; first_hop = d' })
row_same {a} {a'} {b} {b'} {c} {c'} {d} {d'} e f g h =
    ap (λ (x : ℕ). record { internal = x; external = b; first_child = c; first_hop = d }) e
    ∙ ap (λ (x : ℕ). record { internal = a'; external = x; first_child = c; first_hop = d }) f
    ∙ ap (λ (x : ℕ). record { internal = a'; external = b'; first_child = x; first_hop = d }) g
    ∙ ap (λ (x : ℕ). record { internal = a'; external = b'; first_child = c'; first_hop = x }) h

rows_kept : (xs : List SupernodeRow) (r r' : RowLists) (b : ℕ) → ((i : ℕ) → i < b + length xs → supernode_at r' i ≡ supernode_at r i) → HoldRows r b xs → HoldRows r' b xs
rows_kept [] r r' b f p = tt
rows_kept (x ∷ xs) r r' b f p = (f b (omega arith) ∙ p.0, rows_kept xs r r' (suc b) (λ i l. f i (omega arith)) p.1)

rows_join : (xs ys : List SupernodeRow) (r : RowLists) (b c : ℕ) → c ≡ b + length xs → HoldRows r b xs → HoldRows r c ys → HoldRows r b (xs ++ ys)
rows_join [] ys r b c e p q = let z : b ≡ c = omega arith in rw z q
rows_join (x ∷ xs) ys r b c e p q = (p.0, rows_join xs ys r (suc b) c (omega arith) p.1 q)

pub rows_long : (child hop : ℕ) (q : List BinaryTrie) → length (supernode_rows child hop q) ≡ length q
unfolding supernode_rows
rows_long child hop [] = refl
rows_long child hop (t ∷ q) = ap suc (rows_long (child + length (kids t)) (hop + length (marks t)) q)

rows_more : (child hop : ℕ) (a : List BinaryTrie) (x : BinaryTrie) → supernode_rows child hop (a ++ (x ∷ []))
    ≡ supernode_rows child hop a ++ (supernode_row (child + length (kids_of kids a)) (hop + length (marks_of_all a)) x ∷ [])
unfolding supernode_rows kids_of marks_of_all
rows_more child hop [] x = let c : child + 0 ≡ child = omega arith in let h : hop + 0 ≡ hop = omega arith in rw (c, h) refl
rows_more child hop (t ∷ a) x =
    let c : child + length (kids t) + length (kids_of kids a) ≡ child + length (kids t ++ kids_of kids a) = omega (arith, length-append (kids t) (kids_of kids a)) in
    let h : hop + length (marks t) + length (marks_of_all a) ≡ hop + length (marks t ++ marks_of_all a) = omega (arith, length-append (marks t) (marks_of_all a)) in
    ap (λ (r : List SupernodeRow). supernode_row child hop t ∷ r)
    (rows_more (child + length (kids t)) (hop + length (marks t)) a x
    ∙ ap (λ (y : ℕ). supernode_rows (child + length (kids t)) (hop + length (marks t)) a ++ (supernode_row y (hop + length (marks t) + length (marks_of_all a)) x ∷ [])) c
    ∙ ap (λ (y : ℕ). supernode_rows (child + length (kids t)) (hop + length (marks t)) a ++ (supernode_row (child + length (kids t ++ kids_of kids a)) y x ∷ [])) h)

marks_one : (x : BinaryTrie) → marks_of_all (x ∷ []) ≡ marks x
unfolding marks_of_all
marks_one x = append-nil (marks x)

kids_one : (x : BinaryTrie) → kids_of kids (x ∷ []) ≡ kids x
unfolding kids_of
kids_one x = append-nil (kids x)

kids_sum : (q : List BinaryTrie) → length (kids_of kids q) ≤ length q * EXTERNAL
unfolding kids_of
kids_sum [] = zero-le
kids_sum (t ∷ q) = omega (arith, length-append (kids t) (kids_of kids q), kids_most t, kids_sum q)

-- ---- one row is set
-- the four lists are as long as they were
pub record LongAs (lists lists' : RowLists) : Type 0 where
  pub internal : length lists'.internal ≡ length lists.internal
  pub external : length lists'.external ≡ length lists.external
  pub first_child : length lists'.first_child ≡ length lists.first_child
  pub first_hop : length lists'.first_hop ≡ length lists.first_hop

module _ {lists lists' : RowLists} {i : ℕ} {row : SupernodeRow} (s : RowSet lists i row lists') where
  on : {a b : List ℕ} (j : ℕ) → a ≡ b → get_or a j 0 ≡ get_or b j 0
  on j e = ap (λ (l : List ℕ). get_or l j 0) e

  set_long : LongAs lists lists'
  set_long = record {
    internal = ap length s.internal ∙ length-set lists.internal i row.internal;
    external = ap length s.external ∙ length-set lists.external i row.external;
    first_child = ap length s.first_child ∙ length-set lists.first_child i row.first_child;
    first_hop = ap length s.first_hop ∙ length-set lists.first_hop i row.first_hop;
  }

  set_here : i < row_room lists
      → supernode_at lists' i ≡ record { internal = row.internal; external = row.external; first_child = row.first_child; first_hop = row.first_hop }
  set_here h = row_same (on i s.internal ∙ get_or-set_same lists.internal i row.internal 0 (omega arith))
      (on i s.external ∙ get_or-set_same lists.external i row.external 0 (omega arith))
      (on i s.first_child ∙ get_or-set_same lists.first_child i row.first_child 0 (omega arith))
      (on i s.first_hop ∙ get_or-set_same lists.first_hop i row.first_hop 0 (omega arith))

  set_other : (j : ℕ) → (j ≡ i → ⊥) → supernode_at lists' j ≡ supernode_at lists j
  set_other j ne = row_same (on j s.internal ∙ get_or-set_other lists.internal i j row.internal 0 ne)
      (on j s.external ∙ get_or-set_other lists.external i j row.external 0 ne)
      (on j s.first_child ∙ get_or-set_other lists.first_child i j row.first_child 0 ne)
      (on j s.first_hop ∙ get_or-set_other lists.first_hop i j row.first_hop 0 ne)

-- ---- after i turns
pub record Halfway (tree : ℕ → BinaryTrie) (rows : List ℕ) (lists₀ : RowLists) (hops₀ : List ℕ) (i child hop : ℕ) (lists : RowLists) (hops : List ℕ) : Type 0 where
  pub children : child ≡ 1 + length (kids_of kids (queued tree rows 0 i))
  pub row : HoldRows lists 0 (supernode_rows 1 0 (queued tree rows 0 i))
  pub later : (j : ℕ) → i ≤ j → supernode_at lists j ≡ supernode_at lists₀ j
  pub put : HopsPut hops₀ 0 (marks_of_all (queued tree rows 0 i)) hop hops

pub record Turned (rows : List ℕ) (count : ℕ) (lists₀ : RowLists) (hops₀ : List ℕ) (i child hop : ℕ) (lists : RowLists) (hops : List ℕ) : Type 0 where
  pub done : i ≤ count
  pub long : LongAs lists₀ lists
  pub hops_long : length hops ≡ length hops₀
  pub half : (tree : ℕ → BinaryTrie) (used : ℕ) (ts : List BinaryTrie) → FileIn tree used ts rows count lists₀ hops₀
      → Halfway tree rows lists₀ hops₀ i child hop lists hops

pub turned_first : (rows : List ℕ) (count : ℕ) (lists : RowLists) (hops : List ℕ) → Turned rows count lists hops 0 1 0 lists hops
unfolding queued supernode_rows marks_of_all kids_of
turned_first rows count lists hops = record {
  done = zero-le;
  long = record { internal = refl; external = refl; first_child = refl; first_hop = refl };
  hops_long = refl;
  half = λ tree used ts g. record { children = refl; row = tt; later = λ j h. refl; put = put_none hops 0 };
}

module _ {rows : List ℕ} {count : ℕ} {lists₀ : RowLists} {hops₀ : List ℕ} {i child hop : ℕ} {lists : RowLists} {hops : List ℕ}
    (v : Turned rows count lists₀ hops₀ i child hop lists hops) where
  module _ (h : i < count) where
    module _ (tree : ℕ → BinaryTrie) (used : ℕ) (ts : List BinaryTrie) (g : FileIn tree used ts rows count lists₀ hops₀) where
      abbrev x : BinaryTrie
      x = tree (row_column rows i 3)

      abbrev q : List BinaryTrie
      q = queued tree rows 0 i

      one_more : queued tree rows 0 (suc i) ≡ q ++ (x ∷ [])
      one_more = queued-++ tree rows 0 i 1 i (suc i) (omega arith) (omega arith) ∙ ap (λ (w : List BinaryTrie). q ++ w) (queued_one tree rows i)

      hops_in : length (marks_of_all q) + length (marks x) ≤ length (marks_of_all ts)
      hops_in =
          let w = queued tree rows (suc i) (count - suc i) in
          let e : ts ≡ (q ++ (x ∷ [])) ++ w =
          sym g.held.queue ∙ queued-++ tree rows 0 (suc i) (count - suc i) (suc i) count (omega arith) (omega arith) ∙ ap (λ (z : List BinaryTrie). z ++ w) one_more in
          rw (e, marks_join (q ++ (x ∷ [])) w, marks_join q (x ∷ []), marks_one x)
          (omega (arith, length-append (marks_of_all q ++ marks x) (marks_of_all w), length-append (marks_of_all q) (marks x)))

      turn_in : SupernodeIn tree used rows i child hop lists hops
      turn_in =
          let a = v.half tree used ts g in
          let l = v.long in
          record {
            nodes = g.held.nodes;
            small = g.small;
            turn = omega (arith, g.held.few);
            link = g.held.links i h;
            room = omega (arith, g.room, l.internal, l.external, l.first_child, l.first_hop);
            hop_room = omega (arith, a.put.end, hops_in, g.hop_room, v.hops_long);
            few = omega (arith, a.children, kids_sum q, queued_length tree rows 0 i, g.few, g.held.few);
            few_hops = omega (arith, a.put.end, hops_in, g.few_hops);
          }

    pub turned_ask : FileAsk rows count lists₀ hops₀ → SupernodeAsk rows i child hop lists hops
    turned_ask (tree, used, ts, g) = (tree, used, turn_in tree used ts g)

    pub turned_next : {child' hop' i' : ℕ} {lists' : RowLists} {hops' : List ℕ} → FileAsk rows count lists₀ hops₀
        → SupernodeDone rows i child hop lists hops child' hop' lists' hops' → i' ≡ suc i → Turned rows count lists₀ hops₀ i' child' hop' lists' hops'
    turned_next {child'} {hop'} {lists' = lists'} {hops' = hops'} (tree₁, used₁, ts₁, g₁) d e =
        let o = d tree₁ used₁ (turn_in tree₁ used₁ ts₁ g₁) in
        let l = set_long o.row in
        let m = v.long in
        rw e (record {
          done = h;
          long = record {
            internal = l.internal ∙ m.internal;
            external = l.external ∙ m.external;
            first_child = l.first_child ∙ m.first_child;
            first_hop = l.first_hop ∙ m.first_hop;
          };
          hops_long = o.put.long ∙ v.hops_long;
          half = λ tree used ts g. step tree used ts g (v.half tree used ts g) (d tree used (turn_in tree used ts g));
        })
      where
        step : (tree : ℕ → BinaryTrie) (used : ℕ) (ts : List BinaryTrie) (g : FileIn tree used ts rows count lists₀ hops₀)
            → Halfway tree rows lists₀ hops₀ i child hop lists hops → SupernodePut (tree (row_column rows i 3)) i child hop lists hops child' hop' lists' hops'
            → Halfway tree rows lists₀ hops₀ (suc i) child' hop' lists' hops'
        step tree used ts g a o =
            let z = tree (row_column rows i 3) in
            let w = queued tree rows 0 i in
            let n : length w ≡ i = queued_length tree rows 0 i in
            let u = one_more tree used ts g in
            let c : child ≡ 1 + length (kids_of kids w) = a.children in
            let t : hop ≡ 0 + length (marks_of_all w) = a.put.end in
            record {
              children = o.children ∙ rw (u, kids-++ kids w (z ∷ []), kids_one z) (omega (arith, c, length-append (kids_of kids w) (kids z)));
              row = rw (u, rows_more 1 0 w z) (rows_join (supernode_rows 1 0 w) (supernode_row (1 + length (kids_of kids w)) (0 + length (marks_of_all w)) z ∷ []) lists' 0 i
                  (omega (arith, rows_long 1 0 w, n))
                  (rows_kept (supernode_rows 1 0 w) lists lists' 0 (λ j l. set_other o.row j (λ y. omega (arith, rows_long 1 0 w, n))) a.row)
                  (set_here o.row (turn_in tree used ts g).room ∙ ap (λ (y : ℕ). supernode_row y hop z) c ∙ ap (λ (y : ℕ). supernode_row (1 + length (kids_of kids w)) y z) t, tt));
              later = λ j l. set_other o.row j (λ y. omega arith) ∙ a.later j (omega arith);
              put = rw (u, marks_join w (z ∷ []), marks_one z) (put_both a.put o.put);
            }

  pub turned_end : count ≤ i → Filed rows count lists₀ hops₀ lists hops
  turned_end h tree used ts g =
      let e : count ≡ i = omega (arith, v.done) in
      let a = v.half tree used ts g in
      let q : queued tree rows 0 i ≡ ts = ap (queued tree rows 0) (sym e) ∙ g.held.queue in
      record {
        row = subst (λ (w : List BinaryTrie). HoldRows lists 0 (supernode_rows 1 0 w)) q a.row;
        hop = subst (λ (w : List BinaryTrie). HoldHops hops 0 (marks_of_all w)) q a.put.wrote;
        later = λ j l. a.later j (omega arith);
        later_hop = λ j l. a.put.after j (omega (arith, a.put.end, ap (λ (w : List BinaryTrie). length (marks_of_all w)) q));
      }
