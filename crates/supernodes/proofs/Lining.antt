-- The queue of supernodes: what joins it, each one's turn, and that it is the breadth first order.
use Prim.Native.Nat.{ℕ, zero, suc, ◌+◌, ◌-◌, ◌*◌, ◌/◌, ◌≤◌, ◌<◌, zero-le}
use mathlib.Core.Path.{◌≡◌, refl, sym, ap, subst, ◌∙◌}
use mathlib.Core.Bool.{cond}
use mathlib.Core.List.{List, [], ◌∷◌, ◌++◌, append_assoc, append-nil}
use mathlib.Core.Logic.{◌⊎◌, inl, inr, ⊎_elim}
use native.Mathlib.Nat.{le_refl}
use native.Mathlib.Numerals.{add-one}
use native.Mathlib.Omega.{arith}
use lib.Dec.{eqb}
use lib.ListN.{length, length-append, get_or, set, length-set}
use lib.Seq.{get_or-set_same, get_or-set_other}
use Rattle.pieces.specs.BinaryTrie.{BinaryTrie, binary_nodes}
use Rattle.pieces.specs.Maps.{if_node, kids}
use Rattle.pieces.specs.Order.{queue_of, order}
use Rattle.pieces.specs.Rows.{supernodes_of}
use Rattle.pieces.specs.Depth.{deep, nodes_below}
use Rattle.pieces.proofs.Depth.{kids_lower, AllOf, all-++, HasNode, sizes, sizes-++, length_sizes, some_some, some_sizes, lower_some, lower_empty, lower_less, order_length, levels_end}
use Rattle.pieces.proofs.Order.{queue_none, queue_order}
use Rattle.supernodes.proofs.Linking.{column_is}
use Rattle.supernodes.specs.Limits.{node_row}
use Rattle.supernodes.specs.Linked.{row_column, node_column, Nodes}
use Rattle.supernodes.specs.Waiting.{queued, PushIn, PushAsk, Joined, Pushed, DrainIn, DrainAsk, HoldsQueue, Drained, LineIn, LineAsk, Lined}

-- ---- the queue column
pub queued_length : (tree : ℕ → BinaryTrie) (rows : List ℕ) (i n : ℕ) → length (queued tree rows i n) ≡ n
unfolding queued
queued_length tree rows i zero = refl
queued_length tree rows i (suc n) = ap suc (queued_length tree rows (suc i) n)

pub queued-++ : (tree : ℕ → BinaryTrie) (rows : List ℕ) (i m n j k : ℕ) → j ≡ i + m → k ≡ m + n → queued tree rows i k ≡ queued tree rows i m ++ queued tree rows j n
unfolding queued
queued-++ tree rows i zero n j k e f = let a : j ≡ i = omega arith in let b : k ≡ n = omega arith in rw (a, b) refl
queued-++ tree rows i (suc m) n j k e f =
    let b : k ≡ suc (m + n) = omega arith in
    rw b (ap (λ (q : List BinaryTrie). tree (row_column rows i 3) ∷ q) (queued-++ tree rows (suc i) m n j (m + n) (omega arith) refl))

queued_same : (tree : ℕ → BinaryTrie) (rows rows' : List ℕ) (i n : ℕ) → ((j : ℕ) → i ≤ j → j < i + n → row_column rows' j 3 ≡ row_column rows j 3)
    → queued tree rows' i n ≡ queued tree rows i n
unfolding queued
queued_same tree rows rows' i zero f = refl
queued_same tree rows rows' i (suc n) f =
    rw (f i (le_refl i) (omega arith), queued_same tree rows rows' (suc i) n (λ j a b. f j (omega arith) (omega arith))) refl

pub queued_one : (tree : ℕ → BinaryTrie) (rows : List ℕ) (i : ℕ) → queued tree rows i 1 ≡ tree (row_column rows i 3) ∷ []
unfolding queued
queued_one tree rows i = refl

queue_turn : (n : ℕ) (x : BinaryTrie) (w : List BinaryTrie) → x ∷ queue_of kids n (w ++ kids x) ≡ queue_of kids (suc n) (x ∷ w)
unfolding queue_of
queue_turn n x w = refl

-- ---- a place of the queue is set
ask_set : (rows rows' : List ℕ) (x v k c : ℕ) → rows' ≡ set rows (x * node_row + 3) v → c < 3 → node_column rows' k c ≡ node_column rows k c
unfolding node_column
ask_set rows rows' x v k c e h =
    ap (λ (z : ℕ). cond (eqb k 0) 0 z) (ap (λ (l : List ℕ). get_or l ((k - 1) * node_row + c) 0) e
    ∙ get_or-set_other rows (x * node_row + 3) ((k - 1) * node_row + c) v 0 (λ z. omega arith))

nodes_set : (tree : ℕ → BinaryTrie) (used : ℕ) (rows rows' : List ℕ) (x v : ℕ) → rows' ≡ set rows (x * node_row + 3) v → Nodes tree used rows → Nodes tree used rows'
nodes_set tree used rows rows' x v e n = record {
  none = n.none;
  fits = rw (ap length e ∙ length-set rows (x * node_row + 3) v) n.fits;
  each = λ k a b. let o = n.each k a b in record {
    left = rw (ask_set rows rows' x v k 0 e (omega arith)) o.left;
    right = rw (ask_set rows rows' x v k 1 e (omega arith)) o.right;
    is = rw (ask_set rows rows' x v k 0 e (omega arith), ask_set rows rows' x v k 1 e (omega arith), ask_set rows rows' x v k 2 e (omega arith)) o.is;
  };
}

-- ---- joining
joined-++ : (tree : ℕ → BinaryTrie) (used : ℕ) (rows rows1 rows2 : List ℕ) (a b : List BinaryTrie) (tail next end : ℕ)
    → Joined tree used rows a tail next rows1 → Joined tree used rows1 b next end rows2 → Joined tree used rows (a ++ b) tail end rows2
joined-++ tree used rows rows1 rows2 a b tail next end x y = record {
  end = omega (arith, length-append a b, x.end, y.end);
  nodes = y.nodes;
  queue =
      queued-++ tree rows2 tail (length a) (length b) next (length (a ++ b)) x.end (length-append a b)
      ∙ ap (λ (q : List BinaryTrie). q ++ queued tree rows2 next (length b)) (queued_same tree rows1 rows2 tail (length a) (λ j m n. y.kept j (omega (arith, x.end))) ∙ x.queue)
      ∙ ap (λ (q : List BinaryTrie). a ++ q) y.queue;
  links = λ i m n. ⊎_elim (λ (z : i < next). rw (y.kept i z) (x.links i m z)) (λ (z : next ≤ i). y.links i z n) (lt_or_le i next);
  kept = λ i m. y.kept i (omega (arith, x.end)) ∙ x.kept i m;
}
  where
    lt_or_le : (i n : ℕ) → (i < n) ⊎ (n ≤ i)
    lt_or_le i n = elim (native.Mathlib.Decide.dec_le n i) [ yes p ↦ inr p | no p ↦ inl (omega arith) ]

module _ {rows : List ℕ} {k c tail : ℕ} where
  pub push_none : k ≡ 0 → Pushed rows k c tail tail rows
  unfolding queued
  push_none e tree used g =
      let z : nodes_below c (tree k) ≡ [] = ap (λ (j : ℕ). nodes_below c (tree j)) e ∙ ap (nodes_below c) g.nodes.none ∙ lower_empty c in
      rw z (record { end = omega arith; nodes = g.nodes; queue = refl; links = λ i a b. absurd (omega arith); kept = λ i a. refl })

  module _ (ne : k ≡ 0 → ⊥) where
    one_below : (tree : ℕ → BinaryTrie) (used : ℕ) → PushIn tree used rows k c tail → c ≡ 0 → nodes_below c (tree k) ≡ tree k ∷ []
    unfolding nodes_below if_node
    one_below tree used g e = let n = g.nodes.each k (omega arith) g.link in rw (e, n.is) refl

    pub push_room : PushAsk rows k c tail → c ≡ 0 → (tail + 1) * node_row ≤ length rows
    push_room (tree, used, g) e = omega (arith, ap length (one_below tree used g e), g.room, g.nodes.fits)

    pub push_here : {rows1 : List ℕ} → c ≡ 0 → rows1 ≡ set rows (tail * node_row + 3) k → Pushed rows k c tail (tail + 1) rows1
    unfolding queued
    push_here {rows1} e s tree used g =
        let z = one_below tree used g e in
        let own : row_column rows1 tail 3 ≡ k = ap (λ (l : List ℕ). get_or l (tail * node_row + 3) 0) s
        ∙ get_or-set_same rows (tail * node_row + 3) k 0 (omega (arith, ap length z, g.room, g.nodes.fits)) in
        rw z (record {
          end = omega arith;
          nodes = nodes_set tree used rows rows1 tail k s g.nodes;
          queue = rw own refl;
          links = λ i a b. let y : i ≡ tail = omega arith in rw (y, own) g.link;
          kept = λ i a. ap (λ (l : List ℕ). get_or l (i * node_row + 3) 0) s ∙ get_or-set_other rows (tail * node_row + 3) (i * node_row + 3) k 0 (λ y. omega arith);
        })

    module _ {l r b : ℕ} (e : l ≡ node_column rows k 0) (f : r ≡ node_column rows k 1) (ne2 : c ≡ 0 → ⊥) (p : b ≡ c - 1) where
      both_below : (tree : ℕ → BinaryTrie) (used : ℕ) → PushIn tree used rows k c tail → nodes_below c (tree k) ≡ nodes_below b (tree l) ++ nodes_below b (tree r)
      unfolding nodes_below
      both_below tree used g =
          let n = g.nodes.each k (omega arith) g.link in
          let z : c ≡ suc b = omega arith in
          rw (z, n.is, e, f) refl

      left_in : (tree : ℕ → BinaryTrie) (used : ℕ) → PushIn tree used rows k c tail → PushIn tree used rows l b tail
      left_in tree used g =
          let n = g.nodes.each k (omega arith) g.link in
          record { nodes = g.nodes; link = rw e n.left; room = omega (arith, g.room, ap length (both_below tree used g), length-append (nodes_below b (tree l)) (nodes_below b (tree r))) }

      right_in : (tree : ℕ → BinaryTrie) (used : ℕ) {next : ℕ} {rows1 : List ℕ} → PushIn tree used rows k c tail
          → Joined tree used rows (nodes_below b (tree l)) tail next rows1 → PushIn tree used rows1 r b next
      right_in tree used g j =
          let n = g.nodes.each k (omega arith) g.link in
          record { nodes = j.nodes; link = rw f n.right; room = omega (arith, j.end, g.room, ap length (both_below tree used g), length-append (nodes_below b (tree l)) (nodes_below b (tree r))) }

      pub push_left : PushAsk rows k c tail → PushAsk rows l b tail
      push_left (tree, used, g) = (tree, used, left_in tree used g)

      module _ {next : ℕ} {rows1 : List ℕ} (x : Pushed rows l b tail next rows1) where
        pub push_right : PushAsk rows k c tail → PushAsk rows1 r b next
        push_right (tree, used, g) = (tree, used, right_in tree used g (x tree used (left_in tree used g)))

        pub push_both : {end : ℕ} {rows2 : List ℕ} → Pushed rows1 r b next end rows2 → Pushed rows k c tail end rows2
        push_both y tree used g =
            let j = x tree used (left_in tree used g) in
            rw (both_below tree used g) (joined-++ tree used rows _ _ (nodes_below b (tree l)) (nodes_below b (tree r)) tail next _ j (y tree used (right_in tree used g j)))

-- ---- the turns
-- i have had their turn: what is taken and what the rest will give make the whole order
pub record Turns (tree : ℕ → BinaryTrie) (used : ℕ) (t : BinaryTrie) (rows : List ℕ) (tail i : ℕ) : Type 0 where
  pub nodes : Nodes tree used rows
  pub done : i ≤ tail
  pub order : queued tree rows 0 i ++ queue_of kids (binary_nodes t - i) (queued tree rows i (tail - i)) ≡ queue_of kids (binary_nodes t) (if_node t)
  pub alive : AllOf HasNode (queued tree rows i (tail - i))
  pub fits : i + sizes (queued tree rows i (tail - i)) ≤ binary_nodes t
  pub links : (j : ℕ) → j < tail → row_column rows j 3 ≤ used
  pub room : binary_nodes t ≤ used

turns_tail : {tree : ℕ → BinaryTrie} {used : ℕ} {t : BinaryTrie} {rows : List ℕ} {tail i : ℕ} → Turns tree used t rows tail i → tail ≤ binary_nodes t
turns_tail {tree = tree} {rows = rows} {tail = tail} {i = i} v =
    omega (arith, length_sizes (queued tree rows i (tail - i)) v.alive, queued_length tree rows i (tail - i), v.fits, v.done)

pub turns_first : (tree : ℕ → BinaryTrie) (used : ℕ) (t : BinaryTrie) (rows : List ℕ) (first : ℕ) → DrainIn tree used t rows first → Turns tree used t rows first 0
unfolding queued
turns_first tree used t rows first g =
    let a : first - 0 ≡ first = omega arith in
    let b : binary_nodes t - 0 ≡ binary_nodes t = omega arith in
    record {
      nodes = g.nodes;
      done = zero-le;
      order = rw (a, b, g.queue) refl;
      alive = rw (a, g.queue) (some_some t);
      fits = rw (a, g.queue, some_sizes t) (omega arith);
      links = g.links;
      room = g.room;
    }

module _ {tree : ℕ → BinaryTrie} {used : ℕ} {t : BinaryTrie} {rows : List ℕ} {tail i : ℕ} (v : Turns tree used t rows tail i) (h : i < tail) where
  abbrev x : BinaryTrie
  x = tree (row_column rows i 3)

  abbrev w : List BinaryTrie
  w = queued tree rows (suc i) (tail - suc i)

  waits : queued tree rows i (tail - i) ≡ x ∷ w
  unfolding queued
  waits = let e : tail - i ≡ suc (tail - suc i) = omega arith in rw e refl

  x_some : HasNode x
  x_some = let a : AllOf HasNode (x ∷ w) = rw waits at v.alive in a.0

  w_some : AllOf HasNode w
  w_some = let a : AllOf HasNode (x ∷ w) = rw waits at v.alive in a.1

  fits_on : i + (binary_nodes x + sizes w) ≤ binary_nodes t
  unfolding sizes
  fits_on = rw waits at v.fits

  pub turn_push : {k : ℕ} → k ≡ row_column rows i 3 → PushIn tree used rows k 4 tail
  turn_push {k} e = record {
    nodes = v.nodes;
    link = rw e (v.links i h);
    room = rw e (omega (
      arith,
      length_sizes w w_some,
      queued_length tree rows (suc i) (tail - suc i),
      length_sizes (nodes_below 4 x) (lower_some 4 x),
      lower_less 3 x x_some,
      fits_on,
      v.room,
    ));
  }

  pub turns_next : {k next i' : ℕ} {rows' : List ℕ} → k ≡ row_column rows i 3 → i' ≡ suc i
      → Joined tree used rows (nodes_below 4 (tree k)) tail next rows' → Turns tree used t rows' next i'
  turns_next {k} {next} {i'} {rows'} e z j = subst (Turns tree used t rows' next) (sym z) (record {
    nodes = j.nodes;
    done = omega (arith, j.end);
    order = rw (rest, taken) (append_assoc (queued tree rows 0 i) (x ∷ []) (queue_of kids (binary_nodes t - suc i) (w ++ kids x))
        ∙ ap (λ (q : List BinaryTrie). queued tree rows 0 i ++ q) turn ∙ v.order);
    alive = rw rest (all-++ HasNode w (kids x) w_some (rw (kids_lower x) (lower_some 4 x)));
    fits = rw (rest, sizes-++ w (kids x), kids_lower x) (omega (arith, lower_less 3 x x_some, fits_on));
    links = λ m l. ⊎_elim (λ (y : m < tail). rw (j.kept m y) (v.links m y)) (λ (y : tail ≤ m). j.links m y l) (before? m);
    room = v.room;
  })
    where
      before? : (m : ℕ) → (m < tail) ⊎ (tail ≤ m)
      before? m = elim (native.Mathlib.Decide.dec_le tail m) [ yes p ↦ inr p | no p ↦ inl (omega arith) ]

      own : tree k ≡ x
      own = ap tree e

      rest : queued tree rows' (suc i) (next - suc i) ≡ w ++ kids x
      rest =
          queued-++ tree rows' (suc i) (tail - suc i) (length (nodes_below 4 (tree k))) tail (next - suc i) (omega arith) (omega (arith, j.end))
          ∙ ap (λ (q : List BinaryTrie). q ++ queued tree rows' tail (length (nodes_below 4 (tree k)))) (queued_same tree rows rows' (suc i) (tail - suc i) (λ m a b. j.kept m (omega arith)))
          ∙ ap (λ (q : List BinaryTrie). w ++ q) (j.queue ∙ ap (nodes_below 4) own ∙ sym (kids_lower x))

      taken : queued tree rows' 0 (suc i) ≡ queued tree rows 0 i ++ (x ∷ [])
      taken =
          queued-++ tree rows' 0 i 1 i (suc i) (omega arith) (omega arith)
          ∙ rw (queued_same tree rows rows' 0 i (λ m a b. j.kept m (omega arith)), queued_same tree rows rows' i 1 (λ m a b. j.kept m (omega arith))) last
        where
          last : queued tree rows 0 i ++ queued tree rows i 1 ≡ queued tree rows 0 i ++ (x ∷ [])
          last = ap (λ (q : List BinaryTrie). queued tree rows 0 i ++ q) (queued_one tree rows i)

      turn : x ∷ queue_of kids (binary_nodes t - suc i) (w ++ kids x) ≡ queue_of kids (binary_nodes t - i) (queued tree rows i (tail - i))
      turn =
          let s : binary_nodes t - i ≡ suc (binary_nodes t - suc i) = omega (arith, turns_tail v) in
          rw (s, waits) (queue_turn (binary_nodes t - suc i) x w)

pub turns_end : (tree : ℕ → BinaryTrie) (used : ℕ) (t : BinaryTrie) (rows : List ℕ) (tail i n : ℕ) → Turns tree used t rows tail i → tail ≤ i → deep t ≤ 4 * n
    → HoldsQueue tree used (order kids n (if_node t)) tail rows
unfolding queued
turns_end tree used t rows tail i n v h d =
    let e : i ≡ tail = omega (arith, v.done) in
    let z : tail - i ≡ 0 = omega arith in
    let o : queued tree rows 0 i ++ queue_of kids (binary_nodes t - i) [] ≡ queue_of kids (binary_nodes t) (if_node t) = rw z at v.order in
    let p : queued tree rows 0 i ≡ queue_of kids (binary_nodes t) (if_node t) = sym (append-nil (queued tree rows 0 i)) ∙ (rw (queue_none kids (binary_nodes t - i)) at o) in
    record {
      nodes = v.nodes;
      queue = ap (queued tree rows 0) (sym e) ∙ p ∙ queue_order kids n (if_node t) (binary_nodes t) (levels_end n t d)
          (rw (← some_sizes t) (order_length n (if_node t) (some_some t)));
      links = v.links;
      few = omega (arith, turns_tail v, v.room);
    }

-- ---- the code's needs
pub record Loop (rows₀ : List ℕ) (first : ℕ) (rows : List ℕ) (tail i : ℕ) : Type 0 where
  pub long : length rows ≡ length rows₀
  pub turns : (tree : ℕ → BinaryTrie) (used : ℕ) (t : BinaryTrie) → DrainIn tree used t rows₀ first → Turns tree used t rows tail i

module _ {rows₀ rows : List ℕ} {first tail i : ℕ} (l : Loop rows₀ first rows tail i) (h : i < tail) where
  pub loop_room : DrainAsk rows₀ first → ((i + 1) * node_row ≤ length rows) × (i < length rows)
  loop_room (tree, used, t, g) = let v = l.turns tree used t g in (omega (arith, turns_tail v, v.nodes.fits, v.room), omega (arith, turns_tail v, v.nodes.fits, v.room))

  module _ {k : ℕ} (e : k ≡ node_column rows (i + 1) 3) where
    is_col : k ≡ row_column rows i 3
    is_col = e ∙ rw (add-one i) (column_is rows i 3)

    pub loop_push : DrainAsk rows₀ first → PushAsk rows k 4 tail
    loop_push (tree, used, t, g) = (tree, used, turn_push (l.turns tree used t g) h is_col)

    pub loop_next : {next : ℕ} {rows' : List ℕ} → length rows' ≡ length rows → Pushed rows k 4 tail next rows' → Loop rows₀ first rows' next (i + 1)
    loop_next m p = record {
      long = m ∙ l.long;
      turns = λ tree used t g.
          let v = l.turns tree used t g in
          turns_next v h is_col (omega arith) (p tree used (turn_push v h is_col));
    }

pub loop_end : {rows₀ rows : List ℕ} {first tail i : ℕ} → Loop rows₀ first rows tail i → tail ≤ i → Drained rows₀ first tail rows
loop_end {rows = rows} {tail = tail} {i = i} l h tree used t g n d = turns_end tree used t rows tail i n (l.turns tree used t g) h d

pub loop_first : (rows : List ℕ) (first : ℕ) → Loop rows first rows first 0
loop_first rows first = record { long = refl; turns = λ tree used t g. turns_first tree used t rows first g }

pub line_push : {rows : List ℕ} {root : ℕ} → LineAsk rows root → PushAsk rows root 0 0
unfolding nodes_below
line_push {root = root} (tree, used, g) = (
  tree,
  used,
  record {
    nodes = g.nodes;
    link = g.link;
    room = omega (arith, length_sizes (if_node (tree root)) (some_some (tree root)), some_sizes (tree root), g.room);
  },
)

module _ {rows rows1 : List ℕ} {root first : ℕ} (p : Pushed rows root 0 0 first rows1) where
  drain_in : (tree : ℕ → BinaryTrie) (used : ℕ) → LineIn tree used rows root → DrainIn tree used (tree root) rows1 first
  unfolding nodes_below
  drain_in tree used g =
      let j = p tree used (record { nodes = g.nodes; link = g.link; room = omega (arith, length_sizes (if_node (tree root)) (some_some (tree root)), some_sizes (tree root), g.room) }) in
      let z : first ≡ length (if_node (tree root)) = omega (arith, j.end) in
      record { nodes = j.nodes; queue = rw z j.queue; links = λ i l. j.links i zero-le l; room = g.room }

  pub line_drain : LineAsk rows root → DrainAsk rows1 first
  line_drain (tree, used, g) = (tree, used, tree root, drain_in tree used g)

  pub line_out : {r : ℕ} {rows2 : List ℕ} → Drained rows1 first r rows2 → Lined rows root r rows2
  unfolding supernodes_of
  line_out d tree used g W h = d tree used (tree root) (drain_in tree used g) (suc (W / 4)) (omega arith)
