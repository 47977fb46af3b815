-- The way of an address over the rows of a trie: at each of the levels 0, 4, .. where a node begins the address, its supernode is visited;
-- the way comes to its end, and its winner is the deepest marked node on the address's path.
use Prim.Native.Nat.{ℕ, zero, suc, ◌+◌, ◌-◌, ◌*◌, ◌/◌, ◌^◌, ◌≤◌, ◌<◌}
use mathlib.Core.Path.{◌≡◌, refl, sym, ap, subst, ◌∙◌}
use mathlib.Core.Bool.{Bool, true, false}
use mathlib.Core.List.{List, [], ◌∷◌}
use native.Mathlib.Omega.{arith}
use native.Mathlib.Decide.{dec_le}
use lib.Dec.{ltb}
use lib.ListN.{length, get_or}
use lib.Pow.{shr-shr}
use borrow.Author.Tests.{ltb-true, ltb-false, lt-ltb, le-ltb}
use Rattle.table.specs.Table.{at}
use Rattle.pieces.specs.BinaryTrie.{BinaryTrie, empty, knot, mark}
use Rattle.pieces.specs.Maps.{STEP, place_on, bit_at, is_node, subtrie_along}
use Rattle.pieces.specs.Rows.{SupernodeRow, supernodes_of, bitmap_rows, bitmap_hops}
use Rattle.pieces.specs.Cuts.{path_at, child_at, NoBit, Matchable}
use Rattle.pieces.specs.Depth.{deep}
use Rattle.pieces.proofs.Inside.{internal_bit, external_bit}
use Rattle.pieces.proofs.Passing.{along_empty, along_split, along_path, branch_place, along_deep, node_deep}
use Rattle.visits.specs.Winner.{Best}
use Rattle.visits.specs.Winner.{won}
use Rattle.std.specs.Prelude.{None}
use Rattle.visits.specs.Rows.{RowLists, supernode_at, HoldRows, HoldHops}
use Rattle.visits.specs.Lookup.{best_after}
use Rattle.visits.specs.Meaning.{After, kept, newest, Way, last, on}
use Rattle.visits.proofs.Means.{better_after, path_small}
use Rattle.visits.proofs.LaidRows.{AtNumber, numbered_lt, numbered_is, numbered_row, numbered_child, numbered_hop}

ltb_suc : (m n : ℕ) → ltb (suc m) (suc n) ≡ ltb m n
ltb_suc m n = elim (dec_le (suc m) n) [
  | yes h ↦ lt-ltb (suc m) (suc n) (omega arith) ∙ sym (lt-ltb m n h)
  | no h ↦ le-ltb (suc m) (suc n) (omega arith) ∙ sym (le-ltb m n (omega arith))
]

no_node : (u : BinaryTrie) → is_node u ≡ false → u ≡ empty
unfolding is_node
no_node empty e = refl
no_node (knot m l r) e = cc

module _ (W : ℕ) (t : BinaryTrie) (address : ℕ) where
  -- where the first d bits of the address lead
  abbrev pub binary_on : ℕ → BinaryTrie
  binary_on d = subtrie_along d t (address / 2 ^ (W - d))

  -- d bits and then k more
  node_split : (d k : ℕ) → d + k ≤ W → binary_on (d + k) ≡ subtrie_along k (binary_on d) (address / 2 ^ (W - (d + k)))
  node_split d k h =
      let e : W - (d + k) + k ≡ W - d = omega arith in
      along_split d k t (address / 2 ^ (W - (d + k)))
      ∙ ap (λ (y : ℕ). subtrie_along k (subtrie_along d t y) (address / 2 ^ (W - (d + k)))) (shr-shr address (W - (d + k)) k ∙ ap (λ (j : ℕ). address / 2 ^ j) e)

  -- ---- the winner
  -- of the depths from c on and below n none has a mark
  abbrev pub Unmarked : (c n : ℕ) → Type 0
  Unmarked c n = (d : ℕ) → c ≤ d → d < n → d ≤ W → mark (binary_on d) ≡ 0

  -- the winner of the depths below n: none, where none there has a mark; else its hop is the mark of the deepest that has one, at which as
  -- many bits of the address are left as the winner says, and its number is below the count
  pub data WinnerOf (hops : List ℕ) (count n : ℕ) : Best → Type 0 where
    nowhere : Unmarked 0 n → WinnerOf hops count n None
    deepest : {place left : ℕ} (d : ℕ) → d + left ≡ W → 0 < mark (binary_on d) → Unmarked (suc d) n → at hops place ≡ mark (binary_on d) → place < count
        → WinnerOf hops count n (won place left)

  more_unmarked : {c n m : ℕ} → Unmarked c n → Unmarked n m → Unmarked c m
  more_unmarked {n = n} f g d a b w = elim (dec_le n d) [ yes h ↦ g d h b w | no h ↦ f d a (omega arith) w ]

  still_winner : {hops : List ℕ} {count n m : ℕ} {b : Best} → WinnerOf hops count n b → Unmarked n m → WinnerOf hops count m b
  still_winner (nowhere f) g = nowhere (more_unmarked f g)
  still_winner (deepest d w s f h c) g = deepest d w s (more_unmarked f g) h c

  -- ---- the supernodes visited
  -- from depth m on: one at each of the depths m, m + 4, .. that has a node
  pub record Steps (m : ℕ) (is : List ℕ) : Type 0 where
    pub levels : (n : ℕ) → m + STEP * n ≤ W → ltb n (length is) ≡ is_node (binary_on (m + STEP * n))
    pub tries : (n : ℕ) → n < length is → get_or (supernodes_of W t) (get_or is n 0) empty ≡ binary_on (m + STEP * n)
    pub few : length is ≤ suc ((W - m) / STEP)

module _ (W : ℕ) (t : BinaryTrie) (rows : RowLists) (hops : List ℕ) (address : ℕ) (held : HoldRows rows 0 (bitmap_rows W t))
    (hopped : HoldHops hops 0 (bitmap_hops W t)) (root : is_node t ≡ true) (flat : deep t ≤ suc W) where
  abbrev count : ℕ
  count = length (bitmap_hops W t)

  abbrev on_path_lem : ℕ → BinaryTrie
  on_path_lem = binary_on W t address

  -- number i is the supernode at depth m on the path, where `left` bits are left
  pub record AtDepth (i m left : ℕ) : Type 0 where
    pub whole : m + left ≡ W
    pub number : AtNumber W t i (on_path_lem m)
    pub node : is_node (on_path_lem m) ≡ true

  module _ {i m left : ℕ} (here : AtDepth i m left) where
    abbrev p : ℕ
    p = path_at address left

    abbrev row : SupernodeRow
    row = supernode_at rows i

    -- its level j on the path, where so many bits are left
    level_node : (j : ℕ) → j ≤ STEP → j ≤ left → subtrie_along j (on_path_lem m) (p / 2 ^ (STEP - j)) ≡ on_path_lem (m + j)
    level_node j h l =
        let e : left - j ≡ W - (m + j) = omega (arith, here.whole) in
        along_path (on_path_lem m) address left j h l ∙ ap (λ (k : ℕ). subtrie_along j (on_path_lem m) (address / 2 ^ k)) e ∙ sym (node_split W t address m j (omega (arith, here.whole)))

    -- what the internal map says of it
    mark_bit : (j : ℕ) → Matchable left j → bit_at row.internal (place_on p j) ≡ ltb 0 (mark (on_path_lem (m + j)))
    mark_bit j w =
        ap (λ (r : SupernodeRow). bit_at r.internal (place_on p j)) (numbered_row rows here.number held)
        ∙ internal_bit (on_path_lem m) p j (path_small address left) (omega (arith, w.0))
        ∙ ap (λ (u : BinaryTrie). ltb 0 (mark u)) (level_node j (omega (arith, w.0)) w.1)

    no_bits_unmarked : (c : ℕ) → m ≤ c → ((j : ℕ) → c ≤ m + j → Matchable left j → NoBit row.internal (place_on p j)) → Unmarked W t address c (m + STEP)
    no_bits_unmarked c h f d a b w =
        let e : m + (d - m) ≡ d = omega arith in
        let in-it : Matchable left (d - m) = (omega arith, omega (arith, here.whole)) in
        let z : mark (on_path_lem (m + (d - m))) ≤ 0 = ltb-false 0 (mark (on_path_lem (m + (d - m)))) (sym (mark_bit (d - m) in-it) ∙ f (d - m) (omega arith) in-it) in
        subst (λ (k : ℕ). mark (on_path_lem k) ≡ 0) e (omega arith)

    -- the best after it is the winner of its own levels too
    winner_after : {b c : Best} → After row p left b c → WinnerOf W t address hops count m b → WinnerOf W t address hops count (m + STEP) c
    winner_after (kept f) s = still_winner W t address s (no_bits_unmarked m (omega arith) (λ j a w. f j w))
    winner_after (newest j g) s =
        let few : j ≤ 3 = omega (arith, g.within.0) in
        let w = numbered_hop rows here.number held hops hopped p j (path_small address left) few g.set in
        deepest {left = left - j} (m + j) (omega (arith, here.whole, g.within.1)) (ltb-true 0 (mark (on_path_lem (m + j))) (sym (mark_bit j g.within) ∙ g.set))
        (no_bits_unmarked (suc (m + j)) (omega arith) (λ k a v. g.longest k (omega arith) v)) (w.0 ∙ ap mark (level_node j (omega arith) g.within.1)) w.1

    -- ---- behind the branch
    abbrev lower : BinaryTrie
    lower = subtrie_along STEP (on_path_lem m) p

    behind : bit_at row.external p ≡ is_node lower
    behind =
        ap (λ (r : SupernodeRow). bit_at r.external p) (numbered_row rows here.number held) ∙ external_bit (on_path_lem m) p (path_small address left)
        ∙ ap is_node (branch_place (on_path_lem m) p (path_small address left))

    lower_is : STEP ≤ left → lower ≡ on_path_lem (m + STEP)
    lower_is h = let e : p / 2 ^ 0 ≡ p = omega arith in ap (subtrie_along STEP (on_path_lem m)) (sym e) ∙ level_node STEP (omega arith) h

    -- where a node stands there, four bits are left
    deep_enough : is_node lower ≡ true → STEP ≤ left
    deep_enough e = elim (dec_le STEP left) [
      | yes h ↦ h
      | no h ↦
          let d : deep (on_path_lem m) ≤ suc left = along_deep m t (address / 2 ^ (W - m)) (suc left) (omega (arith, here.whole)) in
          absurd (omega (arith, along_deep STEP (on_path_lem m) p 0 (omega arith), node_deep lower e))
    ]

    -- where none does, nothing lies deeper
    none_deeper : is_node lower ≡ false → (d : ℕ) → m + STEP ≤ d → d ≤ W → on_path_lem d ≡ empty
    none_deeper e d a w =
        let k : ℕ = d - (m + STEP) in
        let z : d ≡ m + STEP + k = omega arith in
        ap on_path_lem z ∙ node_split W t address (m + STEP) k (omega arith)
        ∙ ap (λ (u : BinaryTrie). subtrie_along k u (address / 2 ^ (W - (m + STEP + k)))) (sym (lower_is (omega (arith, here.whole))) ∙ no_node lower e) ∙ along_empty k _

    -- ---- the supernodes visited from here on
    first_level : on_path_lem m ≡ on_path_lem (m + STEP * 0)
    first_level = let e : m ≡ m + STEP * 0 = omega arith in ap on_path_lem e

    steps_last : is_node lower ≡ false → Steps W t address m (i ∷ [])
    unfolding is_node
    steps_last e = record { levels = levels; tries = tries; few = omega arith }
      where
        levels : (k : ℕ) → m + STEP * k ≤ W → ltb k 1 ≡ is_node (on_path_lem (m + STEP * k))
        levels zero h = sym here.node ∙ ap is_node first_level
        levels (suc k) h = le-ltb (suc k) 1 (omega arith) ∙ sym (ap is_node (none_deeper e (m + STEP * suc k) (omega arith) h))

        tries : (k : ℕ) → k < 1 → get_or (supernodes_of W t) (get_or (i ∷ []) k 0) empty ≡ on_path_lem (m + STEP * k)
        tries zero h = numbered_is here.number ∙ first_level
        tries (suc k) h = absurd (omega arith)

    steps_on : {is : List ℕ} → STEP ≤ left → Steps W t address (m + STEP) is → Steps W t address m (i ∷ is)
    steps_on {is} l s = record { levels = levels; tries = tries; few = omega (arith, here.whole, s.few) }
      where
        next : (k : ℕ) → on_path_lem (m + STEP + STEP * k) ≡ on_path_lem (m + STEP * suc k)
        next k = let e : m + STEP + STEP * k ≡ m + STEP * suc k = omega arith in ap on_path_lem e

        levels : (k : ℕ) → m + STEP * k ≤ W → ltb k (suc (length is)) ≡ is_node (on_path_lem (m + STEP * k))
        levels zero h = lt-ltb 0 (suc (length is)) (omega arith) ∙ sym here.node ∙ ap is_node first_level
        levels (suc k) h = ltb_suc k (length is) ∙ s.levels k (omega arith) ∙ ap is_node (next k)

        tries : (k : ℕ) → k < suc (length is) → get_or (supernodes_of W t) (get_or (i ∷ is) k 0) empty ≡ on_path_lem (m + STEP * k)
        tries zero h = numbered_is here.number ∙ first_level
        tries (suc k) h = s.tries k (omega arith) ∙ next k

  -- ---- the whole way
  pub record Goes (i m left : ℕ) (best : Best) : Type 0 where
    pub numbers : List ℕ
    pub winner : Best
    pub way : Way (length (supernodes_of W t)) address (supernode_at rows) i left best numbers winner true
    pub says : WinnerOf W t address hops count (suc W) winner
    pub steps : Steps W t address m numbers

  module _ {i m left : ℕ} (here : AtDepth i m left) {best : Best} (s : WinnerOf W t address hops count m best) where
    abbrev now : Best
    now = best_after (supernode_at rows i) (path_at address left) left best

    abbrev next : ℕ
    next = child_at (supernode_at rows i) (path_at address left)

    after : After (supernode_at rows i) (path_at address left) left best now
    after = better_after (supernode_at rows i) (path_at address left) left best (path_small address left)

    winner_now : WinnerOf W t address hops count (m + STEP) now
    winner_now = winner_after here after s

    -- the way ends here
    goes_last : is_node (lower here) ≡ false → Goes i m left best
    unfolding mark
    goes_last e = record {
      numbers = i ∷ [];
      winner = now;
      way = last (numbered_lt here.number) after (behind here ∙ e);
      says = still_winner W t address winner_now (λ d a b w. ap mark (none_deeper here e d a w));
      steps = steps_last here e;
    }

    -- or goes on four levels lower
    goes_on : is_node (lower here) ≡ true → (STEP ≤ left → AtDepth next (m + STEP) (left - STEP) → Goes next (m + STEP) (left - STEP) now) → Goes i m left best
    goes_on e f =
        let small = path_small address left in
        let bit = behind here ∙ e in
        let l = deep_enough here e in
        let there = lower_is here l in
        let child = numbered_child rows here.number held (path_at address left) small bit root flat in
        let g = f l (record {
          whole = omega (arith, here.whole);
          number = subst (AtNumber W t next) (branch_place (on_path_lem m) (path_at address left) small ∙ there) child;
          node = sym (ap is_node there) ∙ e;
        }) in
        record {
          numbers = i ∷ g.numbers;
          winner = g.winner;
          way = on (numbered_lt here.number) after bit l g.way;
          says = g.says;
          steps = steps_on here l g.steps;
        }

    goes_by : (STEP ≤ left → AtDepth next (m + STEP) (left - STEP) → Goes next (m + STEP) (left - STEP) now) → Goes i m left best
    goes_by f = go (is_node (lower here)) refl
      where
        go : (b : Bool) → is_node (lower here) ≡ b → Goes i m left best
        go false e = goes_last e
        go true e = goes_on e f

  pub goes : (k : ℕ) {i m left : ℕ} {best : Best} → k ≡ left / STEP → AtDepth i m left → WinnerOf W t address hops count m best → Goes i m left best
  goes zero z here s = goes_by here s (λ l there. absurd (omega arith))
  goes (suc k) z here s = goes_by here s (λ l there. goes k (omega arith) there (winner_now here s))
