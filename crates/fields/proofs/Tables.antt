-- The tables of the tries: how long their lists are, what stands in them, and that they are tables: the destinations rise strictly,
-- and in a run the sources do.
use mathlib.Core.Path.{◌≡◌, sym, ap, ◌∙◌}
use mathlib.Core.List.{List}
use mathlib.Core.Logic.{inl, inr}
use Prim.Native.Nat.{ℕ, zero, suc, ◌+◌, ◌-◌, ◌≤◌, ◌<◌}
use native.Mathlib.Omega.{arith}
use lib.ListN.{length, length-take, length-drop}
use lib.Seq.{get_or-take, get_or-drop}
use Rattle.table.specs.Entry.{Below}
use Rattle.table.specs.Table.{at, Entry, Table}
use Rattle.table.proofs.Lists.{listed_length, listed_at, listed_same}
use Rattle.table.proofs.Prefix.{below_not_same}
use Rattle.fields.specs.Rules.{Rules, rule_count, RuleBelow, GoodRules}
use Rattle.fields.specs.Runs.{Runs, part, trie_table}
use Rattle.fields.proofs.Runs.{from_inside, from_within, runs_few}

-- ---- a part of a list

pub part_length : (i j : ℕ) (xs : List ℕ) → j ≤ length xs → length (part i j xs) ≡ j - i
part_length i j xs h = simp (length-take, length-drop) (omega arith)

pub part_at : (i j : ℕ) (xs : List ℕ) (k : ℕ) → k < j - i → at (part i j xs) k ≡ at xs (i + k)
part_at i j xs k h = rw (get_or-take, get_or-drop)

-- ---- what the lists hold

module _ (rs : Rules) (m : ℕ) (from : ℕ → ℕ) where
  -- the destinations' table has m entries
  pub dest_lengths : (length (trie_table rs m from 0).vals ≡ m) × (length (trie_table rs m from 0).lens ≡ m) × (length (trie_table rs m from 0).hops ≡ m)
  unfolding trie_table
  dest_lengths = (listed_length _ m, listed_length _ m, listed_length _ m)

  -- entry g is the destination of run g, its hop the number of that run's trie
  pub dest_at : (g : ℕ) → g < m
      → (at (trie_table rs m from 0).vals g ≡ at rs.dvals (from g)) × (at (trie_table rs m from 0).lens g ≡ at rs.dlens (from g))
      × (at (trie_table rs m from 0).hops g ≡ suc g)
  unfolding trie_table
  dest_at g h = (listed_at _ m g h, listed_at _ m g h, listed_at suc m g h)

  -- the sources' table of run g has an entry for each rule of the run
  pub source_at : (g j : ℕ) → j < from (suc g) - from g
      → (at (trie_table rs m from (suc g)).vals j ≡ at rs.svals (from g + j)) × (at (trie_table rs m from (suc g)).lens j ≡ at rs.slens (from g + j))
      × (at (trie_table rs m from (suc g)).hops j ≡ at rs.actions (from g + j))
  unfolding trie_table
  source_at g j h = (part_at _ _ rs.svals j h, part_at _ _ rs.slens j h, part_at _ _ rs.actions j h)

-- runs that begin at the same places have the same tables
pub tables_same : (rs : Rules) (m : ℕ) (from from' : ℕ → ℕ) → ((g : ℕ) → g ≤ m → from g ≡ from' g) → (x : ℕ) → x ≤ m → trie_table rs m from x ≡ trie_table rs m from' x
unfolding trie_table
tables_same rs m from from' e zero h =
    rw (
      listed_same (λ g. at rs.dvals (from g)) (λ g. at rs.dvals (from' g)) m (λ g l. ap (at rs.dvals) (e g (omega arith))),
      listed_same (λ g. at rs.dlens (from g)) (λ g. at rs.dlens (from' g)) m (λ g l. ap (at rs.dlens) (e g (omega arith))),
    )
tables_same rs m from from' e (suc g) h = rw (e g (omega arith), e (suc g) h)

-- ---- they are tables

module _ (W : ℕ) (rs : Rules) (good : GoodRules W rs) {m : ℕ} {from : ℕ → ℕ} (r : Runs (at rs.dvals) (at rs.dlens) (rule_count rs) m from) where
  -- the destinations rise strictly
  dest_rises : (g : ℕ) → suc g < m → Below (at rs.dvals (from g)) (at rs.dlens (from g)) (at rs.dvals (from (suc g))) (at rs.dlens (from (suc g)))
  dest_rises g h =
      let i = from (suc g) in
      let z : 0 < i = omega (arith, r.some g (omega arith)) in
      let o = r.same g (i - 1) (omega arith) (omega (arith, r.some g (omega arith))) (omega arith) in
      go o.0 o.1 ((good.rule i (from_inside r (suc g) h)).above z)
    where
      go : at rs.dvals (from (suc g) - 1) ≡ at rs.dvals (from g) → at rs.dlens (from (suc g) - 1) ≡ at rs.dlens (from g)
          → RuleBelow rs (from (suc g) - 1) (from (suc g))
          → Below (at rs.dvals (from g)) (at rs.dlens (from g)) (at rs.dvals (from (suc g))) (at rs.dlens (from (suc g)))
      go v l (inl b) = rw (v, l) at b
      go v l (inr b) = absurd (r.apart g h (sym v ∙ b.0) (sym l ∙ b.1))

  dest_entry : (g : ℕ) → g < m → Entry W (at (trie_table rs m from 0).vals) (at (trie_table rs m from 0).lens) (at (trie_table rs m from 0).hops) g
  dest_entry g h =
      let a = dest_at rs m from g h in
      record {
        prefix = rw (a.0, a.1) (good.rule (from g) (from_inside r g h)).dest;
        some_hop = omega (arith, a.2);
        above = λ z. go g h z;
      }
    where
      go : (x : ℕ) → x < m → 0 < x
          → Below (at (trie_table rs m from 0).vals (x - 1)) (at (trie_table rs m from 0).lens (x - 1)) (at (trie_table rs m from 0).vals x) (at (trie_table rs m from 0).lens x)
      go zero l z = absurd (omega arith)
      go (suc x) l z =
          let e : suc x - 1 ≡ x = omega arith in
          let a = dest_at rs m from x (omega arith) in
          let b = dest_at rs m from (suc x) l in
          rw (e, a.0, a.1, b.0, b.1) (dest_rises x l)

  -- the destinations, with the numbers of their tries, are a table
  pub dest_table : Table W (trie_table rs m from 0).vals (trie_table rs m from 0).lens (trie_table rs m from 0).hops
  dest_table =
      let n = dest_lengths rs m from in
      record {
        some_width = good.some_width;
        width = good.width;
        lengths = n.1 ∙ sym n.0;
        hops = n.2 ∙ sym n.0;
        few = omega (arith, n.0, runs_few r, good.few);
        entry = λ i h. dest_entry i (omega (arith, n.0));
      }

  -- in a run the sources rise strictly
  source_rises : (g i : ℕ) → g < m → from g ≤ i → suc i < from (suc g) → Below (at rs.svals i) (at rs.slens i) (at rs.svals (suc i)) (at rs.slens (suc i))
  source_rises g i h a b =
      let o = r.same g i h a (omega arith) in
      let p = r.same g (suc i) h (omega arith) b in
      let e : suc i - 1 ≡ i = omega arith in
      go (o.0 ∙ sym p.0) (o.1 ∙ sym p.1) (rw e at ((good.rule (suc i) (omega (arith, from_within r (suc g) h))).above (omega arith)))
    where
      go : at rs.dvals i ≡ at rs.dvals (suc i) → at rs.dlens i ≡ at rs.dlens (suc i) → RuleBelow rs i (suc i)
          → Below (at rs.svals i) (at rs.slens i) (at rs.svals (suc i)) (at rs.slens (suc i))
      go v l (inl x) = absurd (below_not_same v l x)
      go v l (inr x) = x.2

  module _ (g : ℕ) (h : g < m) where
    pub source_lengths : (length (trie_table rs m from (suc g)).vals ≡ from (suc g) - from g) × (length (trie_table rs m from (suc g)).lens ≡ from (suc g) - from g)
        × (length (trie_table rs m from (suc g)).hops ≡ from (suc g) - from g)
    unfolding trie_table
    source_lengths =
        let e : from (suc g) ≤ rule_count rs = from_within r (suc g) h in (
          part_length (from g) (from (suc g)) rs.svals (omega (arith, good.lengths.svalues)),
          part_length (from g) (from (suc g)) rs.slens (omega (arith, good.lengths.slengths)),
          part_length (from g) (from (suc g)) rs.actions (omega (arith, good.lengths.acts)),
        )

    source_entry : (j : ℕ) → j < from (suc g) - from g
        → Entry W (at (trie_table rs m from (suc g)).vals) (at (trie_table rs m from (suc g)).lens) (at (trie_table rs m from (suc g)).hops) j
    source_entry j l =
        let a = source_at rs m from g j l in
        let s = good.rule (from g + j) (omega (arith, from_within r (suc g) h)) in
        record {
          prefix = rw (a.0, a.1) s.source;
          some_hop = rw a.2 s.some_action;
          above = λ z. go j l z;
        }
      where
        go : (x : ℕ) → x < from (suc g) - from g → 0 < x
            → Below (at (trie_table rs m from (suc g)).vals (x - 1)) (at (trie_table rs m from (suc g)).lens (x - 1)) (at (trie_table rs m from (suc g)).vals x)
            (at (trie_table rs m from (suc g)).lens x)
        go zero k z = absurd (omega arith)
        go (suc x) k z =
            let e : suc x - 1 ≡ x = omega arith in
            let i : from g + suc x ≡ suc (from g + x) = omega arith in
            let a = source_at rs m from g x (omega arith) in
            let b = source_at rs m from g (suc x) k in
            rw (e, a.0, a.1, b.0, b.1, i) (source_rises g (from g + x) h (omega arith) (omega arith))

    -- the sources of a run, with their actions, are a table
    pub source_table : Table W (trie_table rs m from (suc g)).vals (trie_table rs m from (suc g)).lens (trie_table rs m from (suc g)).hops
    source_table =
        let n = source_lengths in
        record {
          some_width = good.some_width;
          width = good.width;
          lengths = n.1 ∙ sym n.0;
          hops = n.2 ∙ sym n.0;
          few = omega (arith, n.0, from_within r (suc g) h, good.few);
          entry = λ i l. source_entry i (omega (arith, n.0));
        }
