-- What rules decide for two addresses (02, [6]): "among the matching rules the longest destination wins, then the longest source"; which
-- source tries are visited, "from the longest matching destination down until one matches"; and the rows on the paths in all of them.
use Rattle.std.specs.Prelude.{◌≡◌, true, List, [], ◌∷◌, ◌++◌, ℕ, suc, ◌≤◌, ◌<◌}
use Rattle.table.specs.Limits.{discard_hop}
use Rattle.table.specs.Table.{at}
use Rattle.table.specs.Prefix.{starts_with}
use Rattle.layout.specs.Blocks.{Strides, rows_along}
use Rattle.fields.specs.Rules.{Rules, rule_count}
use Rattle.fields.specs.Winning.{matches_rule, TopRule, NoRuleMatches}
use Rattle.fields.specs.Runs.{trie_table}
use Rattle.verdicts.specs.Tries.{trie_row, at_place}
use Rattle.rules.specs.Build.{rule_trie}

-- the action of the rule that wins, 0 where no rule matches
pub data ActionIs (W : ℕ) (rs : Rules) (da sa : ℕ) : (action : ℕ) → Type 0 where
  no_rule : NoRuleMatches W rs da sa → ActionIs W rs da sa 0
  top_rule : {j : ℕ} → TopRule W rs da sa j → ActionIs W rs da sa (at rs.actions j)

-- the rule that wins discards ("actions follow the hop rules of [4]")
abbrev pub TopDiscards : (W : ℕ) (rs : Rules) (da sa : ℕ) → Type 0
TopDiscards W rs da sa = (j : ℕ) × TopRule W rs da sa j × (at rs.actions j ≡ discard_hop)

-- the source trie of destination g is called for: the destination begins the address, and no rule that matches has a longer one
pub record Calls (W : ℕ) (rs : Rules) (m : ℕ) (from : ℕ → ℕ) (da sa g : ℕ) : Type 0 where
  pub inside : g < m
  pub begun : let t = trie_table rs m from 0 in starts_with W (at t.vals g) (at t.lens g) da ≡ true
  pub most : (i : ℕ) → i < rule_count rs → matches_rule W rs da sa i ≡ true → at rs.dlens i ≤ at (trie_table rs m from 0).lens g

-- rows of source tries, one trie after the other, numbered as in the lists: `rows_in g` are those of trie g, counted from its place
unfoldable pub rows_through : (list : List ℕ) (rows_in : ℕ → List ℕ) (tries : List ℕ) → List ℕ
rows_through list rows_in [] = []
rows_through list rows_in (g ∷ ts) = at_place (trie_row list g).place (rows_in g) ++ rows_through list rows_in ts

-- the rows of the blocks on the paths in all tries visited: on the destination's path, then on the source's in each of these tries
abbrev pub rows_on_way : (W k : ℕ) (rs : Rules) (m : ℕ) (from : ℕ → ℕ) (σ : ℕ → Strides) (list : List ℕ) (da sa : ℕ) (tries : List ℕ) → List ℕ
rows_on_way W k rs m from σ list da sa tries =
    rows_along (σ 0) W k (rule_trie W rs m from 0) da
    ++ rows_through list (λ g. rows_along (σ (suc g)) W k (rule_trie W rs m from (suc g)) sa) tries
