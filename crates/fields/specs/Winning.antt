-- Which rule wins (02, [6]): "among the matching rules the longest destination wins, then the longest source".
use Rattle.std.specs.Prelude.{◌≡◌, Bool, true, false, ◌&&◌, ◌⊎◌, ℕ, ◌≤◌, ◌<◌}
use Rattle.table.specs.Prefix.{starts_with}
use Rattle.table.specs.Table.{at}
use Rattle.fields.specs.Rules.{Rules, rule_count}

-- rule i matches: its destination begins the one address, its source the other
unfoldable pub matches_rule : ℕ → Rules → (da sa : ℕ) → ℕ → Bool
matches_rule W rs da sa i = starts_with W (at rs.dvals i) (at rs.dlens i) da && starts_with W (at rs.svals i) (at rs.slens i) sa

-- rule j is marked; no marked rule has a longer destination, and none with one as long has a longer source
pub record IsTop (m : ℕ → Bool) (dlen slen : ℕ → ℕ) (n j : ℕ) : Type 0 where
  pub inside : j < n
  pub marked : m j ≡ true
  pub most : (k : ℕ) → k < n → m k ≡ true → (dlen k < dlen j) ⊎ ((dlen k ≡ dlen j) × (slen k ≤ slen j))

-- rule j wins for these two addresses
abbrev pub TopRule : ℕ → Rules → (da sa j : ℕ) → Type 0
TopRule W rs da sa j = IsTop (matches_rule W rs da sa) (at rs.dlens) (at rs.slens) (rule_count rs) j

-- no rule matches
abbrev pub NoRuleMatches : ℕ → Rules → (da sa : ℕ) → Type 0
NoRuleMatches W rs da sa = (i : ℕ) → i < rule_count rs → matches_rule W rs da sa i ≡ false
