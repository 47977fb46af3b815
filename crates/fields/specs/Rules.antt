-- Rules and their check (02, [6], with refusals 1, 3, 4 and 5): "a rule is a destination prefix, a source prefix and an action; at most
-- 1,024, strictly rising by destination value and length, then source value and length".
use Rattle.std.specs.Prelude.{◌≡◌, Bool, not, ◌&&◌, ◌||◌, List, ◌∷◌, ◌⊎◌, ℕ, ◌-◌, ◌≤◌, ◌<◌, length, ltb, eqb}
use Rattle.table.specs.Limits.{width_limit}
use Rattle.table.specs.Prefix.{prefix_bad, IsPrefix}
use Rattle.table.specs.Entry.{hop_refused, below, Below}
use Rattle.table.specs.Refusals.{Outcome, Test, test, outcome}
use Rattle.table.specs.Table.{at, width_test, tests_at, each_tests}
use Rattle.table.specs.declared.refusal.Refusal.TheVariants.{Shape}
use Rattle.fields.specs.Limits.{rule_limit}

-- the five lent lists: values and lengths of the destinations, values and lengths of the sources, actions
pub record Rules : Type 0 where
  pub dvals : List ℕ
  pub dlens : List ℕ
  pub svals : List ℕ
  pub slens : List ℕ
  pub actions : List ℕ

abbrev pub rules : (dvals dlens svals slens actions : List ℕ) → Rules
rules dvals dlens svals slens actions = record { dvals = dvals; dlens = dlens; svals = svals; slens = slens; actions = actions }

abbrev pub rule_count : Rules → ℕ
rule_count rs = length rs.dvals

-- ---- the tests

-- 3: a list of another length than the destinations' values, or too many rules
unfoldable pub rules_shape_bad : Rules → Bool
rules_shape_bad rs =
    not (eqb (length rs.dlens) (rule_count rs)) || not (eqb (length rs.svals) (rule_count rs))
    || not (eqb (length rs.slens) (rule_count rs)) || not (eqb (length rs.actions) (rule_count rs)) || ltb rule_limit (rule_count rs)

-- what that test leaves, besides the limit: five lists of one length
pub record SameLengths (rs : Rules) : Type 0 where
  pub dlengths : length rs.dlens ≡ rule_count rs
  pub svalues : length rs.svals ≡ rule_count rs
  pub slengths : length rs.slens ≡ rule_count rs
  pub acts : length rs.actions ≡ rule_count rs

-- 4: a destination or a source that is no prefix, or a bad action: "actions follow the hop rules of [4]", and of [7], "an entry or rule"
unfoldable pub rule_bad : (W links : ℕ) → Rules → ℕ → Bool
rule_bad W links rs i =
    prefix_bad W (at rs.dvals i) (at rs.dlens i) || (prefix_bad W (at rs.svals i) (at rs.slens i) || hop_refused links (at rs.actions i))

-- rule i stands below rule j: by destination value and length, then by source value and length
unfoldable pub rule_below : Rules → ℕ → ℕ → Bool
rule_below rs i j =
    below (at rs.dvals i) (at rs.dlens i) (at rs.dvals j) (at rs.dlens j)
    || (eqb (at rs.dvals i) (at rs.dvals j) && (eqb (at rs.dlens i) (at rs.dlens j)
    && below (at rs.svals i) (at rs.slens i) (at rs.svals j) (at rs.slens j)))

-- the same as a statement
abbrev pub RuleBelow : Rules → ℕ → ℕ → Type 0
RuleBelow rs i j =
    Below (at rs.dvals i) (at rs.dlens i) (at rs.dvals j) (at rs.dlens j)
    ⊎ ((at rs.dvals i ≡ at rs.dvals j) × (at rs.dlens i ≡ at rs.dlens j)
    × Below (at rs.svals i) (at rs.slens i) (at rs.svals j) (at rs.slens j))

-- 5: not above the rule before
unfoldable pub rule_order_bad : Rules → ℕ → Bool
rule_order_bad rs i = ltb 0 i && not (rule_below rs (i - 1) i)

-- 4 and 5 at rule i, 4 first, and at the m rules from i on
abbrev pub rule_tests_at : (W links : ℕ) → Rules → ℕ → List Test
rule_tests_at W links rs i = tests_at (rule_bad W links rs) (rule_order_bad rs) i

abbrev pub each_rule_tests : (W links : ℕ) → Rules → ℕ → ℕ → List Test
each_rule_tests W links rs i m = each_tests (rule_bad W links rs) (rule_order_bad rs) i m

-- 3, then 4 and 5 rule by rule
unfoldable pub rule_list_tests : (W links : ℕ) → Rules → List Test
rule_list_tests W links rs = test Shape (rules_shape_bad rs) ∷ each_rule_tests W links rs 0 (rule_count rs)

-- the check of rules tests 1, 3, 4, 5
unfoldable pub rule_tests : (W links : ℕ) → Rules → List Test
rule_tests W links rs = width_test W ∷ rule_list_tests W links rs

unfoldable pub check_rules_of : (W links : ℕ) → Rules → Outcome
check_rules_of W links rs = outcome (rule_tests W links rs)

-- ---- what accepted rules are

pub record Rule (W : ℕ) (rs : Rules) (i : ℕ) : Type 0 where
  pub dest : IsPrefix W (at rs.dvals i) (at rs.dlens i)
  pub source : IsPrefix W (at rs.svals i) (at rs.slens i)
  pub some_action : 0 < at rs.actions i
  pub above : 0 < i → RuleBelow rs (i - 1) i

pub record GoodRules (W : ℕ) (rs : Rules) : Type 0 where
  pub some_width : 0 < W
  pub width : W ≤ width_limit
  pub lengths : SameLengths rs
  pub few : rule_count rs ≤ rule_limit
  pub rule : (i : ℕ) → i < rule_count rs → Rule W rs i
