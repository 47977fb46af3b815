-- The five rules: they are accepted; their order, runs and tables; which of them match, and which wins: by destination first, then by source.
use mathlib.Core.Path.{◌≡◌, refl}
use mathlib.Core.Bool.{Bool, true, false, false≢true}
use mathlib.Core.List.{List, [], ◌∷◌, map}
use mathlib.Core.Logic.{inl, inr}
use Prim.Native.Nat.{ℕ, zero, suc, ◌<◌}
use native.Mathlib.Omega.{arith}
use lib.ListN.{replicate, length-replicate}
use lib.Dec.{ltb}
use borrow.Author.Tests.{eq-eqb}
use Rattle.table.specs.Limits.{outside}
use Rattle.table.specs.Prefix.{start, starts_with, prefix_bad}
use Rattle.table.specs.Entry.{unlinked, hop_refused, below}
use Rattle.table.specs.Refusals.{outcome}
use Rattle.table.specs.Table.{at, tests_at, each_tests}
use Rattle.table.specs.Lists.{listed}
use Rattle.std.specs.Prelude.{Ok, Err}
use Rattle.table.specs.declared.refusal.Refusal.TheVariants.{BadEntry}
use Rattle.fields.specs.Limits.{rule_limit}
use Rattle.fields.specs.Rules.{Rules, rules, rules_shape_bad, rule_bad, rule_below, rule_order_bad, rule_list_tests, rule_tests, check_rules_of}
use Rattle.fields.specs.Winning.{matches_rule, TopRule, NoRuleMatches}
use Rattle.fields.specs.Runs.{begins_run, trie_table, sum_first, starts_shorter, Falls}
use Rattle.fields.specs.Example.{example_rules, example_from, example_tables}
use Rattle.fields.proofs.Runs.{run_count, run_from}

abbrev five : List ℕ
five = 0 ∷ 1 ∷ 2 ∷ 3 ∷ 4 ∷ []

-- by a gateway with the four links of their actions; with three, the last rule is refused
pub example_accepted : (check_rules_of 3 4 example_rules ≡ Ok tt) × (check_rules_of 3 3 example_rules ≡ Err (BadEntry 4))
unfolding outside prefix_bad unlinked hop_refused below outcome tests_at each_tests rules_shape_bad rule_bad rule_below rule_order_bad rule_list_tests rule_tests check_rules_of
example_accepted = (refl, refl)

-- rule 3 stands below rule 4 by its destination, though its source stands above; rule 0 below rule 1 by its source
pub example_order : (map (rule_below example_rules 3) five ≡ false ∷ false ∷ false ∷ false ∷ true ∷ []) × (map (rule_below example_rules 0) five ≡ false ∷ true ∷ true ∷ true ∷ true ∷ [])
unfolding below rule_below
example_order = (refl, refl)

pub example_runs : (map (begins_run (at example_rules.dvals) (at example_rules.dlens)) five ≡ true ∷ false ∷ true ∷ false ∷ true ∷ [])
    × (run_count (at example_rules.dvals) (at example_rules.dlens) 5 ≡ 3)
    × (map (run_from (at example_rules.dvals) (at example_rules.dlens) 5) (0 ∷ 1 ∷ 2 ∷ 3 ∷ []) ≡ example_from)
unfolding begins_run run_count run_from
example_runs = (refl, refl, refl)

pub example_tables_lem : map (trie_table example_rules 3 (at example_from)) (0 ∷ 1 ∷ 2 ∷ 3 ∷ []) ≡ example_tables
unfolding trie_table listed
example_tables_lem = refl

-- destination 1 is a start of 10 and of 11 and shorter; neither is of the other, and none is of itself
pub example_starts :
    let starts : ℕ → List Bool = λ g. map (starts_shorter 3 (at (0b100 ∷ 0b100 ∷ 0b110 ∷ [])) (at (1 ∷ 2 ∷ 2 ∷ [])) g) (0 ∷ 1 ∷ 2 ∷ []) in
    (starts 0 ≡ false ∷ false ∷ false ∷ []) × (starts 1 ≡ true ∷ false ∷ false ∷ []) × (starts 2 ≡ true ∷ false ∷ false ∷ [])
unfolding starts_shorter starts_with start
example_starts = (refl, refl, refl)

-- of two tries of lengths 1 and 2 the longer one is visited first
pub example_falls : Falls (at (1 ∷ 2 ∷ [])) 4 (1 ∷ 0 ∷ []) × (Falls (at (1 ∷ 2 ∷ [])) 4 (0 ∷ 1 ∷ []) → ⊥)
example_falls = ((omega arith, (omega arith, tt)), λ f. omega (arith, f.1.0))

pub example_sum : sum_first (at (5 ∷ 7 ∷ 9 ∷ [])) 2 ≡ 12
unfolding sum_first
example_sum = refl

-- ---- who wins

-- of 101 and 111 rules 0, 2 and 3 match; of 111 and 011 rules 0, 1 and 4
pub example_marks : (map (matches_rule 3 example_rules 0b101 0b111) five ≡ true ∷ false ∷ true ∷ true ∷ false ∷ [])
    × (map (matches_rule 3 example_rules 0b111 0b011) five ≡ true ∷ true ∷ false ∷ false ∷ true ∷ [])
unfolding matches_rule starts_with start
example_marks = (refl, refl)

below_five : (P : ℕ → Type 0) → P 0 → P 1 → P 2 → P 3 → P 4 → (k : ℕ) → k < 5 → P k
below_five P a b c d e zero h = a
below_five P a b c d e (suc zero) h = b
below_five P a b c d e (suc (suc zero)) h = c
below_five P a b c d e (suc (suc (suc zero))) h = d
below_five P a b c d e (suc (suc (suc (suc zero)))) h = e
below_five P a b c d e (suc (suc (suc (suc (suc k))))) h = absurd (omega arith)

-- rule 3 wins: rule 0 has a shorter destination, rule 2 the same with a shorter source
pub example_source : TopRule 3 example_rules 0b101 0b111 3
unfolding matches_rule starts_with start
example_source = record {
  inside = omega arith;
  marked = refl;
  most = below_five _ (λ t. inl (omega arith)) (λ t. absurd (false≢true t)) (λ t. inr (refl, omega arith)) (λ t. inr (refl, omega arith)) (λ t. absurd (false≢true t));
}

-- rule 4 wins by its destination, though the source of rule 1 is longer
pub example_dest : TopRule 3 example_rules 0b111 0b011 4
unfolding matches_rule starts_with start
example_dest = record {
  inside = omega arith;
  marked = refl;
  most = below_five _ (λ t. inl (omega arith)) (λ t. inl (omega arith)) (λ t. absurd (false≢true t)) (λ t. absurd (false≢true t)) (λ t. inr (refl, omega arith));
}

-- no destination begins 000
pub example_none : NoRuleMatches 3 example_rules 0b000 0b000
unfolding matches_rule starts_with start
example_none = below_five _ refl refl refl refl refl

-- ---- both ends of refusal 3

-- n rules of zeros
abbrev blank : ℕ → Rules
blank n = rules (replicate n 0) (replicate n 0) (replicate n 0) (replicate n 0) (replicate n 0)

blank_shape : (n : ℕ) → rules_shape_bad (blank n) ≡ ltb rule_limit n
unfolding rules_shape_bad
blank_shape n = simp (length-replicate, eq-eqb n n refl)

-- five lists of one length pass up to 1,024
pub rule_edges : (rules_shape_bad (blank 0) ≡ false) × (rules_shape_bad (blank 1024) ≡ false) × (rules_shape_bad (blank 1025) ≡ true)
rule_edges = (blank_shape 0, blank_shape 1024, blank_shape 1025)

-- one that is shorter or longer does not, whichever it is
pub uneven_edges : (rules_shape_bad (rules (0 ∷ []) [] (0 ∷ []) (0 ∷ []) (0 ∷ [])) ≡ true) × (rules_shape_bad (rules (0 ∷ []) (0 ∷ []) [] (0 ∷ []) (0 ∷ [])) ≡ true)
    × (rules_shape_bad (rules (0 ∷ []) (0 ∷ []) (0 ∷ []) [] (0 ∷ [])) ≡ true) × (rules_shape_bad (rules (0 ∷ []) (0 ∷ []) (0 ∷ []) (0 ∷ []) []) ≡ true)
    × (rules_shape_bad (rules [] [] [] [] (0 ∷ [])) ≡ true)
unfolding rules_shape_bad
uneven_edges = (refl, refl, refl, refl, refl)
