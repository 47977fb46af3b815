-- What a verdict means, in 02's sentences ([6]): which verdicts the promise allows. There is no search in it: paths and tries are any that
-- the rule allows, and action and reads are read off them.
-- "After the destination walk, source tries are visited from the longest matching destination down until one matches." "9 is the E of all
-- tries above the shortest list, 01's rule in each trie visited, its rows running past the E of all tries, a followed link between tries
-- past its list, or a 34th source trie called for. The answer is the action and the blocks read in all tries."
use Rattle.std.specs.Prelude.{ℕ, zero, suc, ◌+◌, ◌/◌, ◌^◌, ◌≤◌, ◌<◌, ◌≡◌, Bool, true, false, ◌⊎◌, length}
use mathlib.Core.List.{List, [], ◌∷◌, ◌++◌, Memᴰ}
use Rattle.walk.specs.Limits.{LEVELS, Outside}
use Rattle.walk.specs.Refusals.{RefuseBy, NoMore}
use Rattle.walk.specs.Rows.{Lists, shortest, row_at}
use Rattle.walk.specs.Answers.{floor_best, latest}
use Rattle.walk.specs.declared.record.Record.{Record}
use Rattle.walk.specs.Meaning.{Damage, OnPath}
use Rattle.verdicts.specs.Limits.{trie_row_cells, VISITS}
use Rattle.verdicts.specs.Tries.{trie_row, source_record, from_place, at_place}
use Rattle.verdicts.specs.Verdicts.{verdict_number, action_of, verdict_reads, VerdictCase}
use Rattle.verdicts.specs.declared.record.RuleRecord.{RuleRecord}
use Rattle.verdicts.specs.Cases.{Verdict}

module _ (rec : RuleRecord) (ls : Lists) (list : List ℕ) (source : ℕ) where
  -- by these source trie g is looked up
  abbrev record_of : ℕ → Record
  record_of g = source_record rec.dest.width rec.dest.levels (trie_row list g)

  abbrev lists_of : ℕ → Lists
  lists_of g = from_place (trie_row list g).place ls

  -- source trie g is called for and is damaged: past the list; its rows run past the E of all tries; or 01's rule in it
  pub data BadTrie (g : ℕ) : Type 0 where
    past_list : length list / trie_row_cells ≤ g → BadTrie g
    past_rows : rec.elements < (trie_row list g).place + (trie_row list g).elements → BadTrie g
    breaks_rule : Damage (record_of g) (lists_of g) source → BadTrie g

  -- trie g is sound, and these of its rows are on the source's path, counted from its place
  pub record SourcePath (g : ℕ) (rs : List ℕ) : Type 0 where
    pub sound : BadTrie g → ⊥
    pub path : OnPath (record_of g) (lists_of g) source rs

  -- the action that they say, 0 where none matches
  abbrev pub action_on : (g : ℕ) (rs : List ℕ) → ℕ
  action_on g rs = (latest (row_at (lists_of g)) (floor_best (trie_row list g).floor) rs).hop

  -- the source tries visited from number n on, f of which may be: which, the rows on the source's path in each, the action of the one
  -- that matches (0 where none does), and whether the visiting comes to its end (true) or to damage (false)
  pub data VisitsTries : (f n : ℕ) (tries rows : List ℕ) (action : ℕ) → Bool → Type 0 where
    no_more : {f : ℕ} → VisitsTries f zero [] [] 0 true
    too_many : {g : ℕ} → VisitsTries zero (suc g) [] [] 0 false
    broken_off : {f g : ℕ} → BadTrie g → VisitsTries (suc f) (suc g) [] [] 0 false
    matched_in : {f g : ℕ} {rs : List ℕ} → SourcePath g rs → 0 < action_on g rs
        → VisitsTries (suc f) (suc g) (g ∷ []) (at_place (trie_row list g).place rs) (action_on g rs) true
    goes_on : {f g : ℕ} {rs ts rows : List ℕ} {a : ℕ} {w : Bool} → SourcePath g rs → action_on g rs ≡ 0
        → VisitsTries f (trie_row list g).next ts rows a w
        → VisitsTries (suc f) (suc g) (g ∷ ts) (at_place (trie_row list g).place rs ++ rows) a w

module _ (rec : RuleRecord) (ls : Lists) (list : List ℕ) (dest source : ℕ) where
  -- the number of the first source trie, which the rows on the destination's path say
  abbrev pub called_first : List ℕ → ℕ
  called_first rs = (latest (row_at ls) (floor_best rec.dest.floor) rs).hop

  -- refusal 9. The destination trie is visited too, at place 0
  pub data RuleDamage : Type 0 where
    short_lists : shortest ls < rec.elements → RuleDamage
    past_all : rec.elements < rec.dest.elements → RuleDamage
    breaks_dest : Damage rec.dest ls dest → RuleDamage
    breaks_source : {rs ts rows : List ℕ} {a : ℕ} → OnPath rec.dest ls dest rs
        → VisitsTries rec ls list source VISITS (called_first rs) ts rows a false → RuleDamage

  -- the tries visited, and the rows on the paths in all of them, the destination's first
  pub record TriesWay (tries rows : List ℕ) (action : ℕ) : Type 0 where
    pub dest_rows : List ℕ
    pub source_rows : List ℕ
    pub dest_path : OnPath rec.dest ls dest dest_rows
    pub visits : VisitsTries rec ls list source VISITS (called_first dest_rows) tries source_rows action true
    pub all_rows : rows ≡ dest_rows ++ source_rows

  module _ (most : ℕ) where
    -- the number of the first test that fails, 0 where none does
    abbrev pub RuleTested : ℕ → Type 0
    RuleTested =
        RefuseBy 1 (Outside rec.dest.width most)
        (RefuseBy 2 (Outside rec.dest.levels LEVELS)
        (RefuseBy 8 ((2 ^ rec.dest.width ≤ dest) ⊎ (2 ^ rec.dest.width ≤ source)) (RefuseBy 9 RuleDamage NoMore)))

    -- the verdicts allowed. The number is that of the first test that fails, 0 where none does; where none does, the action is that of
    -- the trie that matches, the reads are the rows on the paths in all tries visited; and the case is that of number and action
    pub record Classified (v : Verdict) : Type 0 where
      pub tested : RuleTested (verdict_number v)
      pub told : verdict_number v ≡ 0 → (tries : List ℕ) × (rows : List ℕ) × TriesWay tries rows (action_of v) × (verdict_reads v ≡ length rows)
      pub case : VerdictCase v

-- ---- what a verdict may depend on (02: "those tries' rows in their list, floors and links included")

-- another list of tries has the rows of these tries, as this one has them
abbrev pub SameTries : (tries list list' : List ℕ) → Type 0
SameTries tries list list' = (g : ℕ) → Memᴰ g tries → (g < length list' / trie_row_cells) × (trie_row list g ≡ trie_row list' g)

-- other element lists agree with these at these rows
abbrev pub SameRows : (rows : List ℕ) → Lists → Lists → Type 0
SameRows rows ls ls' = (i : ℕ) → Memᴰ i rows → row_at ls i ≡ row_at ls' i
