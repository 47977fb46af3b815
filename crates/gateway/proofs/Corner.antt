-- 02's example ([4]) for every accepted build of its table, in elements of any kind and k or as a tree bitmap: 1010 is discard by 4 bits,
-- 1011 gives hop 1 by 2 bits, and 0111 has no route.
use mathlib.Core.Path.{◌≡◌, ap₂, ◌∙◌}
use mathlib.Core.List.{List}
use Prim.Native.Nat.{ℕ, ◌^◌, ◌<◌}
use native.Mathlib.Omega.{arith}
use Rattle.table.specs.Prefix.{start, starts_with}
use Rattle.table.specs.Table.{at}
use Rattle.table.specs.Longest.{longer, best, of_winner, matches, winner, longest, matched, LongestEntry}
use Rattle.table.specs.Corner.{corner_values, corner_lengths, corner_hops}
use Rattle.table.specs.Refusals.{Outcome}
use Rattle.std.specs.Prelude.{Ok}
use Rattle.table.proofs.Table.{accepted_table}
use Rattle.table.proofs.Longest.{longest_is}
use Rattle.table.proofs.Unique.{longest_unique}
use Rattle.table.proofs.Corner.{corner_accepted}
use Rattle.strides.specs.Cheapest.{Kind}
use Rattle.walk.specs.declared.record.Record.{Record}
use Rattle.walk.specs.Cases.{Answer}
use Rattle.walk.specs.Limits.{WIDTH}
use Rattle.walk.specs.Rows.{Lists}
use Rattle.walk.specs.Answers.{number_of, hop_of, length_of, reads_of, Case, answer}
use Rattle.walk.specs.Meaning.{Looked}
use Rattle.walk.proofs.Answers.{accepted_is}
use Rattle.tries.specs.Build.{Builds}
use Rattle.tries.proofs.Demands.{build_longest}
use Rattle.visits.specs.declared.record.Bitmap.{Bitmap}
use Rattle.visits.specs.Rows.{RowLists}
use Rattle.visits.specs.Meaning.{LookedBitmap}
use Rattle.supernodes.specs.Build.{BuildsBitmap}
use Rattle.supernodes.proofs.Demands.{bitmap_longest}
use Rattle.gateway.specs.Corner.{CornerAnswers}

-- from the longest match alone
corner_is : (a : ℕ) (r : Answer) → Case r → (number_of r ≡ 0) × LongestEntry 4 corner_values corner_lengths corner_hops a (hop_of r) (length_of r)
    → r ≡ answer (longest 4 (at corner_values) (at corner_lengths) (at corner_hops) 2 a) (matched 4 (at corner_values) (at corner_lengths) 2 a) (reads_of r)
corner_is a r c l =
    let t = accepted_table 4 1 corner_values corner_lengths corner_hops corner_accepted.0 in
    let one = longest_unique 4 corner_values corner_lengths corner_hops t a l.1 (longest_is 4 (at corner_values) (at corner_lengths) (at corner_hops) 2 a) in
    accepted_is r l.0 c ∙ ap₂ (λ (h l : ℕ). answer h l (reads_of r)) one.0 one.1

corner_answers : (Allows : ℕ → Answer → Type 0) → ((a : ℕ) → a < 2 ^ 4 → (r : Answer) → Allows a r
    → Case r × ((number_of r ≡ 0) × LongestEntry 4 corner_values corner_lengths corner_hops a (hop_of r) (length_of r))) → CornerAnswers Allows
unfolding answer longest matched winner matches best longer of_winner starts_with start
corner_answers Allows f = record {
  corner = λ {r} l. let p = f 0b1010 (omega arith) r l in corner_is 0b1010 r p.0 p.1;
  neighbour = λ {r} l. let p = f 0b1011 (omega arith) r l in corner_is 0b1011 r p.0 p.1;
  outside = λ {r} l. let p = f 0b0111 (omega arith) r l in corner_is 0b0111 r p.0 p.1;
}

pub corner_elements : {kind : Kind} {k links : ℕ} {scratch : List ℕ} {rows : Lists} {out : Outcome} {rec : Record} {s : List ℕ} {rows' : Lists}
    → Builds kind 4 k links corner_values corner_lengths corner_hops scratch rows out rec s rows' → out ≡ Ok tt → CornerAnswers (λ a r. Looked WIDTH rec rows' a r)
corner_elements b e = corner_answers _ (λ a h r l. (l.case, build_longest b e a h l))

pub corner_bitmap : {links : ℕ} {scratch : List ℕ} {rows : RowLists} {hops : List ℕ} {out : Outcome} {rec : Bitmap} {s : List ℕ} {rows' : RowLists} {hops' : List ℕ}
    → BuildsBitmap 4 links corner_values corner_lengths corner_hops scratch rows hops out rec s rows' hops' → out ≡ Ok tt
    → CornerAnswers (λ a r. LookedBitmap WIDTH rec rows' hops' a r)
corner_bitmap b e = corner_answers _ (λ a h r l. (l.case, bitmap_longest b e a h l))
