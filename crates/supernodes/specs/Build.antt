-- The build of tree bitmap arrays (02 [1]; 01, "Refusals"): its tests; what it hands back, and what each lent list then holds.
use Rattle.std.specs.Prelude.{◌≡◌, List, [], ◌∷◌, ◌++◌, ℕ, ◌/◌, ◌≤◌, ltb, length, get_or, replicate, Result, Ok, Err}
use Rattle.table.specs.Refusals.{Outcome, Test, test, outcome, Gives}
use Rattle.table.specs.Table.{table_tests}
use Rattle.table.specs.declared.refusal.Refusal.{Refusal}
use Rattle.table.specs.declared.refusal.Refusal.TheVariants.{Scratch, Room}
use Rattle.walk.specs.Limits.{WIDTH}
use Rattle.pieces.specs.BinaryTrie.{BinaryTrie, binary_nodes, table_binary}
use Rattle.pieces.specs.Rows.{supernodes_of, bitmap_hops}
use Rattle.visits.specs.declared.record.Bitmap.{Bitmap}
use Rattle.visits.specs.Rows.{RowLists, row_room, supernode_at}
use Rattle.visits.specs.Laid.{LaidBitmap}
use Rattle.supernodes.specs.Limits.{node_row}

-- ---- the tests, in order: "Refusals 1, 3, 4, 5 .. carry over; 6 counts binary-trie nodes; 7 is for too few supernode rows, then for too
-- few hop rows, detail those needed"

-- 6: scratch of so many numbers has fewer whole rows than the trie has nodes; the detail is the rows needed
abbrev pub nodes_test : (t : BinaryTrie) (words : ℕ) → Test
nodes_test t words = test (Scratch (binary_nodes t)) (ltb (words / node_row) (binary_nodes t))

-- 7: fewer rows than supernodes; then fewer hop rows than hops
abbrev pub supernodes_test : (W : ℕ) (t : BinaryTrie) (room : ℕ) → Test
supernodes_test W t room = test (Room (length (supernodes_of W t))) (ltb room (length (supernodes_of W t)))

abbrev pub hops_test : (W : ℕ) (t : BinaryTrie) (room : ℕ) → Test
hops_test W t room = test (Room (length (bitmap_hops W t))) (ltb room (length (bitmap_hops W t)))

-- 1, 3, 4, 5, 6; both of 7; all, where scratch has so many words, the shortest row list so much room, and the hop list so much
unfoldable pub up_to_scratch : (W links : ℕ) (vs ls hs : List ℕ) (words : ℕ) → List Test
up_to_scratch W links vs ls hs words = table_tests W links vs ls hs ++ (nodes_test (table_binary W vs ls hs) words ∷ [])

unfoldable pub bitmap_room_tests : (W : ℕ) (t : BinaryTrie) (room hopRoom : ℕ) → List Test
bitmap_room_tests W t room hopRoom = supernodes_test W t room ∷ hops_test W t hopRoom ∷ []

unfoldable pub bitmap_tests : (W links : ℕ) (vs ls hs : List ℕ) (words room hopRoom : ℕ) → List Test
bitmap_tests W links vs ls hs words room hopRoom = up_to_scratch W links vs ls hs words ++ bitmap_room_tests W (table_binary W vs ls hs) room hopRoom

-- ---- the answer

-- a refused build's record: all zeros
pub record NoBitmap (rec : Bitmap) : Type 0 where
  pub width : rec.width ≡ 0
  pub supernodes : rec.supernodes ≡ 0
  pub hops : rec.hops ≡ 0

-- the record of an answer
abbrev pub record_of : Result Bitmap Refusal → Bitmap
record_of (Ok rec) = rec
record_of (Err refusal) = record { width = 0; supernodes = 0; hops = 0 }

-- what the lists then hold besides the rows and hops built: refused, what they held; accepted, later ones are kept
pub record KeepsBitmap (rows : RowLists) (hops : List ℕ) (out : Outcome) (rec : Bitmap) (rows' : RowLists) (hops' : List ℕ) : Type 0 where
  pub internal : length rows'.internal ≡ length rows.internal
  pub external : length rows'.external ≡ length rows.external
  pub first_child : length rows'.first_child ≡ length rows.first_child
  pub first_hop : length rows'.first_hop ≡ length rows.first_hop
  pub hop_rows : length hops' ≡ length hops
  pub later : out ≡ Ok tt → (i : ℕ) → rec.supernodes ≤ i → supernode_at rows' i ≡ supernode_at rows i
  pub later_hop : out ≡ Ok tt → (i : ℕ) → rec.hops ≤ i → get_or hops' i 0 ≡ get_or hops i 0
  pub refused : (out ≡ Ok tt → ⊥) → NoBitmap rec × (rows' ≡ rows) × (hops' ≡ hops)

-- the record and the lists: accepted, what the table's supernodes are
pub record BitmapWritten (W : ℕ) (vs ls hs : List ℕ) (rows : RowLists) (hops : List ℕ)
    (out : Outcome) (rec : Bitmap) (rows' : RowLists) (hops' : List ℕ) : Type 0 where
  pub laid : out ≡ Ok tt → LaidBitmap WIDTH W vs ls hs rec rows' hops'
  pub keeps : KeepsBitmap rows hops out rec rows' hops'

-- past test 6: both of 7, then the rows
pub record BitmapFilled (W : ℕ) (vs ls hs : List ℕ) (rows : RowLists) (hops : List ℕ)
    (out : Outcome) (rec : Bitmap) (rows' : RowLists) (hops' : List ℕ) : Type 0 where
  pub tests : out ≡ outcome (bitmap_room_tests W (table_binary W vs ls hs) (row_room rows) (length hops))
  pub written : BitmapWritten W vs ls hs rows hops out rec rows' hops'

-- the exact answer: all tests, then the rows; scratch is zeroed past test 6
pub record BitmapIs (W links : ℕ) (vs ls hs scratch : List ℕ) (rows : RowLists) (hops : List ℕ) (out : Outcome) (rec : Bitmap) (scratch' : List ℕ)
    (rows' : RowLists) (hops' : List ℕ) : Type 0 where
  pub tests : out ≡ outcome (bitmap_tests W links vs ls hs (length scratch) (row_room rows) (length hops))
  pub zeroed : outcome (up_to_scratch W links vs ls hs (length scratch)) ≡ Ok tt → scratch' ≡ replicate (length scratch) 0
  pub untouched : (outcome (up_to_scratch W links vs ls hs (length scratch)) ≡ Ok tt → ⊥) → scratch' ≡ scratch
  pub written : BitmapWritten W vs ls hs rows hops out rec rows' hops'

-- what it means: the first test that fails; accepted, the rows and hops of the table's supernodes; scratch unchanged by 1 to 6, else all zero
pub record BuildsBitmap (W links : ℕ) (vs ls hs scratch : List ℕ) (rows : RowLists) (hops : List ℕ) (out : Outcome) (rec : Bitmap) (scratch' : List ℕ)
    (rows' : RowLists) (hops' : List ℕ) : Type 0 where
  pub tested : Gives (bitmap_tests W links vs ls hs (length scratch) (row_room rows) (length hops)) out
  pub laid : out ≡ Ok tt → LaidBitmap WIDTH W vs ls hs rec rows' hops'
  pub zeroed : Gives (up_to_scratch W links vs ls hs (length scratch)) (Ok tt) → scratch' ≡ replicate (length scratch) 0
  pub untouched : (Gives (up_to_scratch W links vs ls hs (length scratch)) (Ok tt) → ⊥) → scratch' ≡ scratch
  pub keeps : KeepsBitmap rows hops out rec rows' hops'
