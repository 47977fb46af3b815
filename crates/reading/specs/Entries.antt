-- The entries' lines, "bits and hop for each entry", and the queries', "an address line each" (01, "The tablet program").
-- Everything is said by index: where the reading stands after the first i of them, and what the next ones then give.
use Rattle.std.specs.Prelude.{◌≡◌, List, ℕ, zero, suc, false, Result, MatchResult}
use Rattle.reading.specs.declared.lines.BadLine.{BadLine}
use Rattle.table.specs.Lists.{FilledTo}
use Rattle.reading.specs.Limits.{number_digits, SHORT}
use Rattle.reading.specs.Keys.{bits_key, hop_key, address_key}
use Rattle.reading.specs.Lines.{Spot, Item, number_line, bits_line}
use Rattle.reading.specs.Taking.{bad_at}

-- an entry that was read: its bits as a number, how many they are, its hop; and where the reading stands after it
pub record EntryItem : Type 0 where
  pub bits : ℕ
  pub len : ℕ
  pub hop : ℕ
  pub spot : Spot

module _ (s : List ℕ) where
  -- an entry: its bits as a number, how many they are, its hop
  unfoldable pub entry_from : Spot → EntryItem
  entry_from p =
      let b = bits_line 0 bits_key s p in
      let h = number_line number_digits SHORT hop_key s b.spot in
      record { bits = b.value; len = b.count; hop = h.value; spot = h.spot }

  -- a query's line
  unfoldable pub address_from : Spot → Item
  address_from p = bits_line 1 address_key s p

  -- after the first i entries, and after the first i queries
  unfoldable pub after_entries : Spot → ℕ → Spot
  after_entries p zero = p
  after_entries p (suc i) = (entry_from (after_entries p i)).spot

  unfoldable pub after_queries : Spot → ℕ → Spot
  after_queries p zero = p
  after_queries p (suc i) = (address_from (after_queries p i)).spot

  module _ (p : Spot) (i : ℕ) where
    -- entry i
    unfoldable pub entry_bits : ℕ
    entry_bits = (entry_from (after_entries p i)).bits

    unfoldable pub entry_length : ℕ
    entry_length = (entry_from (after_entries p i)).len

    unfoldable pub entry_hop : ℕ
    entry_hop = (entry_from (after_entries p i)).hop

    -- query i: its address as a number, and how many digits it has
    unfoldable pub query_address : ℕ
    query_address = (address_from (after_queries p i)).value

    unfoldable pub query_places : ℕ
    query_places = (address_from (after_queries p i)).count

-- three lists begin with the n entries that stand from p on, and the reading stands at r after them
pub record HoldsEntries (s : List ℕ) (p : Spot) (n : ℕ) (vs₀ ls₀ hs₀ vs ls hs : List ℕ) (r : Spot) : Type 0 where
  pub spot : r ≡ after_entries s p n
  pub bits : FilledTo (entry_bits s p) vs₀ vs n
  pub lengths : FilledTo (entry_length s p) ls₀ ls n
  pub hops : FilledTo (entry_hop s p) hs₀ hs n

-- two lists begin with the n queries
pub record HoldsQueries (s : List ℕ) (p : Spot) (n : ℕ) (xs₀ ds₀ xs ds : List ℕ) (r : Spot) : Type 0 where
  pub spot : r ≡ after_queries s p n
  pub addresses : FilledTo (query_address s p) xs₀ xs n
  pub places : FilledTo (query_places s p) ds₀ ds n

-- ---- what the calls that read them answer: the lists hold them, or the first bad line of theirs

pub record EntriesTook (s : List ℕ) (p : Spot) (n : ℕ) (vs₀ ls₀ hs₀ vs ls hs : List ℕ) (r : Result (Unit {0}) BadLine) (after : Spot) : Type 0 where
  pub said : MatchResult r (λ _. HoldsEntries s p n vs₀ ls₀ hs₀ vs ls hs after)
      (λ b. ((after_entries s p n).good ≡ false) × (b ≡ bad_at (after_entries s p n).line))

pub record QueriesTook (s : List ℕ) (p : Spot) (n : ℕ) (xs₀ ds₀ xs ds : List ℕ) (r : Result (Unit {0}) BadLine) (after : Spot) : Type 0 where
  pub said : MatchResult r (λ _. HoldsQueries s p n xs₀ ds₀ xs ds after)
      (λ b. ((after_queries s p n).good ≡ false) × (b ≡ bad_at (after_queries s p n).line))
