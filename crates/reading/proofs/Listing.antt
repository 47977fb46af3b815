-- Laws of the lists that the entries' and the queries' lines fill: at the start, and one turn of the loop, where entry i, or query i, of the
-- text s was read at q, or was bad.
use Rattle.std.proofs.Common.{◌≡◌, refl, sym, ap, ◌∙◌, List, ℕ, suc, length, ◌+◌, ◌<◌, Bor, Result, Ok, Err}
use Rattle.std.specs.Result.{IsErrAnd}
use native.Mathlib.Omega.{arith}
use native.Mathlib.Numerals.{add-one}
use lib.ListN.{set}
use Rattle.table.proofs.Lists.{filled_to_none, filled_to_more}
use Rattle.reading.specs.declared.lines.BadLine.{BadLine}
use Rattle.reading.specs.declared.lines.Digits.{Digits}
use Rattle.reading.specs.Limits.{number_digits, SHORT}
use Rattle.reading.specs.Keys.{bits_key, hop_key, address_key}
use Rattle.reading.specs.Lines.{Spot, number_line, bits_line}
use Rattle.reading.specs.Taking.{digits_of, Took}
use Rattle.reading.specs.Entries.{entry_from, address_from, after_entries, after_queries, entry_bits, entry_length, entry_hop, query_address, query_places}
use Rattle.reading.specs.Entries.{HoldsEntries, HoldsQueries, EntriesTook, QueriesTook}
use Rattle.reading.proofs.Taking.{took_at}
use Rattle.reading.proofs.Stopping.{stops_then, number_stops, entries_stop, queries_stop, entries_bad, queries_bad}

pub entries_none : (s : List ℕ) (p : Spot) (vs ls hs : List ℕ) → HoldsEntries s p 0 vs ls hs vs ls hs p
unfolding after_entries
entries_none s p vs ls hs = record { spot = refl; bits = filled_to_none _ vs; lengths = filled_to_none _ ls; hops = filled_to_none _ hs }

pub queries_none : (s : List ℕ) (p : Spot) (xs ds : List ℕ) → HoldsQueries s p 0 xs ds xs ds p
unfolding after_queries
queries_none s p xs ds = record { spot = refl; addresses = filled_to_none _ xs; places = filled_to_none _ ds }

module _ {s t : Bor (List ℕ)} {p q : Spot} {i : ℕ} (same : t ≡ s) where
  module _ {vs₀ ls₀ hs₀ vs ls hs : List ℕ} (held : HoldsEntries s.now p i vs₀ ls₀ hs₀ vs ls hs q) where
    -- the entry's bits
    first : {r : Result Digits BadLine} {after : Spot} → Took (bits_line 0 bits_key t.now q) digits_of r after
        → Took (bits_line 0 bits_key s.now (after_entries s.now p i)) digits_of r after
    first = took_at (bits_line 0 bits_key) same held.spot

    pub entry_bits_bad : {n : ℕ} {b : BadLine} {after last : Spot} (r : Result (Unit {0}) BadLine) → i < n
        → Took (bits_line 0 bits_key t.now q) digits_of (Err b) after → IsErrAnd r (λ e. e ≡ b) → EntriesTook s.now p n vs₀ ls₀ hs₀ vs ls hs r last
    unfolding after_entries entry_from
    entry_bits_bad {n} r h b e = entries_bad (first b).said r (stops_then (number_stops _ _ _ _ _) (entries_stop s.now p (suc i) n (omega arith))) e

    -- and its hop, read after them
    module _ {t' : Bor (List ℕ)} {d : Digits} {next : Spot} (same' : t' ≡ s) (bits : Took (bits_line 0 bits_key t.now q) digits_of (Ok d) next) where
      second : {r : Result ℕ BadLine} {after : Spot} → Took (number_line number_digits SHORT hop_key t'.now next) (λ l. l.value) r after
          → Took (number_line number_digits SHORT hop_key s.now (bits_line 0 bits_key s.now (after_entries s.now p i)).spot) (λ l. l.value) r after
      second = took_at (number_line number_digits SHORT hop_key) same' (first bits).said.2

      pub entry_hop_bad : {n : ℕ} {b : BadLine} {after last : Spot} (r : Result (Unit {0}) BadLine) → i < n
          → Took (number_line number_digits SHORT hop_key t'.now next) (λ l. l.value) (Err b) after → IsErrAnd r (λ e. e ≡ b)
          → EntriesTook s.now p n vs₀ ls₀ hs₀ vs ls hs r last
      unfolding after_entries entry_from
      entry_hop_bad {n} r h b e = entries_bad (second b).said r (entries_stop s.now p (suc i) n (omega arith)) e

      pub entry_next : {hop : ℕ} {after : Spot} → i < length vs → i < length ls → i < length hs
          → Took (number_line number_digits SHORT hop_key t'.now next) (λ l. l.value) (Ok hop) after
          → HoldsEntries s.now p (i + 1) vs₀ ls₀ hs₀ (set vs i d.value) (set ls i d.count) (set hs i hop) after
      unfolding entry_bits entry_length entry_hop after_entries entry_from
      entry_next hv hl hh hop =
          let b = (first bits).said.1 in
          let h = (second hop).said in
          record {
            spot = h.2 ∙ ap (after_entries s.now p) (sym (add-one i));
            bits = filled_to_more (entry_bits s.now p) vs₀ vs i hv (ap (λ (x : Digits). x.value) b) held.bits;
            lengths = filled_to_more (entry_length s.now p) ls₀ ls i hl (ap (λ (x : Digits). x.count) b) held.lengths;
            hops = filled_to_more (entry_hop s.now p) hs₀ hs i hh h.1 held.hops;
          }

  module _ {xs₀ ds₀ xs ds : List ℕ} (held : HoldsQueries s.now p i xs₀ ds₀ xs ds q) where
    address : {r : Result Digits BadLine} {after : Spot} → Took (bits_line 1 address_key t.now q) digits_of r after
        → Took (bits_line 1 address_key s.now (after_queries s.now p i)) digits_of r after
    address = took_at (bits_line 1 address_key) same held.spot

    pub query_bad : {n : ℕ} {b : BadLine} {after last : Spot} (r : Result (Unit {0}) BadLine) → i < n
        → Took (bits_line 1 address_key t.now q) digits_of (Err b) after → IsErrAnd r (λ e. e ≡ b) → QueriesTook s.now p n xs₀ ds₀ xs ds r last
    unfolding after_queries address_from
    query_bad {n} r h b e = queries_bad (address b).said r (queries_stop s.now p (suc i) n (omega arith)) e

    pub query_next : {d : Digits} {after : Spot} → i < length xs → i < length ds → Took (bits_line 1 address_key t.now q) digits_of (Ok d) after
        → HoldsQueries s.now p (i + 1) xs₀ ds₀ (set xs i d.value) (set ds i d.count) after
    unfolding query_address query_places address_from after_queries
    query_next hx hd line =
        let a = (address line).said in
        record {
          spot = a.2 ∙ ap (after_queries s.now p) (sym (add-one i));
          addresses = filled_to_more (query_address s.now p) xs₀ xs i hx (ap (λ (x : Digits). x.value) a.1) held.addresses;
          places = filled_to_more (query_places s.now p) ds₀ ds i hd (ap (λ (x : Digits). x.count) a.1) held.places;
        }
