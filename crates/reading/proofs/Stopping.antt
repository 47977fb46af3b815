-- Once a line is bad, so are all after it, and the first bad one's number stays.
use Rattle.std.proofs.Common.{◌≡◌, ℕ, List, Bool, true, false, refl, sym, ◌∙◌, ap, if◌then◌else◌, zero, suc, length, ◌+◌, ◌≤◌, Result, Ok, Err}
use Rattle.std.specs.Result.{IsErrAnd}
use Prim.Dec.{yes, no}
use native.Mathlib.Omega.{arith}
use native.Mathlib.Decide.{dec_le}
use Rattle.reading.specs.declared.lines.BadLine.{BadLine}
use Rattle.reading.specs.declared.lines.Digits.{Digits}
use Rattle.reading.specs.declared.parsing.Head.{Head}
use Rattle.reading.specs.declared.parsing.Contents.{Contents}
use Rattle.reading.specs.Keys.{fixed_key, variable_key}
use Rattle.reading.specs.Lines.{Spot, Item, key_at, bad_line, close, number_line, bits_line, kind_line}
use Rattle.reading.specs.Taking.{bad_at}
use Rattle.reading.specs.Entries.{after_entries, after_queries, entry_from, address_from, EntriesTook, QueriesTook}
use Rattle.reading.specs.Text.{width_item, kind_item, levels_item, links_item, entries_item, queries_item, last_spot, text_of, contents_of, HeadTook}

pub record Stops (p q : Spot) : Type 0 where
  pub stays : p.good ≡ false → (q.good ≡ false) × (q.line ≡ p.line)

pub stops_then : {p q r : Spot} → Stops p q → Stops q r → Stops p r
stops_then f g = record { stays = λ e. let a = f.stays e in let b = g.stays a.0 in (b.0, b.1 ∙ a.1) }

pub stops_none : (p : Spot) → Stops p p
stops_none p = record { stays = λ e. (e, refl) }

bad_stops : (p : Spot) → Stops p (bad_line p).spot
unfolding bad_line
bad_stops p = record { stays = λ e. (refl, refl) }

close_stops : (s : List ℕ) (p : Spot) (end : ℕ) (d : Digits) → Stops p (close s p end d).spot
unfolding close bad_line
close_stops s p end d = record { stays = λ e. rw e (refl, refl) }

if_stops : (p : Spot) (t : Bool) (l m : Item) → Stops p l.spot → Stops p m.spot → Stops p (if t then l else m).spot
if_stops p true l m f g = f
if_stops p false l m f g = g

pub number_stops : (k most : ℕ) (key s : List ℕ) (p : Spot) → Stops p (number_line k most key s p).spot
unfolding number_line
number_stops k most key s p = if_stops p _ _ _ (close_stops s p _ _) (bad_stops p)

pub bits_stops : (least : ℕ) (key s : List ℕ) (p : Spot) → Stops p (bits_line least key s p).spot
unfolding bits_line
bits_stops least key s p = if_stops p _ _ _ (close_stops s p _ _) (bad_stops p)

pub kind_stops : (s : List ℕ) (p : Spot) → Stops p (kind_line s p).spot
unfolding kind_line
kind_stops s p =
    let line : ℕ → Item = λ n. close s p (p.at + length fixed_key) (record { value = n; count = 0 }) in
    if_stops p (key_at fixed_key s p.at) (line 0) (if key_at variable_key s p.at then line 1 else bad_line p) (close_stops s p _ _)
    (if_stops p (key_at variable_key s p.at) (line 1) (bad_line p) (close_stops s p _ _) (bad_stops p))

-- ---- the entries and the queries: after i of them, and after all n

-- what stops at each next one stops at all later ones
later : (f : ℕ → Spot) → ((i : ℕ) → Stops (f i) (f (suc i))) → (i n : ℕ) → i ≤ n → Stops (f i) (f n)
later f next i zero h = let e : i ≡ 0 = omega arith in rw e (stops_none _)
later f next i (suc n) h =
    elim (dec_le i n) [
      | yes w ↦ stops_then (later f next i n w) (next n)
      | no w ↦ let e : i ≡ suc n = omega arith in rw e (stops_none _)
    ]

module _ (s : List ℕ) (p : Spot) where
  entry_stops : (i : ℕ) → Stops (after_entries s p i) (after_entries s p (suc i))
  unfolding after_entries entry_from
  entry_stops i = stops_then (bits_stops _ _ _ _) (number_stops _ _ _ _ _)

  query_stops : (i : ℕ) → Stops (after_queries s p i) (after_queries s p (suc i))
  unfolding after_queries address_from
  query_stops i = bits_stops _ _ _ _

  pub entries_stop : (i n : ℕ) → i ≤ n → Stops (after_entries s p i) (after_entries s p n)
  entries_stop = later (after_entries s p) entry_stops

  pub queries_stop : (i n : ℕ) → i ≤ n → Stops (after_queries s p i) (after_queries s p n)
  queries_stop = later (after_queries s p) query_stops

-- ---- the whole text

module _ (s : List ℕ) where
  -- from each of the first five lines to the last of them
  pub from_links : Stops (links_item s).spot (entries_item s).spot
  unfolding entries_item
  from_links = number_stops _ _ _ _ _

  pub from_levels : Stops (levels_item s).spot (entries_item s).spot
  unfolding links_item
  from_levels = stops_then (number_stops _ _ _ _ _) from_links

  pub from_kind : Stops (kind_item s).spot (entries_item s).spot
  unfolding levels_item
  from_kind = stops_then (number_stops _ _ _ _ _) from_levels

  pub from_width : Stops (width_item s).spot (entries_item s).spot
  unfolding kind_item
  from_width = stops_then (kind_stops _ _) from_kind

  -- and on to the text's last line
  pub from_last : Stops (after_queries s (queries_item s).spot (queries_item s).value) (last_spot s)
  unfolding last_spot
  from_last = stops_none _

  pub from_queries : Stops (queries_item s).spot (last_spot s)
  unfolding last_spot after_queries
  from_queries = queries_stop s (queries_item s).spot 0 (queries_item s).value (omega arith)

  pub from_entries : Stops (after_entries s (entries_item s).spot (entries_item s).value) (last_spot s)
  unfolding queries_item
  from_entries = stops_then (number_stops _ _ _ _ _) from_queries

  pub from_head : Stops (entries_item s).spot (last_spot s)
  unfolding after_entries
  from_head = stops_then (entries_stop s (entries_item s).spot 0 (entries_item s).value (omega arith)) from_entries

-- ---- what a call answers where a line z was bad

module _ {z : Spot} {b : BadLine} (stopped : (z.good ≡ false) × (b ≡ bad_at z.line)) where
  -- so was the last of those that it was to read
  carried : {q : Spot} {v : BadLine} → Stops z q → v ≡ b → (q.good ≡ false) × (v ≡ bad_at q.line)
  carried f e = let a = f.stays stopped.0 in (a.0, e ∙ stopped.1 ∙ ap bad_at (sym a.1))

  pub head_bad : {s : List ℕ} {after : Spot} (r : Result Head BadLine) → Stops z (entries_item s).spot → IsErrAnd r (λ e. e ≡ b) → HeadTook s r after
  head_bad (Ok v) f e = absurd e
  head_bad (Err v) f e = record { said = carried f e }

  pub entries_bad : {s : List ℕ} {p : Spot} {n : ℕ} {vs₀ ls₀ hs₀ vs ls hs : List ℕ} {after : Spot} (r : Result (Unit {0}) BadLine)
      → Stops z (after_entries s p n) → IsErrAnd r (λ e. e ≡ b) → EntriesTook s p n vs₀ ls₀ hs₀ vs ls hs r after
  entries_bad (Ok v) f e = absurd e
  entries_bad (Err v) f e = record { said = carried f e }

  pub queries_bad : {s : List ℕ} {p : Spot} {n : ℕ} {xs₀ ds₀ xs ds : List ℕ} {after : Spot} (r : Result (Unit {0}) BadLine)
      → Stops z (after_queries s p n) → IsErrAnd r (λ e. e ≡ b) → QueriesTook s p n xs₀ ds₀ xs ds r after
  queries_bad (Ok v) f e = absurd e
  queries_bad (Err v) f e = record { said = carried f e }

  pub text_bad : (s : List ℕ) (r : Result Contents BadLine) → Stops z (last_spot s) → IsErrAnd r (λ e. e ≡ b) → r ≡ contents_of (text_of s)
  unfolding contents_of text_of
  text_bad s (Ok v) f e = absurd e
  text_bad s (Err v) f e = let w = carried f e in rw (w.0, w.1) refl
