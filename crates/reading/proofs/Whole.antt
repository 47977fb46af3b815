-- Laws of the whole text: its single lines, and what the call that reads it hands back, in the code's own terms.
use mathlib.Core.Path.{◌≡◌, refl, sym, ap, subst}
use mathlib.Core.List.{List, []}
use mathlib.Core.Bool.{true}
use Prim.Native.Nat.{ℕ, ◌+◌, ◌*◌}
use native.Mathlib.Omega.{arith}
use lib.ListN.{length}
use borrow.Author.Tests.{eq-eqb, ne_eqb}
use Rattle.std.proofs.Common.{Bor, Result, Ok, Err}
use Rattle.std.specs.Result.{IsErrAnd}
use Rattle.choosers.specs.declared.chooser.Kind.{Kind}
use Rattle.reading.specs.declared.lines.BadLine.{BadLine}
use Rattle.reading.specs.declared.parsing.Head.{Head}
use Rattle.reading.specs.declared.parsing.Contents.{Contents}
use Rattle.reading.specs.Limits.{COUNT, number_digits, NUMBER, SHORT, LINES, width_bytes, kind_bytes, levels_bytes, links_bytes, count_bytes, entry_line_bytes, opening_bytes, LONGEST}
use Rattle.reading.specs.Keys.{width_key, levels_key, links_key, entries_key, queries_key}
use Rattle.reading.specs.Lines.{Spot, number_line, kind_named, kind_line}
use Rattle.reading.specs.Entries.{after_entries, entry_bits, query_address, HoldsEntries, HoldsQueries, EntriesTook, QueriesTook}
use Rattle.reading.specs.Text.{text_start, width_item, kind_item, levels_item, links_item, entries_item, queries_item, last_spot, sheet_of}
use Rattle.reading.specs.Text.{head_of, text_of, contents_of, HeadTook}
use Rattle.reading.specs.Taking.{bad_at, Took}
use Rattle.reading.specs.Contents.{sheet_contents}
use Rattle.reading.proofs.Taking.{took_at}
use Rattle.reading.proofs.Steps.{entries_step, queries_step, Line, Step, step_then, step_widen, UpTo, number_is, kind_is}
use Rattle.table.proofs.Lists.{listed_length}
use Rattle.table.specs.Lists.{padded}
use Rattle.table.proofs.Lists.{filled_to_blank}

-- ---- the single lines

module _ (s : List ℕ) where
  pub width_line : Line s text_start width_bytes (UpTo NUMBER) (width_item s)
  unfolding width_item
  width_line = number_is width_key s text_start number_digits NUMBER

  pub kind_line_lem : Line s (width_item s).spot kind_bytes (UpTo 1) (kind_item s)
  unfolding kind_item
  kind_line_lem = kind_is s (width_item s).spot

  pub levels_line : Line s (kind_item s).spot levels_bytes (UpTo NUMBER) (levels_item s)
  unfolding levels_item
  levels_line = number_is levels_key s (kind_item s).spot number_digits NUMBER

  pub links_line : Line s (levels_item s).spot links_bytes (UpTo SHORT) (links_item s)
  unfolding links_item
  links_line = number_is links_key s (levels_item s).spot number_digits SHORT

  pub entries_line : Line s (links_item s).spot count_bytes (UpTo COUNT) (entries_item s)
  unfolding entries_item
  entries_line = number_is entries_key s (links_item s).spot number_digits COUNT

  pub after_entries_lem : Step s (entries_item s).spot ((entries_item s).value * entry_line_bytes) ((entries_item s).value * 2) (after_entries s (entries_item s).spot (entries_item s).value)
  after_entries_lem = entries_step s (entries_item s).spot (entries_item s).value

  pub queries_line : Line s (after_entries s (entries_item s).spot (entries_item s).value) count_bytes (UpTo COUNT) (queries_item s)
  unfolding queries_item
  queries_line = number_is queries_key s (after_entries s (entries_item s).spot (entries_item s).value) number_digits COUNT

  -- the steps from the start: to after the first five lines, to `queries=`, and to the end
  pub to_entries : Step s text_start opening_bytes 5 (entries_item s).spot
  to_entries =
      step_then (step_then (step_then (step_then width_line.step kind_line_lem.step) levels_line.step) links_line.step) entries_line.step

  pub to_queries : Step s text_start (opening_bytes + count_bytes + COUNT * entry_line_bytes) (6 + COUNT * 2) (queries_item s).spot
  to_queries =
      step_widen (step_then (step_then to_entries after_entries_lem) queries_line.step) (omega (arith, entries_line.value)) (omega (arith, entries_line.value))

  pub to_last : Step s text_start LONGEST LINES (last_spot s)
  unfolding last_spot
  to_last =
      step_widen (step_then to_queries (queries_step s (queries_item s).spot (queries_item s).value))
      (omega (arith, queries_line.value)) (omega (arith, queries_line.value))

-- ---- a line of the whole text, read where the one before it ended

pub width_took : (s : List ℕ) {p : Spot} {r : Result ℕ BadLine} {after : Spot} → p ≡ text_start
    → Took (number_line number_digits NUMBER width_key s p) (λ l. l.value) r after → Took (width_item s) (λ l. l.value) r after
unfolding width_item
width_took s {r = r} {after = after} e h = subst (λ (x : Spot). Took (number_line number_digits NUMBER width_key s x) (λ l. l.value) r after) e h

module _ {s t : Bor (List ℕ)} (same : t ≡ s) where
  pub kind_took : {p : Spot} {w : ℕ} {r : Result Kind BadLine} {after : Spot} → Took (width_item s.now) (λ l. l.value) (Ok w) p
      → Took (kind_line t.now p) (λ l. kind_named l.value) r after → Took (kind_item s.now) (λ l. kind_named l.value) r after
  unfolding kind_item
  kind_took w = took_at kind_line same w.said.2

  pub levels_took : {p : Spot} {k : Kind} {r : Result ℕ BadLine} {after : Spot} → Took (kind_item s.now) (λ l. kind_named l.value) (Ok k) p
      → Took (number_line number_digits NUMBER levels_key t.now p) (λ l. l.value) r after → Took (levels_item s.now) (λ l. l.value) r after
  unfolding levels_item
  levels_took k = took_at (number_line number_digits NUMBER levels_key) same k.said.2

  pub links_took : {p : Spot} {l : ℕ} {r : Result ℕ BadLine} {after : Spot} → Took (levels_item s.now) (λ l. l.value) (Ok l) p
      → Took (number_line number_digits SHORT links_key t.now p) (λ l. l.value) r after → Took (links_item s.now) (λ l. l.value) r after
  unfolding links_item
  links_took l = took_at (number_line number_digits SHORT links_key) same l.said.2

  pub entries_took : {p : Spot} {g : ℕ} {r : Result ℕ BadLine} {after : Spot} → Took (links_item s.now) (λ l. l.value) (Ok g) p
      → Took (number_line number_digits COUNT entries_key t.now p) (λ l. l.value) r after → Took (entries_item s.now) (λ l. l.value) r after
  unfolding entries_item
  entries_took g = took_at (number_line number_digits COUNT entries_key) same g.said.2

-- all five were good
pub head_good : {s : List ℕ} {w l g n : ℕ} {k : Kind} {a b d e after : Spot} → Took (width_item s) (λ l. l.value) (Ok w) a
    → Took (kind_item s) (λ l. kind_named l.value) (Ok k) b → Took (levels_item s) (λ l. l.value) (Ok l) d → Took (links_item s) (λ l. l.value) (Ok g) e
    → Took (entries_item s) (λ l. l.value) (Ok n) after → HeadTook s (Ok (record { width = w; kind = k; levels = l; links = g; entries = n })) after
unfolding head_of
head_good w k l g n = record { said = (rw (w.said.1, k.said.1, l.said.1, g.said.1, n.said.1) refl, n.said.2) }

-- ---- what the calls answer, one after the other: of the same text, where the one before ended

module _ {s t : Bor (List ℕ)} (same : t ≡ s) where
  pub head_here : {r : Result Head BadLine} {after : Spot} → HeadTook t.now r after → HeadTook s.now r after
  head_here {r} {after} h = subst (λ (x : List ℕ). HeadTook x r after) (ap (λ x. x.now) same) h

  pub entries_here : {vs₀ ls₀ hs₀ vs ls hs : List ℕ} {h : Head} {p : Spot} {r : Result (Unit {0}) BadLine} {after : Spot} → HeadTook s.now (Ok h) p
      → EntriesTook t.now p h.entries vs₀ ls₀ hs₀ vs ls hs r after → EntriesTook s.now (entries_item s.now).spot (entries_item s.now).value vs₀ ls₀ hs₀ vs ls hs r after
  unfolding head_of
  entries_here {vs₀} {ls₀} {hs₀} {vs} {ls} {hs} {h} {p} {r} {after} head e =
      let n : h.entries ≡ (entries_item s.now).value = ap (λ (x : Head). x.entries) head.said.0 in
      subst (λ (k : ℕ). EntriesTook s.now (entries_item s.now).spot k vs₀ ls₀ hs₀ vs ls hs r after) n
      (subst (λ (x : Spot). EntriesTook s.now x h.entries vs₀ ls₀ hs₀ vs ls hs r after) head.said.1
      (subst (λ (x : List ℕ). EntriesTook x p h.entries vs₀ ls₀ hs₀ vs ls hs r after) (ap (λ x. x.now) same) e))

  pub count_here : {vs₀ ls₀ hs₀ vs ls hs : List ℕ} {u : Unit {0}} {p : Spot} {r : Result ℕ BadLine} {after : Spot}
      → EntriesTook s.now (entries_item s.now).spot (entries_item s.now).value vs₀ ls₀ hs₀ vs ls hs (Ok u) p
      → Took (number_line number_digits COUNT queries_key t.now p) (λ l. l.value) r after → Took (queries_item s.now) (λ l. l.value) r after
  unfolding queries_item
  count_here e = took_at (number_line number_digits COUNT queries_key) same e.said.spot

  pub queries_here : {xs₀ ds₀ xs ds : List ℕ} {m : ℕ} {p : Spot} {r : Result (Unit {0}) BadLine} {after : Spot} → Took (queries_item s.now) (λ l. l.value) (Ok m) p
      → QueriesTook t.now p m xs₀ ds₀ xs ds r after → QueriesTook s.now (queries_item s.now).spot (queries_item s.now).value xs₀ ds₀ xs ds r after
  queries_here {xs₀} {ds₀} {xs} {ds} {m} {p} {r} {after} count e =
      subst (λ (k : ℕ). QueriesTook s.now (queries_item s.now).spot k xs₀ ds₀ xs ds r after) count.said.1
      (subst (λ (x : Spot). QueriesTook s.now x m xs₀ ds₀ xs ds r after) count.said.2 (subst (λ (x : List ℕ). QueriesTook x p m xs₀ ds₀ xs ds r after) (ap (λ x. x.now) same) e))

-- ---- the whole, as it was read: into blank lists

module _ {s xs₀ ds₀ xs ds : List ℕ} {last : Spot} (qs : HoldsQueries s (queries_item s).spot (queries_item s).value xs₀ ds₀ xs ds last) (on : last.good ≡ true) where
  last_is : last_spot s ≡ last
  unfolding last_spot
  last_is = sym qs.spot

  -- something stands after the last line
  pub text_longer : {b : BadLine} (r : Result Contents BadLine) → (last.at ≡ length s → ⊥) → b ≡ bad_at last.line → IsErrAnd r (λ e. e ≡ b) → r ≡ contents_of (text_of s)
  unfolding contents_of text_of
  text_longer (Ok v) h w e = absurd e
  text_longer (Err v) h w e = rw (last_is, on, ne_eqb _ _ h, sym w, sym e) refl

  module _ {vs₀ ls₀ hs₀ vs ls hs : List ℕ} {h : Head} {m : ℕ} {p after : Spot} (hd : HeadTook s (Ok h) p)
      (es : HoldsEntries s (entries_item s).spot (entries_item s).value vs₀ ls₀ hs₀ vs ls hs after) (m-is : m ≡ (queries_item s).value)
      (es-blank : (vs₀ ≡ padded COUNT []) × (ls₀ ≡ padded COUNT []) × (hs₀ ≡ padded COUNT [])) (qs-blank : (xs₀ ≡ padded COUNT []) × (ds₀ ≡ padded COUNT [])) where
    abbrev taken : Contents
    taken =
        record {
          width = h.width;
          kind = h.kind;
          levels = h.levels;
          links = h.links;
          entries = h.entries;
          queries = m;
          bits = vs;
          lengths = ls;
          hops = hs;
          addresses = xs;
          places = ds;
        }

    taken_is : taken ≡ sheet_contents (sheet_of s)
    unfolding sheet_contents sheet_of head_of
    taken_is =
        rw (
          listed_length (entry_bits s (entries_item s).spot) (entries_item s).value,
          listed_length (query_address s (queries_item s).spot) (queries_item s).value,
          filled_to_blank _ _ COUNT _ es-blank.0 es.bits,
          filled_to_blank _ _ COUNT _ es-blank.1 es.lengths,
          filled_to_blank _ _ COUNT _ es-blank.2 es.hops,
          filled_to_blank _ _ COUNT _ qs-blank.0 qs.addresses,
          filled_to_blank _ _ COUNT _ qs-blank.1 qs.places,
          hd.said.0,
          m-is,
        )

    pub text_read : last.at ≡ length s → Ok taken ≡ contents_of (text_of s)
    unfolding contents_of text_of
    text_read end = rw (last_is, on, eq-eqb _ _ end, taken_is) refl
