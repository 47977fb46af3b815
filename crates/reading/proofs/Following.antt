-- What was read of any text, good or bad, opens the text of a sound sheet: of the sheet that was read, where what a bad line would
-- have said is 0. So a good text is the text of its sheet, and with `spelled_is_good` (Sound) a text is good exactly where it is the
-- text of a sound sheet.
use mathlib.Core.Path.{◌≡◌, refl, sym, ap, subst, ◌∙◌}
use mathlib.Core.List.{List, [], ◌++◌, append-nil, append_assoc}
use mathlib.Core.Bool.{Bool, true, false, ◌&&◌, cond}
use Prim.Dec.{yes, no}
use native.Mathlib.Decide.{dec_lt}
use Prim.Native.Nat.{ℕ, zero, suc, ◌+◌, ◌≤◌, ◌<◌, max}
use native.Mathlib.Omega.{arith}
use native.Mathlib.Nat.{pow-le-pow_right}
use lib.ListN.{length, drop, take-append-drop}
use lib.Seq.{drop-drop, drop-append_seam}
use lib.Dec.{eqb, leb, lit≤}
use Rattle.std.proofs.lemmas.Bool.{false≢true}
use borrow.Author.Tests.{eqb-true}
use Rattle.reading.specs.declared.lines.Digits.{Digits}
use Rattle.reading.specs.Limits.{COUNT, number_digits, NUMBER, SHORT, BITS, LF}
use Rattle.reading.specs.Keys.{width_key, fixed_key, variable_key, levels_key, links_key, entries_key, bits_key, hop_key, queries_key, address_key}
use Rattle.reading.specs.Lines.{Spot, Item, byte_at, key_at, digits_at, unpadded, bad_line, close, number_line, bits_line, kind_line, kind_named}
use Rattle.table.specs.Lists.{listed}
use Rattle.reading.specs.Entries.{entry_from, address_from, after_entries, after_queries, entry_bits, entry_length, entry_hop, query_address, query_places}
use Rattle.reading.specs.Sheet.{Sheet}
use Rattle.reading.specs.Text.{good, bad, text_start, width_item, kind_item, levels_item, links_item, entries_item, queries_item, last_spot, sheet_of, text_of}
use Rattle.reading.specs.Spelling.{kind_text, entry_text, query_text, sheet_text, Sound}
use Rattle.reading.specs.Numerals.{line_of, bits_line_of, joined}
use Rattle.reading.specs.FirstBad.{line_count, first_lines, Opens}
use Rattle.table.proofs.Lists.{listed_length, listed_at, listed_same}
use Rattle.reading.proofs.Whole.{width_line, levels_line, links_line, entries_line, queries_line}
use Rattle.reading.proofs.Numerals.{joined_same}
use Rattle.reading.proofs.Spelled.{Stretch, number_spelled, bits_spelled, kind_spelled}
use Rattle.reading.proofs.Sound.{bits_enough, entry_fits, query_fits}
use Rattle.reading.proofs.FirstLines.{count_append, first_short, OneLine, number_line_one, bits_line_one, kind_line_one}

-- ---- a line: good, it counts; bad, the reading stays

pub record Turn (p q : Spot) : Type 0 where
  pub went : q.good ≡ true → q.line ≡ suc p.line
  pub stayed : q.good ≡ false → (q.at ≡ p.at) × (q.line ≡ p.line)

tested_turn : (p : Spot) (t : Bool) (l : Item) → Turn p l.spot → Turn p (cond t l (bad_line p)).spot
unfolding bad_line
tested_turn p true l h = h
tested_turn p false l h = record { went = λ e. absurd (false≢true e); stayed = λ e. (refl, refl) }

close_turn : (s : List ℕ) (p : Spot) (end : ℕ) (d : Digits) → Turn p (close s p end d).spot
unfolding close
close_turn s p end d =
    tested_turn p (p.good && eqb (byte_at s end) LF)
    (record { value = d.value; count = d.count; spot = record { at = suc end; line = suc p.line; good = true } })
    (record { went = λ e. refl; stayed = λ e. absurd (false≢true (sym e)) })

module _ (key s : List ℕ) (p : Spot) where
  pub number_turn : (k most : ℕ) → Turn p (number_line k most key s p).spot
  unfolding number_line
  number_turn k most =
      let q = p.at + length key in
      let d = digits_at 10 k s q in
      tested_turn p (key_at key s p.at && unpadded (byte_at s q) d.count && leb d.value most) (close s p (q + d.count) d)
      (close_turn s p (q + d.count) d)

  pub bits_turn : (least : ℕ) → Turn p (bits_line least key s p).spot
  unfolding bits_line
  bits_turn least =
      let q = p.at + length key in
      let d = digits_at 2 BITS s q in
      tested_turn p (key_at key s p.at && leb least d.count) (close s p (q + d.count) d) (close_turn s p (q + d.count) d)

pub kind_turn : (s : List ℕ) (p : Spot) → Turn p (kind_line s p).spot
unfolding kind_line
kind_turn s p = go (key_at fixed_key s p.at)
  where
    go : (t : Bool)
        → Turn p
        (cond t (close s p (p.at + length fixed_key) (record { value = 0; count = 0 }))
        (cond (key_at variable_key s p.at) (close s p (p.at + length fixed_key) (record { value = 1; count = 0 })) (bad_line p))).spot
    go true = close_turn s p (p.at + length fixed_key) _
    go false = tested_turn p (key_at variable_key s p.at) (close s p (p.at + length fixed_key) (record { value = 1; count = 0 })) (close_turn s p (p.at + length fixed_key) _)

pub turn_more : {p q : Spot} → Turn p q → p.line ≤ q.line
turn_more {p} {q} t = go q.good refl
  where
    go : (b : Bool) → q.good ≡ b → p.line ≤ q.line
    go true e = omega (arith, t.went e)
    go false e = omega (arith, (t.stayed e).1)

-- the line x was read from p to q, or refused there
record Tried (s : List ℕ) (p : Spot) (x : List ℕ) (q : Spot) : Type 0 where
  turn : Turn p q
  one : OneLine x
  stands : q.good ≡ true → Stretch s p q x

module _ (key : List ℕ) (clean : line_count key ≡ 0) (s : List ℕ) (p : Spot) where
  number_tried : (most : ℕ) → Tried s p (line_of key (number_line number_digits most key s p).value) (number_line number_digits most key s p).spot
  number_tried most =
      record {
        turn = number_turn key s p number_digits most;
        one = number_line_one key clean _;
        stands = λ e. number_spelled key s p number_digits most (lit≤ tt) e;
      }

  -- n digits, which are those that were read where it is good
  bits_tried : (least n : ℕ) → ((bits_line least key s p).spot.good ≡ true → n ≡ (bits_line least key s p).count)
      → Tried s p (bits_line_of key (bits_line least key s p).value n) (bits_line least key s p).spot
  bits_tried least n same =
      record {
        turn = bits_turn key s p least;
        one = bits_line_one key clean _ _;
        stands = λ e. rw (same e) (bits_spelled key s p least e);
      }

kind_tried : (s : List ℕ) (p : Spot) → Tried s p (kind_text (kind_named (kind_line s p).value)) (kind_line s p).spot
kind_tried s p = record { turn = kind_turn s p; one = kind_line_one (kind_named (kind_line s p).value); stands = λ e. kind_spelled s p e }

-- ---- lines that were read, and what the text would go on with

record Follow (s : List ℕ) (p : Spot) (text : List ℕ) : Type 0 where
  read : List ℕ
  rest : List ℕ
  told : text ≡ read ++ rest
  begins : s ≡ read ++ drop p.at s
  all : p.good ≡ true → rest ≡ []
  number : p.line ≡ suc (line_count read)

stretch_begins : (s : List ℕ) (p q : Spot) (x : List ℕ) → Stretch s p q x → drop p.at s ≡ x ++ drop q.at s
stretch_begins s p q x w =
    sym (take-append-drop (length x) (drop p.at s))
    ∙ ap (λ (l : List ℕ). l ++ drop (length x) (drop p.at s)) w.stand
    ∙ ap (λ (l : List ℕ). x ++ l) (drop-drop (length x) p.at s ∙ ap (λ (k : ℕ). drop k s) (sym w.ends))

follow_line : {s : List ℕ} {p : Spot} {x : List ℕ} {q : Spot} {text : List ℕ} → Tried s p x q → Follow s p text → Follow s q (text ++ x)
follow_line {s} {p} {x} {q} {text} t f = go q.good refl
  where
    go : (b : Bool) → q.good ≡ b → Follow s q (text ++ x)
    go true e =
        let w = t.stands e in
        let told : text ≡ f.read = f.told ∙ ap (λ (l : List ℕ). f.read ++ l) (f.all w.good) ∙ append-nil f.read in
        record {
          read = f.read ++ x;
          rest = [];
          told = ap (λ (l : List ℕ). l ++ x) told ∙ sym (append-nil (f.read ++ x));
          begins =
              f.begins ∙ ap (λ (l : List ℕ). f.read ++ l) (stretch_begins s p q x w) ∙ sym (append_assoc f.read x (drop q.at s));
          all = λ z. refl;
          number = omega (arith, t.turn.went e, f.number, count_append f.read x, t.one.one);
        }
    go false e =
        let k = t.turn.stayed e in
        record {
          read = f.read;
          rest = f.rest ++ x;
          told = ap (λ (l : List ℕ). l ++ x) f.told ∙ append_assoc f.read f.rest x;
          begins = subst (λ (i : ℕ). s ≡ f.read ++ drop i s) (sym k.0) f.begins;
          all = λ z. absurd (false≢true (sym e ∙ z));
          number = k.1 ∙ f.number;
        }

module _ (s : List ℕ) (p : Spot) where
  abbrev entry_bytes : ℕ → List ℕ
  entry_bytes i = bits_line_of bits_key (entry_bits s p i) (entry_length s p i) ++ line_of hop_key (entry_hop s p i)

  -- an address that was not read is 0, of one digit
  abbrev query_digits : ℕ → ℕ
  query_digits i = max 1 (query_places s p i)

  abbrev query_bytes : ℕ → List ℕ
  query_bytes i = bits_line_of address_key (query_address s p i) (query_digits i)

  follow_entries : (n : ℕ) (text : List ℕ) → Follow s p text → Follow s (after_entries s p n) (text ++ joined entry_bytes n)
  unfolding after_entries joined entry_bits entry_length entry_hop entry_from line_count
  follow_entries zero text f = rw (append-nil text) f
  follow_entries (suc n) text f =
      let q = after_entries s p n in
      let b = bits_line 0 bits_key s q in
      let bits-line = bits_line_of bits_key b.value b.count in
      let hop-line = line_of hop_key (number_line number_digits SHORT hop_key s b.spot).value in
      let g = follow_line (bits_tried bits_key refl s q 0 b.count (λ e. refl)) (follow_entries n text f) in
      let h = follow_line (number_tried hop_key refl s b.spot SHORT) g in
      let e = ap (λ (l : List ℕ). l ++ hop-line) (append_assoc text (joined entry_bytes n) bits-line)
      ∙ append_assoc text (joined entry_bytes n ++ bits-line) hop-line
      ∙ ap (λ (l : List ℕ). text ++ l) (append_assoc (joined entry_bytes n) bits-line hop-line) in
      subst (Follow s _) e h

  follow_queries : (n : ℕ) (text : List ℕ) → Follow s p text → Follow s (after_queries s p n) (text ++ joined query_bytes n)
  unfolding after_queries joined query_address query_places address_from line_count
  follow_queries zero text f = rw (append-nil text) f
  follow_queries (suc n) text f =
      let q = after_queries s p n in
      let line = query_bytes n in
      let g = follow_line (bits_tried address_key refl s q 1 (query_digits n) (λ e. omega (arith, bits_enough 1 address_key s q e))) (follow_queries n text f) in
      subst (Follow s _) (append_assoc text (joined query_bytes n) line) g

-- ---- the sheet that was read, made whole

module _ (s : List ℕ) where
  unfoldable pub made_whole : Sheet
  made_whole =
      record {
        width = (width_item s).value;
        kind = kind_named (kind_item s).value;
        levels = (levels_item s).value;
        links = (links_item s).value;
        bits = listed (entry_bits s (entries_item s).spot) (entries_item s).value;
        lengths = listed (entry_length s (entries_item s).spot) (entries_item s).value;
        hops = listed (entry_hop s (entries_item s).spot) (entries_item s).value;
        addresses = listed (query_address s (queries_item s).spot) (queries_item s).value;
        places = listed (query_digits s (queries_item s).spot) (queries_item s).value;
      }

  abbrev line_bytes : List ℕ
  line_bytes =
      line_of width_key (width_item s).value
      ++ kind_text (kind_named (kind_item s).value)
      ++ line_of levels_key (levels_item s).value
      ++ line_of links_key (links_item s).value
      ++ line_of entries_key (entries_item s).value
      ++ joined (entry_bytes s (entries_item s).spot) (entries_item s).value
      ++ line_of queries_key (queries_item s).value
      ++ joined (query_bytes s (queries_item s).spot) (queries_item s).value

  whole_bytes : sheet_text made_whole ≡ line_bytes
  unfolding sheet_text made_whole entry_text query_text
  whole_bytes =
      let n = (entries_item s).value in
      let m = (queries_item s).value in
      let p = (entries_item s).spot in
      let q = (queries_item s).spot in
      rw (
        listed_length (entry_bits s p) n,
        listed_length (query_address s q) m,
        joined_same (entry_text (listed (entry_bits s p) n) (listed (entry_length s p) n) (listed (entry_hop s p) n)) (entry_bytes s p) n
            (λ i h. rw (listed_at (entry_bits s p) n i h, listed_at (entry_length s p) n i h, listed_at (entry_hop s p) n i h)),
        joined_same (query_text (listed (query_address s q) m) (listed (query_digits s q) m)) (query_bytes s q) m
            (λ i h. rw (listed_at (query_address s q) m i h, listed_at (query_digits s q) m i h)),
      )

  follow_start : Follow s text_start []
  unfolding line_count first_lines
  follow_start = record { read = []; rest = []; told = refl; begins = refl; all = λ e. refl; number = refl }

  follow_whole : Follow s (last_spot s) line_bytes
  unfolding last_spot queries_item entries_item links_item levels_item kind_item width_item line_count
  follow_whole =
      let w = follow_line (number_tried width_key refl s text_start NUMBER) follow_start in
      let k = follow_line (kind_tried s (width_item s).spot) w in
      let l = follow_line (number_tried levels_key refl s (kind_item s).spot NUMBER) k in
      let g = follow_line (number_tried links_key refl s (levels_item s).spot SHORT) l in
      let e = follow_line (number_tried entries_key refl s (links_item s).spot COUNT) g in
      let es = follow_entries s (entries_item s).spot (entries_item s).value _ e in
      let q = follow_line (number_tried queries_key refl s (after_entries s (entries_item s).spot (entries_item s).value) COUNT) es in
      follow_queries s (queries_item s).spot (queries_item s).value _ q

  whole_sound : Sound made_whole
  unfolding made_whole
  whole_sound =
      let p = (entries_item s).spot in
      let n = (entries_item s).value in
      let q = (queries_item s).spot in
      let m = (queries_item s).value in
      record {
        width_fits = (width_line s).value;
        levels_fit = (levels_line s).value;
        links_fit = (links_line s).value;
        entries_few = rw (listed_length (entry_bits s p) n) (entries_line s).value;
        as_many_lengths = listed_length (entry_length s p) n ∙ sym (listed_length (entry_bits s p) n);
        as_many_hops = listed_length (entry_hop s p) n ∙ sym (listed_length (entry_bits s p) n);
        entry =
            λ i k.
            let l : i < n = omega (arith, listed_length (entry_bits s p) n) in
            rw (listed_at (entry_length s p) n i l, listed_at (entry_bits s p) n i l, listed_at (entry_hop s p) n i l) (entry_fits s p i);
        queries_few = rw (listed_length (query_address s q) m) (queries_line s).value;
        as_many_places = listed_length (query_digits s q) m ∙ sym (listed_length (query_address s q) m);
        query =
            λ i k.
            let l : i < m = omega (arith, listed_length (query_address s q) m) in
            let w = query_fits s q i in
            let more = pow-le-pow_right {n = 2} (lit≤ tt) {i = query_places s q i} {j = query_digits s q i} (omega arith) in
            rw (listed_at (query_digits s q) m i l, listed_at (query_address s q) m i l) (omega arith, omega (arith, w.1), omega (arith, w.0, more));
      }

  -- the lines that were read are the first of its text
  pub record ReadLines : Type 0 where
    pub read : List ℕ
    pub begins : s ≡ read ++ drop (last_spot s).at s
    pub opens : Opens s (line_count read)
    pub number : (last_spot s).line ≡ suc (line_count read)

  pub lines_read : ReadLines
  lines_read =
      let f = follow_whole in
      let n = line_count f.read in
      record {
        read = f.read;
        begins = f.begins;
        opens =
            record {
              sheet = made_whole;
              sound = whole_sound;
              complete = omega (arith, ap line_count f.begins, count_append f.read (drop (last_spot s).at s));
              same =
                  ap (first_lines n) f.begins
                  ∙ first_short n f.read (drop (last_spot s).at s) (omega arith)
                  ∙ sym (first_short n f.read f.rest (omega arith))
                  ∙ ap (first_lines n) (sym (whole_bytes ∙ f.told));
            };
        number = f.number;
      }

-- ---- a good text is the text of the sheet that it says, and that sheet is sound

-- where the last query is good, each has a digit
queries_enough : (s : List ℕ) (p : Spot) (n : ℕ) → (after_queries s p n).good ≡ true → (i : ℕ) → i < n → 1 ≤ query_places s p i
unfolding after_queries address_from query_places
queries_enough s p zero e i k = absurd (omega arith)
queries_enough s p (suc n) e i k =
    elim (dec_lt i n) [
      | yes l ↦ queries_enough s p n (bits_spelled address_key s (after_queries s p n) 1 e).good i l
      | no l ↦ let f : i ≡ n = omega arith in rw f (bits_enough 1 address_key s (after_queries s p n) e)
    ]

module _ (s : List ℕ) (on : (last_spot s).good ≡ true) where
  sheet_whole : sheet_of s ≡ made_whole s
  unfolding sheet_of made_whole last_spot
  sheet_whole =
      let q = (queries_item s).spot in
      let m = (queries_item s).value in
      rw (listed_same (query_places s q) (query_digits s q) m (λ i h. omega (arith, queries_enough s q m on i h)))

  sheet_spelled : (last_spot s).at ≡ length s → s ≡ sheet_text (sheet_of s)
  sheet_spelled end =
      let f = follow_whole s in
      let left : drop (last_spot s).at s ≡ [] = rw end (sym (ap (drop (length s)) (append-nil s)) ∙ drop-append_seam s []) in
      let ours : s ≡ f.read = f.begins ∙ ap (λ (l : List ℕ). f.read ++ l) left ∙ append-nil f.read in
      let theirs : sheet_text (made_whole s) ≡ f.read =
      whole_bytes s ∙ f.told ∙ ap (λ (l : List ℕ). f.read ++ l) (f.all on) ∙ append-nil f.read in
      ours ∙ sym theirs ∙ ap sheet_text (sym sheet_whole)

pub good_is_whole : (s : List ℕ) (sh : Sheet) → text_of s ≡ good sh → Sound sh × (s ≡ sheet_text sh)
unfolding text_of
good_is_whole s sh e = go (last_spot s).good (eqb (last_spot s).at (length s)) refl refl e
  where
    go : (t u : Bool) → (last_spot s).good ≡ t → eqb (last_spot s).at (length s) ≡ u
        → cond (t && u) (good (sheet_of s)) (bad (last_spot s).line) ≡ good sh → Sound sh × (s ≡ sheet_text sh)
    go true true f g h =
        let x : sheet_of s ≡ sh = cc in (
          subst Sound (sym (sheet_whole s f) ∙ x) (whole_sound s),
          sheet_spelled s f (eqb-true (last_spot s).at (length s) g) ∙ ap sheet_text x,
        )
    go true false f g h = absurd (let z : ◌≡◌ {A = ℕ} 0 1 = cc in omega arith)
    go false u f g h = absurd (let z : ◌≡◌ {A = ℕ} 0 1 = cc in omega arith)

pub good_is_sound : (s : List ℕ) (sh : Sheet) → text_of s ≡ good sh → Sound sh
good_is_sound s sh e = (good_is_whole s sh e).0

pub good_is_spelled : (s : List ℕ) (sh : Sheet) → text_of s ≡ good sh → s ≡ sheet_text sh
good_is_spelled s sh e = (good_is_whole s sh e).1
