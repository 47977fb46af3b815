-- The line that is reported is the first bad one, and there is one first bad line. So an early end is bad at the line after the last
-- complete one, and extra text at the line after the last.
use mathlib.Core.Path.{◌≡◌, refl, sym, ap, subst, ◌∙◌}
use mathlib.Core.List.{List, [], ◌∷◌, ◌++◌, append-nil, append_assoc, append_cancel_left, append_cancel_right}
use mathlib.Core.Bool.{Bool, true, false, ◌&&◌, cond}
use mathlib.Core.Logic.{◌⊎◌, inl, inr}
use Prim.Native.Nat.{ℕ, zero, suc, ◌+◌, ◌-◌, ◌^◌, ◌≤◌, ◌<◌}
use Prim.Dec.{yes, no}
use native.Mathlib.Omega.{arith}
use native.Mathlib.Decide.{dec_lt}
use lib.ListN.{length, take, drop, length-drop, take-append-drop}
use lib.Dec.{eqb, lit≤}
use borrow.Author.Tests.{ne_eqb}
use Rattle.table.specs.Table.{at}
use Rattle.reading.specs.Limits.{COUNT, number_digits, NUMBER, SHORT, BITS}
use Rattle.reading.specs.Keys.{width_key, levels_key, links_key, entries_key, bits_key, hop_key, queries_key, address_key}
use Rattle.reading.specs.Lines.{Spot, number_line, bits_line}
use Rattle.reading.specs.Entries.{entry_from, address_from, after_entries, after_queries}
use Rattle.reading.specs.Sheet.{Sheet}
use Rattle.reading.specs.Text.{Text, good, bad, text_start, width_item, kind_item, levels_item, links_item, entries_item, queries_item, last_spot, sheet_of, text_of}
use Rattle.reading.specs.Spelling.{kind_text, entry_text, query_text, sheet_text, Sound}
use Rattle.reading.specs.Numerals.{line_of, bits_line_of, joined}
use Rattle.reading.specs.FirstBad.{line_count, first_lines, Opens, FirstBad}
use Rattle.reading.proofs.ReadBack.{Ahead, number_read, bits_read, kind_read}
use Rattle.reading.proofs.Sound.{nine, spelled_is_read, spelled_is_good}
use Rattle.reading.proofs.FirstLines.{count_append, rest_lines, first_rest, first_count, first_short, first_fewer, Complete, complete_then}
use Rattle.reading.proofs.FirstLines.{OneLine, number_line_one, bits_line_one, kind_line_one}
use Rattle.reading.proofs.Following.{Turn, number_turn, bits_turn, kind_turn, turn_more, lines_read, good_is_sound, good_is_spelled}

-- ---- one first bad line

pub opens_fewer : {s : List ℕ} {m : ℕ} (j : ℕ) → j ≤ m → Opens s m → Opens s j
opens_fewer {s} {m} j h o =
    record {
      sheet = o.sheet;
      sound = o.sound;
      complete = omega (arith, o.complete);
      same = sym (first_fewer j m s h) ∙ ap (first_lines j) o.same ∙ first_fewer j m (sheet_text o.sheet) h;
    }

pub first_bad_unique : {s : List ℕ} {a b : ℕ} → FirstBad s a → FirstBad s b → a ≡ b
first_bad_unique {s} {a} {b} f g =
    elim (dec_lt f.before g.before) [
      | yes l ↦ absurd (f.no_more (opens_fewer (suc f.before) (omega arith) g.opens))
      | no l ↦
          elim (dec_lt g.before f.before) [
            | yes k ↦ absurd (g.no_more (opens_fewer (suc g.before) (omega arith) f.opens))
            | no k ↦ omega (arith, f.next, g.next)
          ]
    ]

-- ---- lines that open the text of a sound sheet are read: s goes on with r where that text goes on with r'

module _ (s r r' : List ℕ) (goal : ℕ) where
  -- at p no line was bad; the lines u are left of those that both have, and z of the sheet's text
  record Live (p : Spot) (z : List ℕ) : Type 0 where
    u : List ℕ
    on : p.good ≡ true
    left : drop p.at s ≡ u ++ r
    ahead : z ≡ u ++ r'
    complete : Complete u
    count : line_count u + p.line ≡ goal

  -- all those lines were read; or P holds and some are left
  abbrev Stage : Type 0 → Spot → List ℕ → Type 0
  Stage P p z = (goal ≤ p.line) ⊎ (P × Live p z)

  line_first : (x z : List ℕ) → OneLine x → first_lines 1 (x ++ z) ≡ x
  unfolding first_lines
  line_first x z o =
      let e : line_count x + 0 ≡ 1 = omega (arith, o.one) in
      subst (λ (k : ℕ). first_lines k (x ++ z) ≡ x) e (complete_then x z 0 o.complete ∙ append-nil x)

  module _ (P : Type 0) (x z : List ℕ) (p q : Spot) (one : OneLine x) (turn : Turn p q)
      (reads : (rest : List ℕ) → Ahead s p (x ++ rest) → P × Ahead s q rest) where
    live_line : Live p (x ++ z) → Stage P q z
    live_line v = go (line_count v.u) refl
      where
        go : (k : ℕ) → line_count v.u ≡ k → Stage P q z
        go zero e = inl (omega (arith, v.count, turn_more turn))
        go (suc k) e =
            let u = v.u in
            let b = rest_lines 1 u in
            let f : first_lines 1 u ≡ x = sym (first_short 1 u r' (omega arith)) ∙ ap (first_lines 1) (sym v.ahead) ∙ line_first x z one in
            let c : u ≡ x ++ b = sym (first_rest 1 u) ∙ ap (λ (l : List ℕ). l ++ b) f in
            let w = reads (b ++ r) (record { on = v.on; left = v.left ∙ ap (λ (l : List ℕ). l ++ r) c ∙ append_assoc x b r }) in
            inr (
              w.0,
              record {
                u = b;
                on = w.1.on;
                left = w.1.left;
                ahead = append_cancel_left x z (b ++ r') (v.ahead ∙ ap (λ (l : List ℕ). l ++ r') c ∙ append_assoc x b r');
                complete =
                    append_cancel_left x (first_lines (line_count b) b) b
                    (sym (complete_then x b (line_count b) one.complete)
                    ∙ ap (λ (k : ℕ). first_lines k (x ++ b)) (sym (count_append x b))
                    ∙ subst Complete c v.complete);
                count = omega (arith, v.count, turn.went w.1.on, ap line_count c, count_append x b, one.one);
              },
            )

    stage_line : {Q : Type 0} → Stage Q p (x ++ z) → Stage P q z
    stage_line (inl d) = inl (omega (arith, turn_more turn))
    stage_line (inr v) = live_line v.1

  -- the line of a number, and one of bits
  stage_number : (key : List ℕ) → line_count key ≡ 0 → (most v : ℕ) → most ≤ NUMBER → v ≤ most → (p : Spot) (z : List ℕ) {Q : Type 0}
      → Stage Q p (line_of key v ++ z) → Stage ((number_line number_digits most key s p).value ≡ v) (number_line number_digits most key s p).spot z
  stage_number key clean most v top few p z =
      stage_line _ (line_of key v) z p _ (number_line_one key clean v) (number_turn key s p number_digits most)
      (λ rest h. let w = number_read key s p rest most v top few h in (w.value, w.ahead))

  stage_bits : (key : List ℕ) → line_count key ≡ 0 → (least v n : ℕ) → least ≤ n → n ≤ BITS → v < 2 ^ n → (p : Spot) (z : List ℕ) {Q : Type 0}
      → Stage Q p (bits_line_of key v n ++ z) → Stage (Unit {0}) (bits_line least key s p).spot z
  stage_bits key clean least v n o few fits p z =
      stage_line _ (bits_line_of key v n) z p _ (bits_line_one key clean v n) (bits_turn key s p least)
      (λ rest h. (tt, (bits_read key s p rest least v n o few fits h).ahead))

  stage_any : {P : Type 0} {p : Spot} {z : List ℕ} → Stage P p z → Stage (Unit {0}) p z
  stage_any (inl d) = inl d
  stage_any (inr v) = inr (tt, v.1)

  stage_entries : (p : Spot) (vs ls hs : List ℕ) (n : ℕ) (z : List ℕ)
      → ((i : ℕ) → i < n → (at ls i ≤ BITS) × (at vs i < 2 ^ at ls i) × (at hs i ≤ SHORT))
      → {P : Type 0} → Stage P p (joined (entry_text vs ls hs) n ++ z) → Stage (Unit {0}) (after_entries s p n) z
  unfolding after_entries entry_from entry_text joined line_count
  stage_entries p vs ls hs zero z sound v = stage_any v
  stage_entries p vs ls hs (suc n) z sound {P} v =
      let x = sound n (omega arith) in
      let q = after_entries s p n in
      let hop-line = line_of hop_key (at hs n) in
      let bits-line = bits_line_of bits_key (at vs n) (at ls n) in
      let e =
      append_assoc (joined (entry_text vs ls hs) n) (bits-line ++ hop-line) z
      ∙ ap (λ (l : List ℕ). joined (entry_text vs ls hs) n ++ l) (append_assoc bits-line hop-line z) in
      let w = stage_entries p vs ls hs n (bits-line ++ (hop-line ++ z)) (λ i k. sound i (omega arith)) (subst (Stage P p) e v) in
      let b = stage_bits bits_key refl 0 (at vs n) (at ls n) (omega arith) x.0 x.1 q (hop-line ++ z) w in
      stage_any (stage_number hop_key refl SHORT (at hs n) (lit≤ tt) x.2 (bits_line 0 bits_key s q).spot z b)

  stage_queries : (p : Spot) (xs ds : List ℕ) (n : ℕ) (z : List ℕ)
      → ((i : ℕ) → i < n → (1 ≤ at ds i) × (at ds i ≤ BITS) × (at xs i < 2 ^ at ds i))
      → {P : Type 0} → Stage P p (joined (query_text xs ds) n ++ z) → Stage (Unit {0}) (after_queries s p n) z
  unfolding after_queries address_from query_text joined line_count
  stage_queries p xs ds zero z sound v = stage_any v
  stage_queries p xs ds (suc n) z sound {P} v =
      let x = sound n (omega arith) in
      let line = bits_line_of address_key (at xs n) (at ds n) in
      let e = append_assoc (joined (query_text xs ds) n) line z in
      let w = stage_queries p xs ds n (line ++ z) (λ i k. sound i (omega arith)) (subst (Stage P p) e v) in
      stage_bits address_key refl 1 (at xs n) (at ds n) x.0 x.1 x.2 (after_queries s p n) z w

-- lines go on
entries_lines : (s : List ℕ) (p : Spot) (n : ℕ) → p.line ≤ (after_entries s p n).line
unfolding after_entries entry_from
entries_lines s p zero = omega arith
entries_lines s p (suc n) =
    let q = after_entries s p n in
    let b = (bits_line 0 bits_key s q).spot in
    omega (arith, entries_lines s p n, turn_more (bits_turn bits_key s q 0), turn_more (number_turn hop_key s b number_digits SHORT))

queries_lines : (s : List ℕ) (p : Spot) (n : ℕ) → p.line ≤ (after_queries s p n).line
unfolding after_queries address_from
queries_lines s p zero = omega arith
queries_lines s p (suc n) = omega (arith, queries_lines s p n, turn_more (bits_turn address_key s (after_queries s p n) 1))

module _ (s : List ℕ) (m : ℕ) (o : Opens s (suc m)) where
  abbrev sh : Sheet
  sh = o.sheet

  -- the lines that both texts have, and what is left of each
  abbrev opening : List ℕ
  opening = first_lines (suc m) s

  abbrev ours : List ℕ
  ours = rest_lines (suc m) s

  abbrev theirs : List ℕ
  theirs = rest_lines (suc m) (sheet_text sh)

  abbrev goal : ℕ
  goal = suc (suc m)

  abbrev n : ℕ
  n = length sh.bits

  abbrev k : ℕ
  k = length sh.addresses

  abbrev entries_text : List ℕ
  entries_text = joined (entry_text sh.bits sh.lengths sh.hops) n

  abbrev queries_text : List ℕ
  queries_text = joined (query_text sh.addresses sh.places) k

  abbrev entries_rest : List ℕ
  entries_rest = line_of queries_key k ++ (queries_text ++ [])

  abbrev links_rest : List ℕ
  links_rest = line_of entries_key n ++ (entries_text ++ entries_rest)

  abbrev kind_rest : List ℕ
  kind_rest = line_of levels_key sh.levels ++ (line_of links_key sh.links ++ links_rest)

  stage_start : Stage s ours theirs goal (Unit {0}) text_start (line_of width_key sh.width ++ (kind_text sh.kind ++ kind_rest))
  unfolding sheet_text
  stage_start =
      let c : line_count opening ≡ suc m = first_count (suc m) s o.complete in
      inr (
        tt,
        record {
          u = opening;
          on = refl;
          left = sym (first_rest (suc m) s);
          ahead =
              sym (nine (line_of width_key sh.width) (kind_text sh.kind) (line_of levels_key sh.levels) (line_of links_key sh.links) (line_of entries_key n)
              entries_text (line_of queries_key k) queries_text [])
              ∙ append-nil (sheet_text sh)
              ∙ sym (first_rest (suc m) (sheet_text sh))
              ∙ ap (λ (l : List ℕ). l ++ theirs) (sym o.same);
          complete = rw c (first_fewer (suc m) (suc m) s (omega arith));
          count = omega (arith, c);
        },
      )

  stage_links : Stage s ours theirs goal ((links_item s).value ≡ sh.links) (links_item s).spot links_rest
  unfolding width_item kind_item levels_item links_item line_count
  stage_links =
      let w = stage_number s ours theirs goal width_key refl NUMBER sh.width (lit≤ tt) o.sound.width_fits text_start _ stage_start in
      let p = (width_item s).spot in
      let c = stage_line s ours theirs goal (Unit {0}) (kind_text sh.kind) _ p _ (kind_line_one sh.kind) (kind_turn s p)
      (λ rest h. (tt, (kind_read s p rest sh.kind h).1)) w in
      let l = stage_number s ours theirs goal levels_key refl NUMBER sh.levels (lit≤ tt) o.sound.levels_fit (kind_item s).spot _ c in
      stage_number s ours theirs goal links_key refl SHORT sh.links (lit≤ tt) o.sound.links_fit (levels_item s).spot links_rest l

  stage_after : Stage s ours theirs goal (Unit {0}) (after_entries s (entries_item s).spot (entries_item s).value) entries_rest
  unfolding entries_item line_count
  stage_after = go (stage_number s ours theirs goal entries_key refl COUNT n (lit≤ tt) o.sound.entries_few (links_item s).spot (entries_text ++ entries_rest) stage_links)
    where
      go : Stage s ours theirs goal ((entries_item s).value ≡ n) (entries_item s).spot (entries_text ++ entries_rest)
          → Stage s ours theirs goal (Unit {0}) (after_entries s (entries_item s).spot (entries_item s).value) entries_rest
      go (inl d) = inl (omega (arith, entries_lines s (entries_item s).spot (entries_item s).value))
      go (inr v) =
          rw v.0
          (stage_entries s ours theirs goal (entries_item s).spot sh.bits sh.lengths sh.hops n entries_rest o.sound.entry {P = Unit {0}} (inr (tt, v.1)))

  stage_last : Stage s ours theirs goal (Unit {0}) (last_spot s) []
  unfolding last_spot queries_item line_count
  stage_last =
      let p = after_entries s (entries_item s).spot (entries_item s).value in
      go (stage_number s ours theirs goal queries_key refl COUNT k (lit≤ tt) o.sound.queries_few p (queries_text ++ []) stage_after)
    where
      go : Stage s ours theirs goal ((queries_item s).value ≡ k) (queries_item s).spot (queries_text ++ [])
          → Stage s ours theirs goal (Unit {0}) (after_queries s (queries_item s).spot (queries_item s).value) []
      go (inl d) = inl (omega (arith, queries_lines s (queries_item s).spot (queries_item s).value))
      go (inr v) =
          rw v.0
          (stage_queries s ours theirs goal (queries_item s).spot sh.addresses sh.places k [] o.sound.query {P = Unit {0}} (inr (tt, v.1)))

  -- so all of them were
  pub opening_read : goal ≤ (last_spot s).line
  unfolding line_count
  opening_read = go stage_last
    where
      none : (u : List ℕ) → [] ≡ u ++ theirs → line_count u ≡ 0
      none [] e = refl
      none (c ∷ u) e = absurd (let z : ◌≡◌ {A = ℕ} 0 1 = cc in omega arith)

      go : Stage s ours theirs goal (Unit {0}) (last_spot s) [] → goal ≤ (last_spot s).line
      go (inl d) = d
      go (inr v) = omega (arith, v.1.count, none v.1.u v.1.ahead)

-- ---- the line that is reported

bad_line_is : (s : List ℕ) (line : ℕ) → text_of s ≡ bad line → line ≡ (last_spot s).line
unfolding text_of
bad_line_is s line e = go ((last_spot s).good && eqb (last_spot s).at (length s)) e
  where
    go : (t : Bool) → cond t (good (sheet_of s)) (bad (last_spot s).line) ≡ bad line → line ≡ (last_spot s).line
    go true h = absurd (let z : ◌≡◌ {A = ℕ} 0 1 = cc in omega arith)
    go false h = cc

good_not_bad : {sh : Sheet} {line : ℕ} {t : Text} → t ≡ good sh → t ≡ bad line → ⊥
good_not_bad e f = let z : ◌≡◌ {A = ℕ} 0 1 = cc in omega arith

-- a bad text is reported at its first bad line
pub bad_is_first : (s : List ℕ) (line : ℕ) → text_of s ≡ bad line → FirstBad s line
bad_is_first s line e =
    let w = lines_read s in
    record {
      no_sheet = λ sh sound is. good_not_bad (ap text_of is ∙ spelled_is_good sh sound) e;
      before = line_count w.read;
      next = bad_line_is s line e ∙ w.number;
      opens = w.opens;
      no_more = λ o. omega (arith, opening_read s (line_count w.read) o, w.number);
    }

-- and a text with a first bad line is bad there
pub first_is_bad : (s : List ℕ) (line : ℕ) → FirstBad s line → text_of s ≡ bad line
first_is_bad s line f = go (text_of s) refl
  where
    go : (t : Text) → text_of s ≡ t → text_of s ≡ bad line
    go (good sh) e = absurd (f.no_sheet sh (good_is_sound s sh e) (good_is_spelled s sh e))
    go (bad found) e = e ∙ ap bad (first_bad_unique (bad_is_first s found e) f)

-- ---- extra text, and an early end

-- text after that of a sound sheet is bad at the line after the last
pub extra_text : (sh : Sheet) → Sound sh → (x : ℕ) (xs : List ℕ) → text_of (sheet_text sh ++ (x ∷ xs)) ≡ bad (suc (line_count (sheet_text sh)))
unfolding text_of
extra_text sh sound x xs =
    let t = sheet_text sh in
    let s = t ++ (x ∷ xs) in
    let h = spelled_is_read sh sound (x ∷ xs) in
    let w = lines_read s in
    let r : w.read ≡ t =
    append_cancel_right w.read t (x ∷ xs) (ap (λ (l : List ℕ). w.read ++ l) (sym h.left) ∙ sym w.begins) in
    let l : suc (length xs) ≡ length s - (last_spot s).at = sym (ap length h.left) ∙ length-drop (last_spot s).at s in
    let e : eqb (last_spot s).at (length s) ≡ false = ne_eqb _ _ (λ (z : (last_spot s).at ≡ length s). omega arith) in
    rw (h.on, e) (ap bad (w.number ∙ ap (λ (a : List ℕ). suc (line_count a)) r))

-- the text of a sound sheet, cut before its end, is bad at the line after the last complete one
pub early_end : (sh : Sheet) → Sound sh → (n : ℕ) → n < length (sheet_text sh)
    → text_of (take n (sheet_text sh)) ≡ bad (suc (line_count (take n (sheet_text sh))))
early_end sh sound n h = first_is_bad cut (suc (line_count cut)) cut_bad
  where
    cut : List ℕ
    cut = take n (sheet_text sh)

    -- no sound sheet's text begins another's
    apart : (rest : List ℕ) → drop n (sheet_text sh) ≡ rest → (other : Sheet) → Sound other → cut ≡ sheet_text other → ⊥
    apart [] e other fine is = omega (arith, ap length e, length-drop n (sheet_text sh))
    apart (x ∷ xs) e other fine is =
        let j : sheet_text sh ≡ sheet_text other ++ (x ∷ xs) =
        sym (take-append-drop n (sheet_text sh)) ∙ ap (λ (l : List ℕ). l ++ drop n (sheet_text sh)) is ∙ ap (λ (l : List ℕ). sheet_text other ++ l) e in
        good_not_bad (spelled_is_good sh sound) (ap text_of j ∙ extra_text other fine x xs)

    cut_bad : FirstBad cut (suc (line_count cut))
    cut_bad =
        record {
          no_sheet = λ other fine is. apart (drop n (sheet_text sh)) refl other fine is;
          before = line_count cut;
          next = refl;
          opens =
              record {
                sheet = sh;
                sound = sound;
                complete = omega arith;
                same =
                    sym (first_short (line_count cut) cut (drop n (sheet_text sh)) (omega arith))
                    ∙ ap (first_lines (line_count cut)) (take-append-drop n (sheet_text sh));
              };
          no_more = λ o. omega (arith, o.complete);
        }
