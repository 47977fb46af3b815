-- A trie laid in the parts of the element lists from a place on, by a build that knows nothing of the place: what the lists then hold.
use mathlib.Core.Path.{◌≡◌, refl, sym, ap, subst, ◌∙◌}
use mathlib.Core.List.{List, [], ◌∷◌, ◌++◌, append-nil}
use Prim.Native.Nat.{ℕ, zero, suc, ◌+◌, ◌-◌, ◌*◌, ◌≤◌, ◌<◌}
use native.Mathlib.Omega.{arith}
use native.Mathlib.Nat.{le_trans}
use lib.ListN.{length, take, drop, get_or, length-append, length-take, length-drop, take-append-drop, drop_of_length-le, get_or-append}
use borrow.Author.Tests.{le-ltb}
use Rattle.std.specs.Prelude.{Ok}
use Rattle.table.specs.Limits.{link_limit}
use Rattle.table.specs.Refusals.{Outcome, outcome}
use Rattle.table.proofs.Refusals.{outcome_passes}
use Rattle.strides.specs.Trie.{size}
use Rattle.strides.specs.Cheapest.{Kind}
use Rattle.strides.specs.Recurrence.{plain, least_by}
use Rattle.strides.specs.Strides.{chosen_by}
use Rattle.strides.proofs.Cheapest.{chosen_cost}
use Rattle.walk.specs.Limits.{WIDTH}
use Rattle.walk.specs.Rows.{Lists, lists, shortest, row_at}
use Rattle.walk.specs.declared.record.Record.{Record}
use Rattle.layout.specs.Laid.{table_trie, Laid}
use Rattle.layout.proofs.Laid.{elements_cost}
use Rattle.choosers.specs.Scratch.{ROW}
use Rattle.tries.specs.Build.{room_test, BuildIs}
use Rattle.tries.specs.Limits.{ELEMENTS}
use Rattle.tries.proofs.BuildSteps.{late}
use Rattle.verdicts.specs.Tries.{from_place}
use Rattle.verdicts.proofs.Sources.{part_to_end}
use Rattle.verdicts.proofs.Alone.{row_from, room_from}
use Rattle.rules.specs.Laying.{CanLayAt, LaysAt}
use Rattle.rules.proofs.Planning.{plan_passes}

-- what is left of a list from place p on was lent, and ys came back
abbrev pub back_from : (p : ℕ) (xs ys : List ℕ) → List ℕ
back_from p xs ys = take p xs ++ (ys ++ drop (length xs - p) (drop p xs))

back_is : (p : ℕ) (xs ys : List ℕ) → back_from p xs ys ≡ take p xs ++ ys
back_is p xs ys =
    let short : length (drop p xs) ≤ length xs - p = omega (arith, length-drop p xs) in
    ap (λ (l : List ℕ). take p xs ++ l) (ap (λ (l : List ℕ). ys ++ l) (drop_of_length-le (drop p xs) short) ∙ append-nil ys)

drop_past : (p : ℕ) (xs ys : List ℕ) → p ≤ length xs → drop p (take p xs ++ ys) ≡ ys
drop_past zero xs ys h = refl
drop_past (suc p) [] ys h = absurd (omega arith)
drop_past (suc p) (x ∷ xs) ys h = drop_past p xs ys (omega arith)

back_from_lem : (p : ℕ) (xs ys : List ℕ) → p ≤ length xs → drop p (back_from p xs ys) ≡ ys
back_from_lem p xs ys h = ap (drop p) (back_is p xs ys) ∙ drop_past p xs ys h

back_before : (p : ℕ) (xs ys : List ℕ) (i : ℕ) → p ≤ length xs → i < p → get_or (back_from p xs ys) i 0 ≡ get_or xs i 0
back_before p xs ys i h l =
    let long = length-take p xs in
    ap (λ (zs : List ℕ). get_or zs i 0) (back_is p xs ys) ∙ get_or-append (take p xs) ys 0 i (omega (arith, long))
    ∙ sym (get_or-append (take p xs) (drop p xs) 0 i (omega (arith, long))) ∙ ap (λ (zs : List ℕ). get_or zs i 0) (take-append-drop p xs)

back_length : (p : ℕ) (xs ys : List ℕ) → p ≤ length xs → length ys ≡ length (take (length xs - p) (drop p xs)) → length (back_from p xs ys) ≡ length xs
back_length p xs ys h e =
    ap length (back_is p xs ys) ∙ length-append (take p xs) ys
    ∙ omega (arith, length-take p xs, e, length-take (length xs - p) (drop p xs), length-drop p xs)

-- the four lists at once
abbrev pub lent_from : ℕ → Lists → Lists
lent_from p ls =
    lists (take (length ls.hop - p) (drop p ls.hop)) (take (length ls.len - p) (drop p ls.len))
    (take (length ls.link - p) (drop p ls.link)) (take (length ls.stride - p) (drop p ls.stride))

abbrev pub rows_back : ℕ → Lists → Lists → Lists
rows_back p ls ys =
    lists (back_from p ls.hop ys.hop) (back_from p ls.len ys.len) (back_from p ls.link ys.link) (back_from p ls.stride ys.stride)

lent_from_lem : (p : ℕ) (ls : Lists) → lent_from p ls ≡ from_place p ls
lent_from_lem p ls = rw (part_to_end p ls.hop, part_to_end p ls.len, part_to_end p ls.link, part_to_end p ls.stride) refl

module _ (p : ℕ) (ls ys : Lists) (h : p ≤ shortest ls) where
  in_hops : p ≤ length ls.hop
  in_hops = omega arith

  in_lens : p ≤ length ls.len
  in_lens = omega arith

  in_links : p ≤ length ls.link
  in_links = omega arith

  in_strides : p ≤ length ls.stride
  in_strides = omega arith

  rows_from : from_place p (rows_back p ls ys) ≡ ys
  rows_from =
      rw (
        back_from_lem p ls.hop ys.hop in_hops,
        back_from_lem p ls.len ys.len in_lens,
        back_from_lem p ls.link ys.link in_links,
        back_from_lem p ls.stride ys.stride in_strides,
      ) refl

  rows_before : (i : ℕ) → i < p → row_at (rows_back p ls ys) i ≡ row_at ls i
  rows_before i l =
      rw (
        back_before p ls.hop ys.hop i in_hops l,
        back_before p ls.len ys.len i in_lens l,
        back_before p ls.link ys.link i in_links l,
        back_before p ls.stride ys.stride i in_strides l,
      ) refl

  rows_after : (i : ℕ) → p ≤ i → row_at (rows_back p ls ys) i ≡ row_at ys (i - p)
  rows_after i l =
      let e : p + (i - p) ≡ i = omega arith in
      ap (row_at (rows_back p ls ys)) (sym e) ∙ sym (row_from p (rows_back p ls ys) (i - p)) ∙ ap (λ (zs : Lists). row_at zs (i - p)) rows_from

-- ---- a build in the parts

module _ {kind : Kind} {W k : ℕ} {vs ls hs : List ℕ} {scratch : List ℕ} {place : ℕ} {rows ys : Lists} {out : Outcome} {rec : Record} {s' : List ℕ} {words : ℕ}
    (can : CanLayAt kind W k vs ls hs words place rows) (enough : size (table_trie W vs ls hs) * ROW ≤ length scratch)
    (b : BuildIs kind W k link_limit vs ls hs scratch (lent_from place rows) out rec s' ys) where
  abbrev least : ℕ
  least = least_by plain kind k (table_trie W vs ls hs)

  fits_part : least ≤ shortest (lent_from place rows)
  fits_part = subst (λ (zs : Lists). least ≤ shortest zs) (sym (lent_from_lem place rows)) (room_from place least rows can.fits)

  -- it is accepted
  pub accepted_at : out ≡ Ok tt
  unfolding outcome
  accepted_at =
      b.tests ∙ late W k link_limit vs ls hs (length scratch) (shortest (lent_from place rows)) least (plan_passes can.plan (length scratch) enough)
      ∙ outcome_passes (room_test least (shortest (lent_from place rows))) [] (rw (le-ltb _ least fits_part, le-ltb ELEMENTS least can.few) refl)

  count_at : rec.elements ≡ least
  count_at = elements_cost (b.written.laid accepted_at) ∙ chosen_cost kind k (table_trie W vs ls hs) can.plan.levels.0

  place_in : place ≤ shortest rows
  place_in = le_trans (omega arith) can.fits

  after_at : (i : ℕ) → place + rec.elements ≤ i → row_at (rows_back place rows ys) i ≡ row_at rows i
  after_at i l =
      let e : place + (i - place) ≡ i = omega arith in
      rows_after place rows ys place_in i (omega arith) ∙ b.written.keeps.later accepted_at (i - place) (omega arith)
      ∙ ap (λ (zs : Lists). row_at zs (i - place)) (lent_from_lem place rows) ∙ row_from place rows (i - place) ∙ ap (row_at rows) e

  pub lays_at : LaysAt kind W k vs ls hs place rows rec (rows_back place rows ys)
  lays_at = record {
    laid = subst (Laid WIDTH W vs ls hs (chosen_by plain kind k (table_trie W vs ls hs)) k rec) (sym (rows_from place rows ys place_in)) (b.written.laid accepted_at);
    named = b.written.named accepted_at;
    count = count_at;
    before = rows_before place rows ys place_in;
    after = after_at;
    room = record {
      hops = back_length place rows.hop ys.hop (in_hops place rows ys place_in) b.written.keeps.hops;
      lens = back_length place rows.len ys.len (in_lens place rows ys place_in) b.written.keeps.lens;
      links = back_length place rows.link ys.link (in_links place rows ys place_in) b.written.keeps.links;
      strides = back_length place rows.stride ys.stride (in_strides place rows ys place_in) b.written.keeps.strides;
    };
  }
