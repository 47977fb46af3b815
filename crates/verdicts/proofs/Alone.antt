-- Demand 3's last sentence over two fields (02, [6]): the reads are the rows on the paths in all tries visited, at most 34 times k, and the
-- verdict depends on the record, on those rows and on those tries' rows in their list alone; whatever record and lists are given.
use Prim.Native.Nat.{ℕ, ◌+◌, ◌-◌, ◌*◌, ◌/◌, min, ◌≤◌, ◌<◌}
use mathlib.Core.Path.{◌≡◌, refl, sym, ap, subst, ◌∙◌}
use mathlib.Core.Bool.{Bool, true, false, true≢false}
use mathlib.Core.List.Memᴰ
use mathlib.Core.List.{List, ◌++◌, Memᴰ}
use native.Mathlib.Omega.{arith}
use native.Mathlib.Nat.{suc-mul, le_trans}
use native.Mathlib.Decide.{dec_le}
use lib.ListN.{length, length-append, length-drop}
use lib.Seq.{get_or-drop}
use Rattle.walk.specs.Refusals.{fails, passes}
use Rattle.walk.specs.Rows.{Lists, shortest, row_at, root}
use Rattle.walk.specs.Answers.{HopLength, floor_best, latest}
use Rattle.walk.specs.Meaning.{Damage, short, rootless, breaks, OnPath, empty, walked}
use Rattle.walk.specs.declared.record.Record.{Record}
use Rattle.walk.proofs.Paths.{path_length, path_local, latest_local}
use Rattle.walk.proofs.Unique.{path_unique, on_path_unique}
use Rattle.verdicts.specs.Limits.{trie_row_cells, VISITS}
use Rattle.verdicts.specs.Tries.{TrieRow, trie_row, source_record, from_place, at_place}
use Rattle.verdicts.specs.Verdicts.{verdict_number, action_of, verdict_reads}
use Rattle.verdicts.specs.Meaning.{BadTrie, past_list, past_rows, breaks_rule, SourcePath, action_on, VisitsTries, no_more, too_many, broken_off}
use Rattle.verdicts.specs.Meaning.{matched_in, goes_on, called_first, RuleDamage, short_lists, past_all, breaks_dest, breaks_source, TriesWay, RuleTested, Classified, SameTries, SameRows}
use Rattle.verdicts.specs.declared.record.RuleRecord.{RuleRecord}
use Rattle.verdicts.specs.Cases.{Verdict}
use Rattle.verdicts.proofs.Answers.{refusal_bare}
use Rattle.verdicts.proofs.Visits.{placed_length}
use Rattle.verdicts.proofs.Unique.{visits_unique, tries_way_unique, classified_unique}

-- ---- one trie

on_path_few : {rec : Record} {ls : Lists} {a : ℕ} {rs : List ℕ} → OnPath rec ls a rs → length rs ≤ rec.levels
on_path_few (empty z) = omega arith
on_path_few (walked g p) = path_length p

on_path_local : {rec : Record} {ls ls' : Lists} {a : ℕ} {rs : List ℕ} → OnPath rec ls a rs → ((r : ℕ) → Memᴰ r rs → row_at ls r ≡ row_at ls' r)
    → OnPath rec ls' a rs
on_path_local (empty z) same = empty z
on_path_local (walked g p) same = walked g (path_local p same)

-- where a path comes to its end, E rows are there and the root is not missing, 01's rule finds no damage
path_sound : {rec : Record} {ls : Lists} {a : ℕ} {rs : List ℕ} → OnPath rec ls a rs → rec.elements ≤ shortest ls → (root rec ≡ 0 → rec.elements ≡ 0)
    → Damage rec ls a → ⊥
path_sound o fits rooted (short s) = omega arith
path_sound o fits rooted (rootless z g) = omega (arith, rooted z)
path_sound (empty z) fits rooted (breaks g b) = omega arith
path_sound (walked h q) fits rooted (breaks g b) = true≢false (path_unique q b).1

-- so without damage the root is not missing
not_rootless : {rec : Record} {ls : Lists} {a : ℕ} → (Damage rec ls a → ⊥) → root rec ≡ 0 → rec.elements ≡ 0
not_rootless {rec} sound z = elim (dec_le rec.elements 0) [
  | yes e ↦ omega arith
  | no e ↦ absurd (sound (rootless z (omega arith)))
]

-- ---- rows from a place on

pub row_from : (p : ℕ) (ls : Lists) (i : ℕ) → row_at (from_place p ls) i ≡ row_at ls (p + i)
row_from p ls i = rw (get_or-drop p ls.hop i 0, get_or-drop p ls.len i 0, get_or-drop p ls.link i 0, get_or-drop p ls.stride i 0) refl

min_from : (p a b : ℕ) → min (a - p) (b - p) ≡ min a b - p
min_from p a b = omega arith

pub shortest_from : (p : ℕ) (ls : Lists) → shortest (from_place p ls) ≡ shortest ls - p
shortest_from p ls =
    let h = length ls.hop in
    let n = length ls.len in
    let l = length ls.link in
    let s = length ls.stride in
    rw (length-drop p ls.hop, length-drop p ls.len, length-drop p ls.link, length-drop p ls.stride, min_from p l s, min_from p n (min l s), min_from p h (min n (min l s))) refl

left_room : (p e n : ℕ) → p + e ≤ n → e ≤ n - p
left_room p e n h = omega arith

pub room_from : (p e : ℕ) (ls : Lists) → p + e ≤ shortest ls → e ≤ shortest (from_place p ls)
room_from p e ls h = rw (shortest_from p ls) (left_room p e (shortest ls) h)

placed_member : (p : ℕ) {r : ℕ} {rs : List ℕ} → Memᴰ r rs → Memᴰ (p + r) (at_place p rs)
placed_member p (Memᴰ.head e) = Memᴰ.head (ap (λ (x : ℕ). p + x) e)
placed_member p (Memᴰ.tail m) = Memᴰ.tail (placed_member p m)

-- ---- the reads are few

visits_few : {rec : RuleRecord} {ls : Lists} {list : List ℕ} {source f n : ℕ} {ts rows : List ℕ} {a : ℕ} {w : Bool}
    → VisitsTries rec ls list source f n ts rows a w → length rows ≤ f * rec.dest.levels
visits_few no_more = omega arith
visits_few too_many = omega arith
visits_few (broken_off b) = omega arith
visits_few {rec = rec} {list = list} (matched_in {f} {g} {rs} p s) =
    omega (arith, placed_length (trie_row list g).place rs, on_path_few p.path, suc-mul f rec.dest.levels)
visits_few {rec = rec} {list = list} (goes_on {f} {g} {rs} {ts} {rows} p z v) =
    omega (
      arith,
      length-append (at_place (trie_row list g).place rs) rows,
      placed_length (trie_row list g).place rs,
      on_path_few p.path,
      visits_few v,
      suc-mul f rec.dest.levels,
    )

module _ {rec : RuleRecord} {ls : Lists} {list : List ℕ} {dest source most : ℕ} {v : Verdict} (c : Classified rec ls list dest source most v) where
  -- the reads of an accepted classification are the rows on its way
  pub verdict_path : verdict_number v ≡ 0 → {ts rows : List ℕ} {a : ℕ} → TriesWay rec ls list dest source ts rows a
      → (action_of v ≡ a) × (verdict_reads v ≡ length rows)
  verdict_path z w = let t = c.told z in let u = tries_way_unique t.2 w in (u.2, t.3 ∙ ap length u.1)

  pub verdict_few : verdict_reads v ≤ 34 * rec.dest.levels
  verdict_few = elim (dec_le (verdict_number v) 0) [
    | yes z ↦
        let t = c.told (omega arith) in
        let w = t.2 in
        omega (arith, t.3, ap length w.all_rows, length-append w.dest_rows w.source_rows, on_path_few w.dest_path, visits_few w.visits)
    | no z ↦ omega (arith, refusal_bare v (omega arith))
  ]

-- ---- what the verdict depends on

-- the same visiting under other names for its rows and its action
renamed : {rec : RuleRecord} {ls : Lists} {list : List ℕ} {source f n : ℕ} {ts rows rows' : List ℕ} {a a' : ℕ} {w : Bool} → rows ≡ rows' → a ≡ a'
    → VisitsTries rec ls list source f n ts rows a w → VisitsTries rec ls list source f n ts rows' a' w
renamed {rec} {ls} {list} {source} {f} {n} {ts} {rows} {rows'} {a} {a'} {w} d e v =
    subst (λ (x : ℕ). VisitsTries rec ls list source f n ts rows' x w) e (subst (λ (x : List ℕ). VisitsTries rec ls list source f n ts x a w) d v)

module _ (rec : RuleRecord) (ls ls' : Lists) (list list' : List ℕ) (source : ℕ) (fits : rec.elements ≤ shortest ls') where
  abbrev own : TrieRow → Record
  own t = source_record rec.dest.width rec.dest.levels t

  -- one trie, whose row is one in both lists
  module _ (g : ℕ) (rs : List ℕ) (p : SourcePath rec ls list source g rs) (listed : g < length list' / trie_row_cells) (row : trie_row list g ≡ trie_row list' g)
      (same : SameRows (at_place (trie_row list g).place rs) ls ls') where
    within : (trie_row list g).place + (trie_row list g).elements ≤ rec.elements
    within = elim (dec_le ((trie_row list g).place + (trie_row list g).elements) rec.elements) [
      | yes q ↦ q
      | no q ↦ absurd (p.sound (past_rows (omega arith)))
    ]

    same_from : SameRows rs (from_place (trie_row list g).place ls) (from_place (trie_row list g).place ls')
    same_from r m =
        let q = (trie_row list g).place in row_from q ls r ∙ same (q + r) (placed_member q m) ∙ sym (row_from q ls' r)

    path' : OnPath (own (trie_row list g)) (from_place (trie_row list g).place ls') source rs
    path' = on_path_local p.path same_from

    sound' : BadTrie rec ls' list' source g → ⊥
    sound' (past_list q) = omega arith
    sound' (past_rows q) = p.sound (past_rows (subst (λ (t : TrieRow). rec.elements < t.place + t.elements) (sym row) q))
    sound' (breaks_rule d) =
        path_sound path' (room_from (trie_row list g).place (trie_row list g).elements ls' (le_trans within fits)) (not_rootless (λ b. p.sound (breaks_rule b)))
        (subst (λ (t : TrieRow). Damage (own t) (from_place t.place ls') source) (sym row) d)

    source_local : SourcePath rec ls' list' source g rs
    source_local = record { sound = sound'; path = subst (λ (t : TrieRow). OnPath (own t) (from_place t.place ls') source rs) row path' }

    action_local : action_on rec ls' list' source g rs ≡ action_on rec ls list source g rs
    action_local =
        sym (ap (λ (b : HopLength). b.hop)
        (latest_local (row_at (from_place (trie_row list g).place ls)) (row_at (from_place (trie_row list g).place ls')) (floor_best (trie_row list g).floor) rs same_from)
        ∙ ap (λ (t : TrieRow). (latest (row_at (from_place t.place ls')) (floor_best t.floor) rs).hop) row)

    place_local : at_place (trie_row list' g).place rs ≡ at_place (trie_row list g).place rs
    place_local = ap (λ (t : TrieRow). at_place t.place rs) (sym row)

  visits_local : {f n : ℕ} {ts rows : List ℕ} {a : ℕ} {w : Bool} → w ≡ true → VisitsTries rec ls list source f n ts rows a w → SameTries ts list list'
      → SameRows rows ls ls' → VisitsTries rec ls' list' source f n ts rows a w
  visits_local e no_more st sr = no_more
  visits_local e too_many st sr = too_many
  visits_local e (broken_off b) st sr = absurd (true≢false (sym e))
  visits_local e (matched_in {f} {g} {rs} p s) st sr =
      let t = st g (Memᴰ.head refl) in
      let a = action_local g rs p t.0 t.1 sr in
      renamed (place_local g rs p t.0 t.1 sr) a (matched_in (source_local g rs p t.0 t.1 sr) (omega (arith, a, s)))
  visits_local e (goes_on {f} {g} {rs} {ts} {rows} {a} {w} p z v) st sr =
      let t = st g (Memᴰ.head refl) in
      let here : SameRows (at_place (trie_row list g).place rs) ls ls' = λ i m. sr i (Memᴰ.append_left rows m) in
      let below = visits_local e v (λ h m. st h (Memᴰ.tail m)) (λ i m. sr i (Memᴰ.append_right (at_place (trie_row list g).place rs) m)) in
      let next : (trie_row list g).next ≡ (trie_row list' g).next = ap (λ (r : TrieRow). r.next) t.1 in
      renamed (ap (λ (xs : List ℕ). xs ++ rows) (place_local g rs p t.0 t.1 here)) refl
      (goes_on (source_local g rs p t.0 t.1 here) (action_local g rs p t.0 t.1 here ∙ z)
      (subst (λ (n : ℕ). VisitsTries rec ls' list' source f n ts rows a w) next below))

-- one record, two addresses; lists that have E rows and agree at the rows on the way, and a list of tries that agrees at the tries visited
module _ {rec : RuleRecord} {ls : Lists} {list : List ℕ} {dest source most : ℕ} {v : Verdict} (c : Classified rec ls list dest source most v)
    (accepted : verdict_number v ≡ 0) {ts rows : List ℕ} {a : ℕ} (way : TriesWay rec ls list dest source ts rows a)
    (other : Lists) (list' : List ℕ) (fits : rec.elements ≤ shortest other) (st : SameTries ts list list') (sr : SameRows rows ls other) where
  -- the first verdict is accepted: nothing is damaged
  undamaged : RuleDamage rec ls list dest source → ⊥
  undamaged = go c.tested accepted
    where
      go : {n : ℕ} → RuleTested rec ls list dest source most n → n ≡ 0 → RuleDamage rec ls list dest source → ⊥
      go (fails o) z = absurd (omega arith)
      go (passes x (fails o)) z = absurd (omega arith)
      go (passes x (passes y (fails o))) z = absurd (omega arith)
      go (passes x (passes y (passes w (fails d)))) z = absurd (omega arith)
      go (passes x (passes y (passes w (passes s e)))) z = s

  same_dest : SameRows way.dest_rows ls other
  same_dest i m = sr i (rw way.all_rows (Memᴰ.append_left way.source_rows m))

  same_source : SameRows way.source_rows ls other
  same_source i m = sr i (rw way.all_rows (Memᴰ.append_right way.dest_rows m))

  called_local : called_first rec ls list dest source way.dest_rows ≡ called_first rec other list' dest source way.dest_rows
  called_local =
      ap (λ (b : HopLength). b.hop) (latest_local (row_at ls) (row_at other) (floor_best rec.dest.floor) way.dest_rows same_dest)

  way_local : TriesWay rec other list' dest source ts rows a
  way_local = record {
    dest_rows = way.dest_rows;
    source_rows = way.source_rows;
    dest_path = on_path_local way.dest_path same_dest;
    visits = subst (λ (n : ℕ). VisitsTries rec other list' source VISITS n ts way.source_rows a true) called_local
        (visits_local rec ls other list list' source fits refl way.visits st same_source);
    all_rows = way.all_rows;
  }

  own_few : rec.dest.elements ≤ rec.elements
  own_few = elim (dec_le rec.dest.elements rec.elements) [
    | yes q ↦ q
    | no q ↦ absurd (undamaged (past_all (omega arith)))
  ]

  undamaged' : RuleDamage rec other list' dest source → ⊥
  undamaged' (short_lists d) = omega arith
  undamaged' (past_all d) = undamaged (past_all d)
  undamaged' (breaks_dest d) =
      path_sound way_local.dest_path (omega (arith, own_few)) (not_rootless (λ b. undamaged (breaks_dest b))) d
  undamaged' (breaks_source {rs = rs} {ts = ts'} {rows = rows'} {a = b} o u) =
      let e : rs ≡ way_local.dest_rows = on_path_unique o way_local.dest_path in
      let x = subst (λ (xs : List ℕ). VisitsTries rec other list' source VISITS (called_first rec other list' dest source xs) ts' rows' b false) e u in
      true≢false (visits_unique way_local.visits x).3

  tested' : {n : ℕ} → RuleTested rec ls list dest source most n → n ≡ 0 → RuleTested rec other list' dest source most n
  tested' (fails o) z = absurd (omega arith)
  tested' (passes x (fails o)) z = absurd (omega arith)
  tested' (passes x (passes y (fails o))) z = absurd (omega arith)
  tested' (passes x (passes y (passes w (fails d)))) z = absurd (omega arith)
  tested' (passes x (passes y (passes w (passes s e)))) z = passes x (passes y (passes w (passes undamaged' e)))

  -- then both verdicts are equal
  pub verdict_alone : {v' : Verdict} → Classified rec other list' dest source most v' → v ≡ v'
  verdict_alone c' =
      let u = verdict_path c accepted way in
      classified_unique (record {
        tested = tested' c.tested accepted;
        told = λ z. (ts, rows, subst (λ (x : ℕ). TriesWay rec other list' dest source ts rows x) (sym u.0) way_local, u.1);
        case = c.case;
      }) c'
