-- What the build's promise means leaves one result: outcome, record, scratch and element lists. Nothing here knows the recurrences'
-- choice but as one that is cheapest.
use Prim.Native.Nat.{ℕ, ◌≤◌}
use mathlib.Core.Path.{◌≡◌, refl, sym, ap, subst, ◌∙◌}
use mathlib.Core.List.{List}
use mathlib.Core.Logic.{⊎_elim}
use lib.ListN.{length}
use Rattle.std.specs.Prelude.{Ok, Err}
use Rattle.table.specs.Refusals.{Outcome, Test, outcome, Gives}
use Rattle.table.proofs.Refusals.{outcome_gives, gives_unique, gives_outcome, refused_not_accepted, accepted_or}
use Rattle.table.specs.Lists.{padded}
use Rattle.strides.specs.Trie.{Trie}
use Rattle.strides.specs.Cheapest.{Kind}
use Rattle.strides.specs.Recurrence.{plain, least_by}
use Rattle.strides.specs.Strides.{Good}
use Rattle.strides.proofs.Cheapest.{least_cheapest, named_unique}
use Rattle.strides.proofs.Follows.{follows_unique}
use Rattle.walk.specs.declared.record.Record.{Record}
use Rattle.walk.specs.Limits.{WIDTH, LEVELS}
use Rattle.walk.specs.Rows.{Lists, shortest, row_at}
use Rattle.layout.specs.Blocks.{Strides, rows_of, row_count, Hold, Agree}
use Rattle.layout.specs.Laid.{table_trie, Laid}
use Rattle.tries.specs.Filling.{LayGives}
use Rattle.choosers.specs.Chooser.{choose_tests}
use Rattle.tries.specs.Build.{build_tests, Builds}
use Rattle.layout.proofs.Agreeing.{same_agree, good_agree, rows_same, count_same}
use Rattle.tries.proofs.Laying.{lay_unique}

pub record_same : (r s : Record) → r.width ≡ s.width → r.levels ≡ s.levels → r.elements ≡ s.elements → r.floor ≡ s.floor → r.strides ≡ s.strides → r ≡ s
record_same r s w l e f t =
    ap (λ (x : ℕ). record { width = x; levels = r.levels; elements = r.elements; floor = r.floor; strides = r.strides }) w
    ∙ ap (λ (x : ℕ). record { width = s.width; levels = x; elements = r.elements; floor = r.floor; strides = r.strides }) l
    ∙ ap (λ (x : ℕ). record { width = s.width; levels = s.levels; elements = x; floor = r.floor; strides = r.strides }) e
    ∙ ap (λ (x : ℕ). record { width = s.width; levels = s.levels; elements = s.elements; floor = x; strides = r.strides }) f
    ∙ ap (λ (x : List ℕ). record { width = s.width; levels = s.levels; elements = s.elements; floor = s.floor; strides = x }) t

module _ (kind : Kind) (W k links : ℕ) (vs ls hs scratch : List ℕ) (rows : Lists) where
  abbrev t : Trie
  t = table_trie W vs ls hs

  abbrev tests : List Test
  tests = choose_tests W k links vs ls hs (length scratch)

  -- what a build laid, as any strides that agree would have
  laid_as : {σ τ : Strides} {rec : Record} {rows' : Lists} → Agree σ τ (table_trie W vs ls hs) 0 k → Laid WIDTH W vs ls hs τ k rec rows'
      → ((i : ℕ) → rec.elements ≤ i → row_at rows' i ≡ row_at rows i) → LayGives σ (table_trie W vs ls hs) k rows rec.elements rows'
  laid_as {σ} {τ} {rows' = rows'} g l later = record {
    count = l.built.elements ∙ ap (λ (n : ℕ). row_count τ n t) l.levels ∙ sym (count_same σ τ t k g);
    wrote = subst (Hold rows' 0) (ap (λ (n : ℕ). rows_of τ n t) l.levels ∙ sym (rows_same σ τ t k g)) l.built.rows;
    after = later;
  }

  module _ {out out' : Outcome} {rec rec' : Record} {s s' : List ℕ} {rows1 rows2 : Lists} (c : Builds kind W k links vs ls hs scratch rows out rec s rows1)
      (d : Builds kind W k links vs ls hs scratch rows out' rec' s' rows2) where
    pub outcome_one : out ≡ out'
    outcome_one =
        let m = least_by plain kind k t in
        gives_unique (build_tests W k links vs ls hs (length scratch) (shortest rows) m) out out' (c.tested m (least_cheapest kind k t)) (d.tested m (least_cheapest kind k t))

    pub scratch_one : s ≡ s'
    scratch_one = go (outcome tests) refl
      where
        go : (o : Outcome) → outcome tests ≡ o → s ≡ s'
        go (Ok tt) e = let a = subst (Gives tests) e (outcome_gives tests) in c.zeroed a ∙ sym (d.zeroed a)
        go (Err r) e = let ne : Gives tests (Ok tt) → ⊥ = λ a. refused_not_accepted (sym e ∙ sym (gives_outcome tests (Ok tt) a)) in c.untouched ne ∙ sym (d.untouched ne)

    accepted_one : out ≡ Ok tt → out' ≡ Ok tt → (rec ≡ rec') × (rows1 ≡ rows2)
    accepted_one e e' =
        let l = c.laid e in
        let l' = d.laid e' in
        let σ = l.0 in
        let L = l.2 in
        let L' = l'.2 in
        let good : Good σ t W 0 k = rw (L.width, L.levels) at L.built.good in
        let g = same_agree σ l'.0 t W 0 k good (follows_unique kind k t σ l'.0 l.1 l'.1) in
        let g' = good_agree σ σ (λ r u. refl) t W 0 k good in
        let one = lay_unique {σ = σ} (laid_as g' L (c.keeps.later e)) (laid_as g L' (d.keeps.later e'))
        (c.keeps.hops ∙ sym d.keeps.hops) (c.keeps.lens ∙ sym d.keeps.lens) (c.keeps.links ∙ sym d.keeps.links) (c.keeps.strides ∙ sym d.keeps.strides) in
        let n = c.named e in
        let n' = d.named e' in
        let strides = n.2 ∙ ap (padded LEVELS) (named_unique kind k t n.0 n'.0 n.1 n'.1) ∙ sym n'.2 in
        (record_same rec rec' (L.width ∙ sym L'.width) (L.levels ∙ sym L'.levels) one.0 (L.floor ∙ sym L'.floor) strides, one.1)

    refused_one : (out ≡ Ok tt → ⊥) → (out' ≡ Ok tt → ⊥) → (rec ≡ rec') × (rows1 ≡ rows2)
    refused_one ne ne' =
        let r = c.keeps.refused ne in
        let r' = d.keeps.refused ne' in
        let z = r.0 in
        let z' = r'.0 in (
          record_same rec rec' (z.width ∙ sym z'.width) (z.levels ∙ sym z'.levels) (z.elements ∙ sym z'.elements) (z.floor ∙ sym z'.floor) (z.strides ∙ sym z'.strides),
          r.1 ∙ sym r'.1,
        )

    pub builds_unique : (out ≡ out') × (rec ≡ rec') × (s ≡ s') × (rows1 ≡ rows2)
    builds_unique =
        let o = outcome_one in
        let rest : (rec ≡ rec') × (rows1 ≡ rows2)
        = ⊎_elim (λ (e : out ≡ Ok tt). accepted_one e (sym o ∙ e)) (λ (ne : out ≡ Ok tt → ⊥). refused_one ne (λ (e : out' ≡ Ok tt). ne (o ∙ e))) (accepted_or out) in
        (o, rest.0, scratch_one, rest.1)
