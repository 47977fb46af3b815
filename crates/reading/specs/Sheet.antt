-- What a good text says (01, "The tablet program"): "width, kind, levels, entries, then bits and hop for each entry, queries, then an
-- address line each"; 02, [7]: "the program text gains links= after levels=".
use Rattle.std.specs.Prelude.{List, ℕ}
use Rattle.choosers.specs.declared.chooser.Kind.{Kind}

-- bits and addresses as the numbers that their digits spell, with the counts of the digits
pub record Sheet : Type 0 where
  pub width : ℕ
  pub kind : Kind
  pub levels : ℕ
  pub links : ℕ
  pub bits : List ℕ
  pub lengths : List ℕ
  pub hops : List ℕ
  pub addresses : List ℕ
  pub places : List ℕ
