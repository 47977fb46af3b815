-- What lent answer lists hold, as columns; and that they are still the same four lists.
use Rattle.walk.specs.Lent.{SameList}
use Rattle.gateway.specs.Batch.{Columns, columns}
use Rattle.gateway.specs.declared.looking.AnswerLists.{AnswerLists}

abbrev pub answers_in : AnswerLists → Columns
answers_in a = columns a.number.now a.hop.now a.length.now a.reads.now

pub record SameAnswers (a a' : AnswerLists) : Type 0 where
  pub number : SameList a.number a'.number
  pub hop : SameList a.hop a'.hop
  pub length : SameList a.length a'.length
  pub reads : SameList a.reads a'.reads
