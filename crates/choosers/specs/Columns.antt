-- What a column of lent numbers holds, number by number.
use Rattle.std.specs.Prelude.{ℕ}
use Rattle.choosers.specs.Costs.{column}
use Rattle.choosers.specs.declared.costs.Column.{Column}

abbrev pub numbers : Column → ℕ → ℕ
numbers c j = column c.first c.pitch c.list.now j
