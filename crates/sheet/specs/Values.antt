-- An entry's bits as a value of the table (01, "The table"): "a W-bit number, leftmost bit first, and all bits after the
-- first `length` bits are 0". Bits longer than the width have no such value, nor have any where W is no width: 0 stands
-- for it, and the length as it is has the build refuse the entry by 4, in its own order (a width that is none by 1).
use Rattle.std.specs.Prelude.{◌||◌, cond, List, ℕ, ◌-◌, ◌*◌, ◌^◌, length, ltb}
use Rattle.table.specs.Limits.{width_limit}
use Rattle.table.specs.Table.{at}
use Rattle.table.specs.Lists.{listed}

-- the number with the l leading bits b
unfoldable pub value_of : (W b l : ℕ) → ℕ
value_of W b l = cond (ltb width_limit W || ltb W l) 0 (b * 2 ^ (W - l))

-- the value list of the entries
unfoldable pub values_of : (W : ℕ) (bits lengths : List ℕ) → List ℕ
values_of W bits lengths = listed (λ i. value_of W (at bits i) (at lengths i)) (length bits)
