-- Both ends of the limits of a width and of a table's entries, and which hops are bad, by computation (01, refusals 1, 3 and 4; 02,
-- [2], [4] and [7]).
use Rattle.std.specs.Prelude.{◌≡◌, refl, true, false}
use Rattle.table.specs.Limits.{width_limit, outside}
use Rattle.table.specs.Entry.{unlinked, hop_refused}
use Rattle.table.specs.Table.{shape_bad}

width_edges : (outside 0 width_limit ≡ true) × (outside 1 width_limit ≡ false) × (outside 32 width_limit ≡ false) × (outside 33 width_limit ≡ true)
unfolding outside
width_edges = (refl, refl, refl, refl)

-- three lists of one length pass up to 65,536; one that is shorter or longer does not
entry_edges : (shape_bad 0 0 0 ≡ false) × (shape_bad 65536 65536 65536 ≡ false) × (shape_bad 65537 65537 65537 ≡ true)
    × (shape_bad 2 1 2 ≡ true) × (shape_bad 2 2 3 ≡ true)
unfolding shape_bad
entry_edges = (refl, refl, refl, refl, refl)

-- a gateway with 3 links has hops 1 to 3 and discards (of all numbers: `refused_exactly`, table Table)
hop_edges : (hop_refused 3 0 ≡ true) × (hop_refused 3 1 ≡ false) × (hop_refused 3 3 ≡ false) × (hop_refused 3 4 ≡ true)
    × (hop_refused 3 65534 ≡ true) × (hop_refused 3 65535 ≡ false)
unfolding unlinked hop_refused
hop_edges = (refl, refl, refl, refl, refl, refl)

-- both ends of the number of links: with none it has discards alone, with 65,534 or 65,535 every hop but 0
link_edges : (hop_refused 0 1 ≡ true) × (hop_refused 0 65535 ≡ false) × (hop_refused 65533 65534 ≡ true)
    × (hop_refused 65534 65534 ≡ false) × (hop_refused 65535 65534 ≡ false) × (hop_refused 65535 0 ≡ true)
unfolding unlinked hop_refused
link_edges = (refl, refl, refl, refl, refl, refl)
