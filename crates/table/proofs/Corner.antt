-- The discarded corner: it is a table of a gateway with one link, and its longest matches.
use mathlib.Core.Path.{◌≡◌, refl}
use mathlib.Core.List.{map}
use Rattle.table.specs.Limits.{outside}
use Rattle.table.specs.Prefix.{start, starts_with, prefix_bad}
use Rattle.table.specs.Entry.{unlinked, hop_refused, below}
use Rattle.table.specs.Refusals.{outcome}
use Rattle.table.specs.Table.{at, shape_bad, tests_at, each_tests, order_bad, entry_bad, list_tests, table_tests, check_of}
use Rattle.table.specs.Longest.{longer, best, of_winner, matches, winner, longest, matched}
use Rattle.table.specs.Corner.{corner_values, corner_lengths, corner_hops, corner_addresses, corner_matches, corner_matched}
use Rattle.std.specs.Prelude.{Ok, Err}
use Rattle.table.specs.declared.refusal.Refusal.TheVariants.{BadEntry}

pub corner_accepted : (check_of 4 1 corner_values corner_lengths corner_hops ≡ Ok tt) × (check_of 4 0 corner_values corner_lengths corner_hops ≡ Err (BadEntry 0))
unfolding outside prefix_bad unlinked hop_refused below outcome shape_bad tests_at each_tests order_bad entry_bad list_tests table_tests check_of
corner_accepted = (refl, refl)

pub corner_matches_lem : (map (longest 4 (at corner_values) (at corner_lengths) (at corner_hops) 2) corner_addresses ≡ corner_matches)
    × (map (matched 4 (at corner_values) (at corner_lengths) 2) corner_addresses ≡ corner_matched)
unfolding longest matched winner matches best longer of_winner starts_with start
corner_matches_lem = (refl, refl)
