-- The masks of the code are checked against the paths' internal places by one test over the table.
use mathlib.Core.Path.{refl}
use Rattle.pieces.specs.Maps.{mask_of, on_path, map_of, place_level, place_on}
use Rattle.pieces.proofs.Table.{masks_are}
use Rattle.visits.proofs.masks.masks.Goals as goal

pub returns : goal.returns
unfolding mask_of on_path map_of place_level place_on
returns c = masks_are _ refl tt
