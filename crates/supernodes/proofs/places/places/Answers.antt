use mathlib.Core.Path.{refl}
use native.Mathlib.Omega.{arith}
use lib.ListN.{replicate}
use Rattle.supernodes.specs.Spots.{all_places}
use Rattle.supernodes.proofs.Spots.{place_first, place_fits, place_next}
use Rattle.supernodes.proofs.places.places.Goals as goal

pub loop-i-init : goal.loop-i-init
loop-i-init c = place_first _ _ (replicate all_places 0) refl

pub asked-v-requires : goal.asked-v-requires
asked-v-requires c = let L = c.loop-i.invariant in (place_fits L (omega (arith, c.loop-i-test.true)) c.requires, omega arith)

pub loop-i-preserved : goal.loop-i-preserved
loop-i-preserved c = let L = c.loop-i.invariant in place_next L (omega (arith, c.loop-i-test.true)) c.asked-v.ensures (omega arith)
