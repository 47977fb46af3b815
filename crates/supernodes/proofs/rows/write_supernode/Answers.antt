use mathlib.Core.Path.{refl}
use Rattle.supernodes.proofs.Marking.{supernode_places, supernode_links, supernode_hops, supernode_put}
use Rattle.supernodes.proofs.rows.write_supernode.Goals as goal

pub places-p-requires : goal.places-p-requires
places-p-requires c = supernode_places c.args.nodes.now c.args.i c.asked.ensures _ _ _ _ c.requires

pub internal_map-own-requires : goal.internal_map-own-requires
internal_map-own-requires c =
    supernode_links c.args.nodes.now c.args.i c.asked.ensures _ _ _ _ c.places-p.ensures c.requires

pub put_hops-requires : goal.put_hops-requires
put_hops-requires c =
    rw c.write_row.ensures.hops (supernode_hops c.args.nodes.now c.args.i c.asked.ensures _ _ _ _ c.places-p.ensures c.requires)

pub returns-clause-wrote : goal.returns-clause-wrote
returns-clause-wrote c =
    supernode_put c.args.nodes.now c.args.i c.asked.ensures _ _ _ _ c.places-p.ensures c.internal_map-own.ensures c.external_map-below.ensures
    c.write_row.ensures.wrote refl (rw c.write_row.ensures.hops at c.put_hops.ensures)
