use Prim.Native.Nat.{◌-◌, ◌*◌}
use native.Mathlib.Omega.{arith}
use lib.ListN.{length-take}
use Rattle.table.specs.Refusals.{outcome_of}
use Rattle.choosers.specs.Scratch.{ROW}
use Rattle.rules.proofs.Planning.{is_accepted}
use Rattle.rules.proofs.Lending.{accepted_at, lays_at}
use Rattle.rules.proofs.laying.lay_lists.Goals as goal

pub unwrap-requires : goal.unwrap-requires
unwrap-requires c =
    let long = length-take (c.nodes_of-words.result * ROW - 0) c.args.scratch.now in
    is_accepted c.build_lists-built.result
    (accepted_at c.requires (omega (arith, long, c.nodes_of-words.ensures, c.requires.roomy)) c.build_lists-built.ensures)

pub returns : goal.returns
unfolding outcome_of
returns c =
    let long = length-take (c.nodes_of-words.result * ROW - 0) c.args.scratch.now in
    lays_at c.requires (omega (arith, long, c.nodes_of-words.ensures, c.requires.roomy)) (rw c.unwrap.ensures at c.build_lists-built.ensures)
