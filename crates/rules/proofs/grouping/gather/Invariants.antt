-- The loop's invariant: the first i rules are gathered, and each list is as long as it was.
use mathlib.Core.Path.{◌≡◌}
use lib.ListN.{length}
use Rattle.rules.specs.Gathering.{Gathered}
use Rattle.rules.proofs.grouping.gather.Given as goal

abbrev pub invariant-loop-i : goal.invariant-loop-i
invariant-loop-i l = record {
  gathered : Gathered l.dvals l.dlens l.i l.m l.first l.vals l.lens l.nums;
  first : length l.first ≡ length l.initial.first;
  vals : length l.vals ≡ length l.initial.vals;
  lens : length l.lens ≡ length l.initial.lens;
  nums : length l.nums ≡ length l.initial.nums;
}
