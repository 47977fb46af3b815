use mathlib.Core.Path.{◌≡◌, ap, ◌∙◌}
use mathlib.Core.Bool.{not}
use Prim.Native.Nat.{ℕ, ◌+◌, ◌≤◌}
use native.Mathlib.Omega.{arith}
use lib.ListN.{drop, length}
use Rattle.std.specs.List.{prefix_len}
use Rattle.std.proofs.lemmas.List.{length-drop}
use Rattle.std.proofs.lemmas.List.Sums.{prefix_len-le-length}
use Rattle.cases.specs.Numerals.{between}
use Rattle.cases.proofs.Reading.{seek_passes}
use Rattle.cases.proofs.text.Text.seek.Goals as goal

pub overflow_add-self : goal.overflow_add-self
overflow_add-self c =
    let n : c.outside.result ≤ length c.rest.result.now = rw c.outside.ensures (prefix_len-le-length _ _) in
    let l : length c.rest.result.now ≡ length (drop c.args.self.now.at c.args.self.now.bytes.now) = ap length c.rest.ensures in
    omega (arith, n, l, length-drop c.args.self.now.at c.args.self.now.bytes.now)

pub returns : goal.returns
returns c =
    let n : c.outside.result ≡ prefix_len (λ d. not (between c.args.low c.args.high d)) (drop c.args.self.now.at c.args.self.now.bytes.now) = rw c.rest.ensures at c.outside.ensures in
    ap (λ (p : ℕ). record c.args.self.now { at = p })
    (ap (λ (k : ℕ). c.args.self.now.at + k) n ∙ seek_passes c.args.low c.args.high (drop c.args.self.now.at c.args.self.now.bytes.now) c.args.self.now.at)
