use Rattle.std.proofs.Common.{rules, subst, length, ◌-◌}
use Rattle.std.specs.Io.KnownBytes.{Consumes}
use Rattle.std.proofs.KnownBytes.{Consumes-trans}
use Rattle.tablet.proofs.InPlace.{take-put_mid}
use Rattle.tablet.proofs.read_text.Goals as goal

pub loop-n-preserved : goal.loop-n-preserved
loop-n-preserved g c =
    let l = c.loop-n in
    let joined = take-put_mid l.n (length l.page - l.n) c.in_ok-k.k l.page c.read.new.buf l.invariant.1 c.in_ok-k.ensures.bound.0 in
    (search rules, search rules, subst (Consumes _ _) joined (Consumes-trans _ _ _ _ _ l.invariant.2 c.in_ok-k.ensures.bytes.0))
