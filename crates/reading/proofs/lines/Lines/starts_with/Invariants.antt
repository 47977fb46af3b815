-- The key from its byte i on stands i places on, as all of it stands at the start.
use Rattle.std.proofs.Common.{◌≡◌, ◌+◌}
use lib.ListN.{drop}
use Rattle.reading.specs.Lines.{key_at}
use Rattle.reading.proofs.lines.Lines.starts_with.Given as goal

abbrev pub invariant-loop-i : goal.invariant-loop-i
invariant-loop-i l = key_at (drop l.i l.key) l.self.text.now (l.self.at + l.i) ≡ key_at l.key l.self.text.now l.self.at
