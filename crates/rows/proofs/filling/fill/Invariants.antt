use Rattle.std.proofs.Common.{◌≡◌}
use Rattle.rows.specs.Filling.{GivesOfEach}
use Rattle.rows.proofs.Rows.{filled}
use Rattle.rows.proofs.filling.fill.Given as goal

-- the first i places are written, the others are as they were
abbrev pub invariant-loop-i : goal.invariant-loop-i
invariant-loop-i g l = (h : _) → GivesOfEach g.F.Fn l.make h → l.places ≡ filled h l.within l.initial.places l.i
