use Rattle.std.proofs.Common.{◌≡◌}
use Rattle.std.specs.List.{range_with_len}
use Rattle.rows.specs.Tables.{GivesOfNumbers}
use Rattle.rows.proofs.Rows.{filled}
use Rattle.rows.proofs.table.Table.tabulate.Given as goal

-- the first i places are written, the others are as they were
abbrev pub invariant-loop-i : goal.invariant-loop-i
invariant-loop-i g l = (h : _) → GivesOfNumbers g.F.Fn l.make h → l.places ≡ filled h (range_with_len 0 l.within) l.initial.places l.i
