use Rattle.std.proofs.Common.{◌≤◌}
use Rattle.rows.specs.Filling.{GivesOfEach}
use Rattle.rows.proofs.Rows.{Counted}
use Rattle.rows.proofs.counting.count_where.Given as goal

-- no more are counted than were tested, and of the first so many those that pass
abbrev pub invariant-loop-item : goal.invariant-loop-item
invariant-loop-item g l = (l.count ≤ l.item-index) × ((h : _) → GivesOfEach g.F.Fn l.test h → Counted h l.row l.item-index l.count)
