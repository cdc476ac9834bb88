use Rattle.std.proofs.Common.{◌≡◌, ◌+◌, ◌++◌, map, length}
use Rattle.std.specs.List.{range_with_len}
use Rattle.rows.specs.Tables.{records, GivesOfNumbers}
use Rattle.rows.proofs.table.Table.push_each.Given as goal

-- so many records were added, and they are what is made of the numbers so far
abbrev pub invariant-loop-i : goal.invariant-loop-i
invariant-loop-i g l = record {
  many : length (records l.self) ≡ length (records l.initial.self) + l.i;
  made : (h : _) → GivesOfNumbers g.F.Fn l.make h → records l.self ≡ records l.initial.self ++ map h (range_with_len 0 l.i);
}
