use Rattle.std.proofs.Common.{◌≡◌, ◌+◌, ◌*◌, take, drop, Ok}
use Rattle.std.specs.List.{AllZip}
use Rattle.rows.specs.Tables.{records as table_records}
use Rattle.roll.specs.Limits.{first_fault}
use Rattle.roll.proofs.reading.take_in.Given as goal

-- the records so far have no fault, and what they give is in the table
abbrev pub invariant-loop-i : goal.invariant-loop-i
invariant-loop-i g l = record {
  faultless : first_fault g.R.Limited.faulty g.R.Wide.WIDTH (l.from + g.R.Wide.WIDTH * l.i) (drop l.i l.records) ≡ first_fault g.R.Limited.faulty g.R.Wide.WIDTH l.from l.records;
  taken : AllZip (λ r x. g.T.TryFrom.try_from_gives r (Ok x)) (take l.i l.records) (table_records l.table);
}
