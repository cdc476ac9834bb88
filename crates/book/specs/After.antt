-- How a book stands after an opening. Assumes nothing.
use Rattle.std.specs.Prelude.{Ok, Err, Result}
use Rattle.roll.specs.Standing.{Standing}
use Rattle.book.specs.declared.fault.OpenFault.{OpenFault}
use Rattle.book.specs.Model.{Model, fresh}

-- Afresh, on the basis and the roll that are given; refused, as it was.
abbrev pub model_after : {B : Type 0} → Result Standing OpenFault → B → Model B → Model B
model_after (Ok s) basis before = fresh basis s
model_after (Err fault) basis before = before
