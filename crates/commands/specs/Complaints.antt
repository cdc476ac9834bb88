-- How it is said that a line tells nothing that can be done. Assumes nothing.
use Rattle.std.specs.Prelude.{ℕ, List, codes}
use Rattle.console.specs.Complaints as line
use Rattle.commands.specs.declared.error.ReadError.{ReadError}
use Rattle.commands.specs.declared.error.ReadError.TheVariants.{Line, NoBook}

abbrev pub complaint : ReadError → List ℕ
complaint (Line error) = line.complaint error
complaint NoBook = codes "no book"
