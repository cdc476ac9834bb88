-- How it is said that a line tells nothing that can be done. Assumes nothing.
use Rattle.std.specs.Prelude.{ℕ, List, codes}
use Rattle.console.specs.declared.error.ReadError.{ReadError}
use Rattle.console.specs.declared.error.ReadError.TheVariants.{Memory, BadCommand, BadNumber}

abbrev pub complaint : ReadError → List ℕ
complaint (Memory error) = codes "out of memory"
complaint BadCommand = codes "bad command"
complaint BadNumber = codes "bad number"
