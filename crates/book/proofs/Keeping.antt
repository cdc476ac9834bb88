-- What every book keeps of its roll: it is one that a book can hold. Assumes nothing.
use Rattle.roll.specs.Holdable.{Holdable}
use Rattle.roll.specs.Standing.{standing}
use Rattle.basis.specs.declared.basis.Basis.{Ghosts}
use Rattle.book.specs.declared.state.Book.{Book}

pub book_holds : {B : Type 0} {g : Ghosts B} (book : Book B g) → Holdable (standing book.roll)
book_holds book = book.holdable
