-- What the console keeps from line to line. Assumes nothing.
use Rattle.std.specs.Prelude.{ℕ, Bool, false, List, is_some, Some, None, Ok, Err, Option, Result}
use Rattle.commands.specs.declared.verb.BasisName.{BasisName}
use Rattle.commands.specs.declared.verb.BasisName.TheVariants as named
use Rattle.commands.specs.Meanings.{Order, explains, splits, goes_by, journals, opens, opens_file, lists_funds, Meaning, nothing, tells, bad_command, no_book, bad_number}
use Rattle.roll.specs.Standing.{Standing}
use Rattle.basis.specs.declared.commitment.Commitment.{Commitment}
use Rattle.book.specs.declared.fault.OpenFault.{OpenFault}
use Rattle.book.specs.Model.{Model, fresh}
use Rattle.book.specs.Opening.{opening}
use Rattle.book_console.specs.Bases.{basis_called}

-- Whether explanations are printed, the basis of the next opening, how many places of the journal calls may use, and the
-- book, which is there from the first accepted opening on.
pub record Desk : Type 0 where
  pub explaining : Bool
  pub basis : BasisName
  pub places : ℕ
  pub book : Option (Model Commitment)

-- At first no explanations are printed, books go by commitment, calls may use 4,096 places of the journal, and there is no
-- book.
abbrev pub starting : Desk
starting = record { explaining = false; basis = named.Commitment; places = 4096; book = None }

-- Whether there is a book.
abbrev pub has_book : Desk → Bool
has_book desk = is_some desk.book

-- The book after an opening: afresh on the basis and the roll that are given; refused, as it was.
abbrev pub book_after : Result Standing OpenFault → Commitment → Option (Model Commitment) → Option (Model Commitment)
book_after (Ok s) basis before = Some (fresh basis s)
book_after (Err fault) basis before = before

-- What is kept after an opening from these bytes.
abbrev pub kept_open : List ℕ → Desk → Desk
kept_open bytes desk = record {
  explaining = desk.explaining;
  basis = desk.basis;
  places = desk.places;
  book = book_after (opening bytes) (basis_called desk.basis) desk.book;
}

-- What is kept after an opening from a file, which may be none that can be read.
abbrev pub kept_file : Option (List ℕ) → Desk → Desk
kept_file None desk = desk
kept_file (Some bytes) desk = kept_open bytes desk

-- What is kept after an order, which may come with the bytes of the file that it names.
abbrev pub kept_by : Order → Option (List ℕ) → Desk → Desk
kept_by (explains on) file desk = record { explaining = on; basis = desk.basis; places = desk.places; book = desk.book }
kept_by (splits sum bearers) file desk = desk
kept_by (goes_by name) file desk = record { explaining = desk.explaining; basis = name; places = desk.places; book = desk.book }
kept_by (journals places) file desk = record { explaining = desk.explaining; basis = desk.basis; places = places; book = desk.book }
kept_by (opens bytes) file desk = kept_open bytes desk
kept_by (opens_file path) file desk = kept_file file desk
kept_by lists_funds file desk = desk

-- What is kept after a line: all of it, unless the line tells an order.
abbrev pub kept_after : Meaning → Option (List ℕ) → Desk → Desk
kept_after nothing file desk = desk
kept_after (tells order) file desk = kept_by order file desk
kept_after bad_command file desk = desk
kept_after no_book file desk = desk
kept_after bad_number file desk = desk
