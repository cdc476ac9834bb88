-- The text that answers a line. Assumes nothing.
use Rattle.std.specs.Prelude.{ℕ, List, [], ◌++◌, Some, None, Option}
use Rattle.std.specs.List.{flat_map}
use Rattle.console.specs.Answers.{split_text}
use Rattle.commands.specs.Meanings.{Order, explains, splits, goes_by, journals, opens, opens_file, lists_funds, Meaning, nothing, tells, bad_command, no_book, bad_number}
use Rattle.basis.specs.declared.commitment.Commitment.{Commitment}
use Rattle.book.specs.Model.{Model, standing_of}
use Rattle.book.specs.Opening.{opening, check_value}
use Rattle.book_console.specs.Desk.{Desk}
use Rattle.book_console.specs.Lines.{plain_line, opening_line, check_line, funds_line}

-- What is said of an opening: whether it is accepted, then what the check answers for the same bytes.
abbrev pub opening_text : List ℕ → List ℕ
opening_text bytes = opening_line (opening bytes) ++ check_line (check_value (opening bytes))

-- What is said of the file that an order names.
abbrev pub file_text : Option (List ℕ) → List ℕ
file_text None = plain_line "bad file"
file_text (Some bytes) = opening_text bytes

-- What is said of the funds of a book: a line for each account in the order of the roll.
abbrev pub funds_text : Option (Model Commitment) → List ℕ
funds_text None = plain_line "no book"
funds_text (Some book) = flat_map funds_line (standing_of book).accounts

-- What is said of an order.
abbrev pub order_text : Order → Option (List ℕ) → Desk → List ℕ
order_text (explains on) file desk = []
order_text (splits sum xs) file desk = split_text desk.explaining sum xs
order_text (goes_by name) file desk = []
order_text (journals places) file desk = []
order_text (opens bytes) file desk = opening_text bytes
order_text (opens_file path) file desk = file_text file
order_text lists_funds file desk = funds_text desk.book

-- What is said of what a line tells.
abbrev pub text_of : Meaning → Option (List ℕ) → Desk → List ℕ
text_of nothing file desk = []
text_of (tells order) file desk = order_text order file desk
text_of bad_command file desk = plain_line "bad command"
text_of no_book file desk = plain_line "no book"
text_of bad_number file desk = plain_line "bad number"
