-- What a console keeps, as contracts see it. Assumes nothing.
use Rattle.std.specs.Option.{option_map}
use Rattle.book.specs.Model.{model}
use Rattle.book_console.specs.declared.desk.Console.TheInside.{Inside}
use Rattle.book_console.specs.Desk.{Desk}

-- Of its book a contract sees what the book's contracts say of it.
abbrev pub desk_of : Inside → Desk
desk_of console = record {
  explaining = console.splits;
  basis = console.basis;
  places = console.places;
  book = option_map model console.book;
}
