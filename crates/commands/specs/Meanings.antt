-- What a line may tell, and what an answer of `read` means. Assumes nothing.
use Rattle.std.specs.Prelude.{◌≡◌, ℕ, Bool, List, vec_items, Some, None, Ok, Err, Option, Result}
use Rattle.split.specs.declared.bearer.Stake.{Stake}
use Rattle.console.specs.declared.command.Command as split
use Rattle.console.specs.declared.command.Command.TheVariants as split_command
use Rattle.console.specs.declared.error.ReadError.TheVariants.{Memory, BadCommand, BadNumber}
use Rattle.console.specs.Readings as line
use Rattle.commands.specs.declared.command.Command.{Command}
use Rattle.commands.specs.declared.command.Command.TheVariants as command
use Rattle.commands.specs.declared.error.ReadError.{ReadError}
use Rattle.commands.specs.declared.error.ReadError.TheVariants.{Line, NoBook}
use Rattle.commands.specs.declared.verb.BasisName.{BasisName}

-- What may be ordered: explanations on or off, a split, the basis and the journal's places from now on, an opening
-- from bytes or from the file of a path, the list of funds.
pub data Order : Type 0 where
  explains : Bool → Order
  splits : ℕ → List Stake → Order
  goes_by : BasisName → Order
  journals : ℕ → Order
  opens : List ℕ → Order
  opens_file : List ℕ → Order
  lists_funds : Order

-- What a line may tell: an order, or why there is none.
pub data Meaning : Type 0 where
  nothing : Meaning
  tells : Order → Meaning
  bad_command : Meaning
  no_book : Meaning
  bad_number : Meaning

-- What a line tells that is not about books.
abbrev pub as_split : line.Meaning → Meaning
as_split line.nothing = nothing
as_split (line.explains on) = tells (explains on)
as_split (line.splits sum bearers) = tells (splits sum bearers)
as_split line.bad_command = bad_command
as_split line.bad_number = bad_number

-- What a command orders.
abbrev pub split_order : split.Command → Order
split_order (split_command.Explain on) = explains on
split_order (split_command.Split sum bearers) = splits sum (vec_items bearers)

abbrev pub order : Command → Order
order (command.Split told) = split_order told
order (command.Basis name) = goes_by name
order (command.Journal places) = journals places
order (command.Image bytes) = opens (vec_items bytes)
order (command.Roll path) = opens_file (vec_items path)
order command.Funds = lists_funds

abbrev pub ordered : Command → Meaning
ordered told = tells (order told)

-- What a line means of which this was read: nothing, or an order.
abbrev pub meaning : Option Command → Meaning
meaning None = nothing
meaning (Some told) = ordered told

-- What a line means of which nothing was read. Where memory ran out, nothing is known of the line, and nothing is done.
abbrev pub fault : ReadError → Meaning
fault (Line (Memory error)) = nothing
fault (Line BadCommand) = bad_command
fault (Line BadNumber) = bad_number
fault NoBook = no_book

-- What an answer of `read` means.
abbrev pub read_as : Result (Option Command) ReadError → Meaning
read_as (Ok told) = meaning told
read_as (Err error) = fault error

-- Memory ran out before the line was read.
abbrev pub OutOfMemory : Result (Option Command) ReadError → Type 0
OutOfMemory (Err (Line (Memory error))) = Unit {0}
OutOfMemory _ = ⊥

-- What is known of a line's meaning where nothing was read: which fault the line has, unless memory ran out.
abbrev pub Fails : ReadError → Meaning → Type 0
Fails (Line (Memory error)) m = Unit {0}
Fails (Line BadCommand) m = bad_command ≡ m
Fails (Line BadNumber) m = bad_number ≡ m
Fails NoBook m = no_book ≡ m
