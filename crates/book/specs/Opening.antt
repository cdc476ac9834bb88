-- What opening a book from an image answers. Assumes nothing.
use Rattle.std.specs.Prelude.{◌≡◌, ℕ, ◌+◌, ◌*◌, ◌/◌, ◌%◌, List, Some, None, Ok, Err, Option, Result}
use Rattle.roll.specs.declared.fault.RollFault.{RollFault}
use Rattle.roll.specs.Limits.{roll_of}
use Rattle.roll.specs.Standing.{Standing}
use Rattle.book.specs.declared.checks.RollCheck.{RollCheck}
use Rattle.book.specs.declared.checks.RollCheck.TheVariants.{ParticipantTwice, AccountTwice, OwnerUnknown, AboveLimit}
use Rattle.book.specs.declared.fault.OpenFault.{OpenFault}
use Rattle.book.specs.declared.fault.OpenFault.TheVariants.{Roll, Record}
use Rattle.book.specs.Checks.{first_place}
use Rattle.book.specs.Faults.{number_of, place_of}

-- A check is passed where no record fails it.
abbrev pub passed_unless : RollCheck → Option ℕ → Result (Unit {0}) OpenFault
passed_unless check None = Ok tt
passed_unless check (Some place) = Err (Record check place)

unfoldable pub passed : RollCheck → Standing → Result (Unit {0}) OpenFault
passed check s = passed_unless check (first_place check s)

-- What comes next, unless there was a fault already.
abbrev pub and_then : {Y : Type 0} → Result (Unit {0}) OpenFault → Result Y OpenFault → Result Y OpenFault
and_then (Ok _) next = next
and_then (Err fault) next = Err fault

-- The checks of the records against each other, each over its whole table before the next.
abbrev pub checked : Standing → Result (Unit {0}) OpenFault
checked s =
    and_then (passed ParticipantTwice s)
    (and_then (passed AccountTwice s)
    (and_then (passed OwnerUnknown s)
    (passed AboveLimit s)))

-- The roll that is opened, or the fault of the layer that found one first.
abbrev pub opened : Result Standing RollFault → Result Standing OpenFault
opened (Err fault) = Err (Roll fault)
opened (Ok s) = and_then (checked s) (Ok s)

abbrev pub opening : List ℕ → Result Standing OpenFault
opening bytes = opened (roll_of bytes)

-- What an opening answers: 0, or 10,000 × the refusal's number + its place.
abbrev pub check_value : Result Standing OpenFault → ℕ
check_value (Ok s) = 0
check_value (Err fault) = 10000 * number_of fault + place_of fault

-- The answer tells whether the book would open, and else the refusal's number and place.
abbrev pub Tells : ℕ → Result Standing OpenFault → Type 0
Tells value (Ok s) = value ≡ 0
Tells value (Err fault) = (value / 10000 ≡ number_of fault) × (value % 10000 ≡ place_of fault)
