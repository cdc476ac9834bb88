-- The layer, the number and the place of each fault of an opening. Assumes nothing.
use Rattle.std.specs.Prelude.{ℕ}
use Rattle.roll.specs.Faults as roll
use Rattle.roll.specs.declared.fault.RollFault.TheVariants.{Image, Field}
use Rattle.book.specs.declared.checks.RollCheck.{RollCheck}
use Rattle.book.specs.declared.checks.RollCheck.TheVariants.{ParticipantTwice, AccountTwice, OwnerUnknown, AboveLimit}
use Rattle.book.specs.declared.fault.Layer.{Layer}
use Rattle.book.specs.declared.fault.Layer.TheVariants as layer
use Rattle.book.specs.declared.fault.OpenFault.{OpenFault}
use Rattle.book.specs.declared.fault.OpenFault.TheVariants.{Roll, Record}

-- The layer that found the fault.
abbrev pub layer_of : OpenFault → Layer
layer_of (Roll (Image fault)) = layer.Image
layer_of (Roll (Field place)) = layer.Roll
layer_of (Record check place) = layer.Book

-- The number of a check that a record fails.
abbrev pub check_number : RollCheck → ℕ
check_number ParticipantTwice = 15
check_number AccountTwice = 15
check_number OwnerUnknown = 16
check_number AboveLimit = 17

-- The number by which a fault is told.
abbrev pub number_of : OpenFault → ℕ
number_of (Roll fault) = roll.number_of fault
number_of (Record check place) = check_number check

-- A byte of the image for the layers below, a record's number in its table for the book's own.
abbrev pub place_of : OpenFault → ℕ
place_of (Roll fault) = roll.place_of fault
place_of (Record check place) = place
