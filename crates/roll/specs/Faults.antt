-- The number and the place of each fault. Assumes nothing.
use Rattle.std.specs.Prelude.{ℕ}
use Rattle.image.specs.Faults as image
use Rattle.roll.specs.declared.fault.RollFault.{RollFault}
use Rattle.roll.specs.declared.fault.RollFault.TheVariants.{Image, Field}

-- The number by which each fault is told.
abbrev pub number_of : RollFault → ℕ
number_of (Image fault) = image.number_of fault
number_of (Field place) = 14

-- The byte at which each fault is told.
abbrev pub place_of : RollFault → ℕ
place_of (Image fault) = image.place_of fault
place_of (Field place) = place
