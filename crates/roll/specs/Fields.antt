-- Fields that are outside their limits, as errors. Assumes nothing.
use Rattle.std.specs.Prelude.{ℕ, Some, None, Ok, Err, Option, Result}
use Rattle.roll.specs.declared.field.FieldFault.{FieldFault}

-- Nothing is wrong, or the field that begins at this byte of its record is outside its limits.
abbrev pub unless_outside : Option ℕ → Result (Unit {0}) FieldFault
unless_outside None = Ok tt
unless_outside (Some offset) = Err (record { offset = offset })
