use Rattle.std.proofs.Common.{◌≡◌, ◌%◌, length, vec_items}
use Rattle.console.proofs.Gathering.{following}
use Rattle.commands.specs.Hex.{bytes_of}
use Rattle.commands.proofs.hex.hex.Given as goal

-- The bytes found, followed by those of the digits that are left, are the bytes of the word; what is left is pairs.
abbrev pub invariant-loop-digits : goal.invariant-loop-digits
invariant-loop-digits l = (following (vec_items l.found) (bytes_of l.digits) ≡ bytes_of l.fn.word) × (length l.digits % 2 ≡ 0)

abbrev pub decreases-loop-digits : goal.decreases-loop-digits
decreases-loop-digits l = length l.digits
