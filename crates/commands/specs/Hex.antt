-- Bytes told by pairs of hexadecimal digits. Assumes nothing.
use Rattle.std.specs.Prelude.{ℕ, ◌+◌, ◌-◌, ◌*◌, Bool, cond, ◌&&◌, List, [], ◌∷◌, Some, None, Option, nat_le}
use Rattle.console.specs.Lists.{with_first}
use Rattle.console.specs.Numerals.{digit}

-- The bytes from a first to a last.
abbrev pub between : ℕ → ℕ → ℕ → Bool
between first last b = nat_le first b && nat_le b last

-- The value of a digit: `0` to `9`, then `A` to `F` or `a` to `f`.
abbrev pub digit_value : ℕ → Option ℕ
digit_value b =
    cond (digit b) (Some (b - 48))
    (cond (between 65 70 b) (Some (b - 65 + 10))
    (cond (between 97 102 b) (Some (b - 97 + 10)) None))

-- The byte of two digits, the first of which weighs sixteen times as much.
abbrev pub byte_of : Option ℕ → Option ℕ → Option ℕ
byte_of None low = None
byte_of (Some high) None = None
byte_of (Some high) (Some low) = Some (high * 16 + low)

-- The bytes that a word is, a pair of digits each; none where a byte is no digit or has no other beside it.
unfoldable pub bytes_of : List ℕ → Option (List ℕ)
bytes_of [] = Some []
bytes_of (a ∷ []) = None
bytes_of (a ∷ b ∷ rest) = with_first (byte_of (digit_value a) (digit_value b)) (bytes_of rest)
