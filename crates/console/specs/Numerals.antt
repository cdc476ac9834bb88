-- Which words are decimal numbers, and which number one is. Assumes nothing.
use Rattle.std.specs.Prelude.{ℕ, ◌+◌, ◌-◌, ◌*◌, Bool, cond, ◌&&◌, List, [], ◌∷◌, Some, None, Option, ◌==◌, nat_le}

-- The bytes `0` to `9`.
abbrev pub digit : ℕ → Bool
digit b = nat_le 48 b && nat_le b 57

-- The digits to come after the number so far; none where one is no digit.
unfoldable pub value_after : ℕ → List ℕ → Option ℕ
value_after n [] = Some n
value_after n (b ∷ bs) = cond (digit b) (value_after (n * 10 + (b - 48)) bs) None

-- One digit or more.
unfoldable pub digits_value : List ℕ → Option ℕ
digits_value [] = None
digits_value (b ∷ bs) = value_after 0 (b ∷ bs)

-- What follows a leading `+`, or all where there is none.
abbrev pub after_plus : List ℕ → List ℕ
after_plus [] = []
after_plus (b ∷ bs) = cond (b == 43) bs (b ∷ bs)

-- A number that is at most the largest.
abbrev pub up_to : ℕ → Option ℕ → Option ℕ
up_to largest None = None
up_to largest (Some n) = cond (nat_le n largest) (Some n) None

-- The number that a word is: a `+` or none, then digits, which come to the largest at most.
abbrev pub number_of : ℕ → List ℕ → Option ℕ
number_of largest word = up_to largest (digits_value (after_plus word))

-- A number with one more digit.
abbrev pub longer : ℕ → ℕ → ℕ → Option ℕ
longer largest n b = cond (digit b) (up_to largest (Some (n * 10 + (b - 48)))) None
