-- Bearers as they are told: CODE:WEIGHT. Assumes nothing.
use Rattle.std.specs.Prelude.{ℕ, suc, ◌+◌, cond, List, [], ◌∷◌, take, drop, Some, None, Option, ◌==◌}
use Rattle.split.specs.declared.bearer.Stake.{Stake}
use Rattle.console.specs.Lists.{with_first}
use Rattle.console.specs.Numerals.{number_of}

-- How many bytes stand before the first colon: all where there is none.
unfoldable pub colon_at : List ℕ → ℕ
colon_at [] = 0
colon_at (b ∷ bs) = cond (b == 58) 0 (suc (colon_at bs))

-- A code and a weight, where both are numbers.
abbrev pub stake : Option ℕ → Option ℕ → Option Stake
stake None weight = None
stake (Some code) None = None
stake (Some code) (Some weight) = Some (record { code = code; weight = weight })

-- The bearer that a word is: a code of 32 bits before the first colon, a weight of 64 bits after it. A word without a
-- colon has nothing after it, which is no number.
unfoldable pub bearer_of : List ℕ → Option Stake
bearer_of word =
    stake (number_of 4294967295 (take (colon_at word) word)) (number_of 18446744073709551615 (drop (colon_at word + 1) word))

-- The bearers that words are, none where one of them is no bearer.
unfoldable pub bearers_of : List (List ℕ) → Option (List Stake)
bearers_of [] = Some []
bearers_of (word ∷ rest) = with_first (bearer_of word) (bearers_of rest)
