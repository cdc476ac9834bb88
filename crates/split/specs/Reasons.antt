-- Why a bearer gets its share: the numbers that the rule looks at, side by side. Assumes nothing.
use Rattle.std.specs.Prelude.{ℕ, ◌+◌, cond, List, map, nat_lt}
use Rattle.split.specs.declared.bearer.Stake.{Stake}
use Rattle.split.specs.declared.division.Division.{Division}
use Rattle.split.specs.declared.reason.Reason.{Reason}
use Rattle.split.specs.Shares.{all_weights, divide, divisions, rank, odd_dollars}

-- The reason of one division of a row, given all the weights and the odd dollars.
abbrev pub reckon : ℕ → ℕ → List Division → Division → Reason
reckon total odd row own = record {
  division = own;
  total = total;
  odd = odd;
  rank = rank row own;
  extra = nat_lt (rank row own) odd;
  share = own.whole + cond (nat_lt (rank row own) odd) 1 0;
}

-- The reason of one bearer of the row xs.
unfoldable pub reason : ℕ → List Stake → Stake → Reason
reason sum xs x = reckon (all_weights xs) (odd_dollars sum (divisions sum xs)) (divisions sum xs) (divide sum (all_weights xs) x)

-- The reasons of a row, each in its bearer's place.
abbrev pub reasons : ℕ → List Stake → List Reason
reasons sum xs = map (reason sum xs) xs
