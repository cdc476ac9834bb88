-- How a sum is split among bearers: who gets which share, and why. Assumes nothing.
use Rattle.std.specs.Prelude.{ℕ, ◌+◌, ◌-◌, ◌*◌, ◌/◌, ◌%◌, Bool, cond, List, map, sum_by, count_by, ◌==◌, nat_lt}
use Rattle.split.specs.declared.bearer.Stake.{Stake}
use Rattle.split.specs.declared.division.Division.{Division}

-- All the weights of a row together.
unfoldable pub all_weights : List Stake → ℕ
all_weights xs = sum_by (λ x. x.weight) xs

-- One bearer's division, sum × weight / total: its quotient rounded down, and its remainder.
abbrev pub divide : ℕ → ℕ → Stake → Division
divide sum total x = record {
  code = x.code;
  weight = x.weight;
  whole = sum * x.weight / total;
  remainder = sum * x.weight % total;
}

-- Every bearer's division by all the weights, in the order of the row.
abbrev pub divisions : ℕ → List Stake → List Division
divisions sum xs = map (divide sum (all_weights xs)) xs

-- Which of two comes first for an odd dollar: the larger remainder, and the lower code between equal ones.
abbrev pub precedes : Division → Division → Bool
precedes a b = cond (a.remainder == b.remainder) (nat_lt a.code b.code) (nat_lt b.remainder a.remainder)

-- How many of a row come first.
unfoldable pub rank : List Division → Division → ℕ
rank row d = count_by (λ e. precedes e d) row

-- The odd dollars: what the whole parts leave of the sum.
unfoldable pub odd_dollars : ℕ → List Division → ℕ
odd_dollars sum row = sum - sum_by (λ d. d.whole) row

-- One odd dollar each goes to the first in rank, as many as there are odd dollars.
abbrev pub takes_odd : ℕ → List Division → Division → Bool
takes_odd sum row d = nat_lt (rank row d) (odd_dollars sum row)

-- The share of one bearer of the row xs.
unfoldable pub share : ℕ → List Stake → Stake → ℕ
share sum xs x =
    let row : List Division = divisions sum xs in
    let own : Division = divide sum (all_weights xs) x in
    own.whole + cond (takes_odd sum row own) 1 0

-- The shares of a row, each in its bearer's place.
abbrev pub shares : ℕ → List Stake → List ℕ
shares sum xs = map (share sum xs) xs
