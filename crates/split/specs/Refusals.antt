-- When a split is refused, and by which number. Assumes nothing.
use Rattle.std.specs.Prelude.{ℕ, Bool, cond, ◌&&◌, ◌||◌, ltb, List, ◌++◌, length, drop, Ok, Err, count_by, Result, ◌==◌, nat_eq, nat_lt}
use Rattle.split.specs.declared.bearer.Stake.{Stake}
use Rattle.split.specs.declared.refusal.Refusal.{Refusal}
use Rattle.split.specs.declared.refusal.Refusal.TheVariants.{Limit, CodeTwice, NoWeight}
use Rattle.split.specs.Shares.{all_weights}

-- The number by which each refusal is told.
abbrev pub number_of : Refusal → ℕ
number_of Limit = 1
number_of CodeTwice = 15
number_of NoWeight = 6

-- How many bearers weigh more than 9,000,000,000.
abbrev pub too_heavy : List Stake → ℕ
too_heavy xs = count_by (λ x. ltb 9000000000 x.weight) xs

-- How many bearers have this code.
abbrev pub with_code : ℕ → List Stake → ℕ
with_code code xs = count_by (λ x. nat_eq x.code code) xs

-- Another bearer of the row has its code: its own counts as one.
unfoldable pub shares_code : List Stake → Stake → Bool
shares_code xs x = ltb 1 (with_code x.code xs)

-- How many bearers share their code with another.
abbrev pub repeated : List Stake → ℕ
repeated xs = count_by (shares_code xs) xs

-- The sum is above 1,000,000,000, a weight above 9,000,000,000, there are more than 128 bearers, or fewer places than bearers.
abbrev pub beyond_limits : ℕ → ℕ → List Stake → Bool
beyond_limits sum places xs = nat_lt 1000000000 sum || (nat_lt 0 (too_heavy xs) || (nat_lt 128 (length xs) || nat_lt places (length xs)))

-- The answer to a split of the sum among xs with so many places for shares: the first refusal that is due, or none.
unfoldable pub answer : ℕ → ℕ → List Stake → Result (Unit {0}) Refusal
answer sum places xs =
    cond (beyond_limits sum places xs) (Err Limit)
    (cond (nat_lt 0 (repeated xs)) (Err CodeTwice)
    (cond (nat_lt 0 sum && all_weights xs == 0) (Err NoWeight) (Ok tt)))

-- What lent places hold after a call: where it is accepted, what is new from the first place on and the spare places as
-- they were; where it is refused, all as they were.
abbrev pub placed : {Y : Type 0} → Result (Unit {0}) Refusal → List Y → List Y → List Y
placed (Ok _) new old = new ++ drop (length new) old
placed (Err _) new old = old
