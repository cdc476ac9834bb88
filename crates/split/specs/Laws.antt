-- What an accepted split promises, whatever the row: the sum, the bearers xs, and the places after the call. Assumes nothing.
use Rattle.std.specs.Prelude.{◌≡◌, ℕ, ◌+◌, ◌*◌, ◌<◌, ◌≤◌, List, map, length, take, sum_by, slice_index}
use Rattle.std.specs.List.Sorted.{IsPermutation}
use Rattle.split.specs.declared.bearer.Stake.{Stake}
use Rattle.split.specs.Refusals.{answer}
use Rattle.split.specs.Shares.{all_weights, share}

-- The weight of the bearer at a place of the row.
abbrev pub weight_at : List Stake → ℕ → ℕ
weight_at xs k = slice_index (map (λ x. x.weight) xs) k

-- The share written at a place.
abbrev pub share_at : List ℕ → ℕ → ℕ
share_at places k = slice_index places k

-- The shares add up to the sum.
abbrev pub SharesAddUp : ℕ → List Stake → List ℕ → Type 0
SharesAddUp sum xs places = sum_by (λ amount. amount) (take (length xs) places) ≡ sum

-- Where there is weight, each share lies less than one dollar from its exact proportion, sum × weight / all weights: both
-- sides multiplied by all the weights.
abbrev pub NearExactProportion : ℕ → List Stake → List ℕ → Type 0
NearExactProportion sum xs places =
    (k : ℕ) → k < length xs → 0 < all_weights xs →
    (share_at places k * all_weights xs < sum * weight_at xs k + all_weights xs)
    × (sum * weight_at xs k < share_at places k * all_weights xs + all_weights xs)

-- Where there is no weight, every share is 0.
abbrev pub AllZeroWithoutWeights : List Stake → List ℕ → Type 0
AllZeroWithoutWeights xs places = (k : ℕ) → k < length xs → all_weights xs ≡ 0 → share_at places k ≡ 0

-- A bearer without weight gets nothing.
abbrev pub NothingWithoutWeight : List Stake → List ℕ → Type 0
NothingWithoutWeight xs places = (k : ℕ) → k < length xs → weight_at xs k ≡ 0 → share_at places k ≡ 0

-- No share is above its weight where the sum is at most all the weights.
abbrev pub WithinWeight : ℕ → List Stake → List ℕ → Type 0
WithinWeight sum xs places = sum ≤ all_weights xs → (k : ℕ) → k < length xs → share_at places k ≤ weight_at xs k

-- All of these together.
pub record FairShares (sum : ℕ) (xs : List Stake) (places : List ℕ) : Type 0 where
  pub shares_add_up : SharesAddUp sum xs places
  pub near_exact_proportion : NearExactProportion sum xs places
  pub all_zero_without_weights : AllZeroWithoutWeights xs places
  pub nothing_without_weight : NothingWithoutWeight xs places
  pub within_weight : WithinWeight sum xs places

-- Another row of the same bearers in any order, with as many places, is answered alike and gives each bearer the same share.
abbrev pub SameInAnyOrder : ℕ → ℕ → List Stake → Type 0
SameInAnyOrder sum places xs =
    (ys : List Stake) → IsPermutation xs ys → (answer sum places ys ≡ answer sum places xs) × ((x : Stake) → share sum ys x ≡ share sum xs x)
