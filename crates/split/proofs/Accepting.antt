-- What an accepted split has met. Assumes nothing.
use Rattle.std.proofs.Common.{◌≡◌, ℕ, ◌<◌, ◌≤◌, min, false, ltb, List, map, length, Ok, Err, sym, ◌∙◌, arith}
use Rattle.std.specs.List.{AllByRecursion, ContainsAt as Has}
use Rattle.std.proofs.ByRecursion.{All-weaker, all-has, sum_by_le}
use Rattle.std.proofs.lemmas.List.{length-map}
use Rattle.std.proofs.lemmas.Bool.{ltb-false}
use Rattle.split.specs.declared.bearer.Stake.{Stake}
use Rattle.split.specs.declared.refusal.Refusal.TheVariants.{Limit}
use Rattle.std.proofs.lemmas.Bool.Decides.{nat_tests}
use Rattle.split.specs.Refusals.{answer, too_heavy, repeated}
use Rattle.split.specs.Shares.{all_weights}
use Rattle.rows.proofs.Counts.{bit, none_passes}
use Rattle.rows.proofs.Rows.{sum_by-map}

-- no bearer is too heavy: each weight is within the limit
pub light_each : (xs : List Stake) → too_heavy xs ≡ 0 → AllByRecursion (λ x. x.weight ≤ 9000000000) xs
light_each xs e = All-weaker (λ x. ltb 9000000000 x.weight ≡ false) (λ x. x.weight ≤ 9000000000) (λ x h. ltb-false 9000000000 x.weight h) xs (none_passes (λ x. ltb 9000000000 x.weight) xs e)

pub light_bearer : {B : Type 0} (bears : B → Stake) (row : List B) → too_heavy (map bears row) ≡ 0 → (b : B) → Has row b → (bears b).weight ≤ 9000000000
light_bearer bears row e b in' =
    ltb-false 9000000000 (bears b).weight
    (all-has (λ x. ltb 9000000000 (bears x).weight ≡ false) row b
    (none_passes (λ x. ltb 9000000000 (bears x).weight) row (sym (sum_by-map (λ (x : Stake). bit (ltb 9000000000 x.weight)) bears row) ∙ e)) in')

-- few bearers, each within the limit, weigh little together
pub weights_fit : (xs : List Stake) → length xs ≤ 128 → too_heavy xs ≡ 0 → all_weights xs ≤ 1152000000000
unfolding all_weights
weights_fit xs few light = omega (arith, sum_by_le (λ (x : Stake). x.weight) 9000000000 xs (light_each xs light))

-- there are as many stakes as bearers
pub as_many : {B : Type 0} (bears : B → Stake) (row : List B) → length (map bears row) ≡ length row
as_many bears row = length-map row bears

-- What an accepted split has met: each limit, no code twice, and some weight if there is a sum.
pub record Accepted (sum places : ℕ) (xs : List Stake) : Type 0 where
  pub small : sum ≤ 1000000000
  pub light : too_heavy xs ≡ 0
  pub few : length xs ≤ 128
  pub room : length xs ≤ places
  pub apart : repeated xs ≡ 0
  pub weighty : 0 < sum → 0 < all_weights xs

pub accepted : (sum places : ℕ) (xs : List Stake) → answer sum places xs ≡ Ok tt → Accepted sum places xs
unfolding answer
accepted sum places xs e = record {
  small = grind (arith, nat_tests);
  light = grind (arith, nat_tests);
  few = grind (arith, nat_tests);
  room = grind (arith, nat_tests);
  apart = grind (arith, nat_tests);
  weighty = λ some. grind (arith, nat_tests);
}

-- too few places are refused whatever else is wrong
pub too_few_places : (sum places : ℕ) (xs : List Stake) → places < length xs → Err Limit ≡ answer sum places xs
unfolding answer
too_few_places sum places xs short = grind (arith, nat_tests)

-- how many places there are beyond those that are needed does not matter
pub enough_places : (sum places : ℕ) (xs : List Stake) → length xs ≤ places → answer sum 128 xs ≡ answer sum places xs
unfolding answer
enough_places sum places xs room = grind (arith, nat_tests)

-- Places beyond the most bearers of a row decide nothing.
pub places_enough : (sum n : ℕ) (xs : List Stake) → n ≡ length xs → answer sum (min n 128) xs ≡ answer sum n xs
unfolding answer
places_enough sum n xs many = grind (arith, nat_tests)
