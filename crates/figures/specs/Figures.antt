-- The figures reckoned by hand. Assumes nothing.
use Rattle.std.specs.Prelude.{◌≡◌, ℕ, List, [], ◌∷◌, Ok, Err}
use Rattle.split.specs.declared.bearer.Stake.{Stake}
use Rattle.split.specs.declared.refusal.Refusal.TheVariants.{NoWeight}
use Rattle.split.specs.Refusals.{answer, number_of}
use Rattle.split.specs.Shares.{shares}

-- A bearer by its code and weight.
abbrev pub bearer : ℕ → ℕ → Stake
bearer code weight = record { code = code; weight = weight }

abbrev pub three_alike : List Stake
three_alike = bearer 11 1 ∷ bearer 12 1 ∷ bearer 13 1 ∷ []

abbrev pub two_heavy_one_light : List Stake
two_heavy_one_light = bearer 11 6 ∷ bearer 12 6 ∷ bearer 13 2 ∷ []

abbrev pub one_without_weight : List Stake
one_without_weight = bearer 11 0 ∷ bearer 12 5 ∷ []

abbrev pub none_with_weight : List Stake
none_with_weight = bearer 11 0 ∷ bearer 12 0 ∷ []

-- 100 over three equal weights: the odd dollar goes to the lowest code.
-- 10 over 6, 6, 2: the whole parts are 4, 4, 1, and the largest remainder is the last one's.
-- 7 over 0, 5: all of it to the one with weight.
-- 1 over 0, 0: nobody can bear it.
pub record WorkedFigures : Type 0 where
  pub hundred_accepted : answer 100 3 three_alike ≡ Ok tt
  pub hundred_over_three_alike : shares 100 three_alike ≡ 34 ∷ 33 ∷ 33 ∷ []
  pub ten_accepted : answer 10 3 two_heavy_one_light ≡ Ok tt
  pub ten_over_two_heavy_one_light : shares 10 two_heavy_one_light ≡ 4 ∷ 4 ∷ 2 ∷ []
  pub seven_accepted : answer 7 2 one_without_weight ≡ Ok tt
  pub seven_over_one_without_weight : shares 7 one_without_weight ≡ 0 ∷ 7 ∷ []
  pub one_over_none_refused : answer 1 2 none_with_weight ≡ Err NoWeight
  pub its_number : number_of NoWeight ≡ 6
