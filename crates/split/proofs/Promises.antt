-- The laws of the splitting, at the places that an accepted call has written. Assumes nothing.
use Rattle.std.proofs.Common.{◌≡◌, ℕ, ◌<◌, List, ◌++◌, length, get_or, take, sum_by, sym, ap, ◌∙◌, arith}
use Rattle.std.proofs.lemmas.List.{length-map, take_at, get_or-map, get_or_append_left}
use Rattle.split.specs.declared.bearer.Stake.{Stake}
use Rattle.split.specs.Laws.{SharesAddUp, NearExactProportion, AllZeroWithoutWeights, NothingWithoutWeight, WithinWeight, FairShares, SameInAnyOrder, weight_at, share_at}
use Rattle.split.specs.Shares.{share, shares}
use Rattle.split.proofs.Accepting.{Accepted}
use Rattle.split.proofs.Blanks.{blank_stake}
use Rattle.split.proofs.Fairness.{near, none_without_weights, nothing_without_weight, within_weight, shares_add_up, same_share, same_answer}
use Rattle.rows.proofs.Rows.{sum_by-map}

pub same_in_any_order : (sum places : ℕ) (xs : List Stake) → SameInAnyOrder sum places xs
same_in_any_order sum places xs ys moved = (same_answer sum xs ys moved places, same_share sum xs ys moved)

module _ (sum room : ℕ) (xs : List Stake) (ok : Accepted sum room xs) (places rest : List ℕ) (written : places ≡ shares sum xs ++ rest) where
  weight_is : (k : ℕ) → k < length xs → weight_at xs k ≡ (get_or xs k blank_stake).weight
  weight_is k within = get_or-map (λ (x : Stake). x.weight) xs k blank_stake 0 within

  share_is : (k : ℕ) → k < length xs → share_at places k ≡ share sum xs (get_or xs k blank_stake)
  share_is k within =
      ap (λ l. get_or l k 0) written
      ∙ get_or_append_left (shares sum xs) rest 0 k (omega (arith, length-map xs (share sum xs)))
      ∙ get_or-map (share sum xs) xs k blank_stake 0 within

  they_add_up : SharesAddUp sum xs places
  they_add_up =
      ap (λ l. sum_by (λ (n : ℕ). n) (take (length xs) l)) written
      ∙ ap (sum_by (λ (n : ℕ). n)) (take_at (shares sum xs) rest (length xs) (length-map xs (share sum xs)))
      ∙ sum_by-map (λ (n : ℕ). n) (share sum xs) xs
      ∙ shares_add_up sum xs ok.apart ok.weighty

  they_are_near : NearExactProportion sum xs places
  they_are_near k within some =
      let h = near sum xs some (get_or xs k blank_stake) in
      rw (share_is k within, weight_is k within) h

  zero_without_weights : AllZeroWithoutWeights xs places
  zero_without_weights k within none = share_is k within ∙ none_without_weights sum xs ok.weighty none (get_or xs k blank_stake)

  nothing_for_nothing : NothingWithoutWeight xs places
  nothing_for_nothing k within none = share_is k within ∙ nothing_without_weight sum xs ok.weighty (get_or xs k blank_stake) (sym (weight_is k within) ∙ none)

  within_each_weight : WithinWeight sum xs places
  within_each_weight le k within =
      let h = within_weight sum xs le (get_or xs k blank_stake) in
      rw (share_is k within, weight_is k within) h

  pub fair_shares : FairShares sum xs places
  fair_shares = record {
    shares_add_up = they_add_up;
    near_exact_proportion = they_are_near;
    all_zero_without_weights = zero_without_weights;
    nothing_without_weight = nothing_for_nothing;
    within_weight = within_each_weight;
  }
