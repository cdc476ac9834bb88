use Rattle.std.proofs.Common.{refl}
use Rattle.split.specs.Refusals.{shares_code, answer}
use Rattle.split.specs.Shares.{all_weights, rank, odd_dollars, share}
use Rattle.figures.proofs.worked_figures.Goals as goal

-- each figure is what the definitions compute to
pub returns : goal.returns
unfolding shares_code answer all_weights rank odd_dollars share
returns c = record {
  definitions_give_the_worked_figures = record {
    hundred_accepted = refl;
    hundred_over_three_alike = refl;
    ten_accepted = refl;
    ten_over_two_heavy_one_light = refl;
    seven_accepted = refl;
    seven_over_one_without_weight = refl;
    one_over_none_refused = refl;
    its_number = refl;
  };
}
