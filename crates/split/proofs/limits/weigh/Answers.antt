use Rattle.std.proofs.Common.{◌≡◌, ◌<◌, ◌^◌, sum_by, sym, ◌∙◌, rules, arith}
use Rattle.split.specs.declared.bearer.Stake.{Stake}
use Rattle.split.specs.Shares.{all_weights}
use Rattle.rows.proofs.Rows.{sum_by-map}
use Rattle.split.proofs.limits.weigh.Goals as goal

pub sum-requires-clause-fits : goal.sum-requires-clause-fits
unfolding all_weights
sum-requires-clause-fits g c =
    let fits : sum_by (λ b. (g.B.Bearer.bears b).weight) c.args.bearers.now < 2 ^ 64 = omega (arith, c.requires, sum_by-map (λ (x : Stake). x.weight) g.B.Bearer.bears c.args.bearers.now) in
    search rules

pub returns : goal.returns
unfolding all_weights
returns g c =
    let own : c.sum.result ≡ sum_by (λ b. (g.B.Bearer.bears b).weight) c.args.bearers.now = search rules in
    own ∙ sym (sum_by-map (λ (x : Stake). x.weight) g.B.Bearer.bears c.args.bearers.now)
