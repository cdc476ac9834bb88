use Rattle.std.proofs.Common.{cond, nat_eq, sym, ◌∙◌, rules}
use Rattle.rows.proofs.Rows.{sum_by-map}
use Rattle.split.specs.declared.bearer.Stake.{Stake}
use Rattle.split.proofs.limits.bearing.Goals as goal

pub returns : goal.returns
returns g c =
    c.count_where.ensures.counts_those_that_pass (λ b. nat_eq (g.B.Bearer.bears b).code c.args.code) (λ x y h. search rules)
    ∙ sym (sum_by-map (λ (x : Stake). cond (nat_eq x.code c.args.code) 1 0) g.B.Bearer.bears c.args.bearers.now)
