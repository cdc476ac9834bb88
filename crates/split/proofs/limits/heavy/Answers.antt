use Rattle.std.proofs.Common.{cond, nat_lt, sym, ◌∙◌, rules}
use Rattle.rows.proofs.Rows.{sum_by-map}
use Rattle.split.specs.declared.bearer.Stake.{Stake}
use Rattle.split.proofs.limits.heavy.Goals as goal

pub returns : goal.returns
returns g c =
    c.count_where.ensures.counts_those_that_pass (λ b. nat_lt 9000000000 (g.B.Bearer.bears b).weight) (λ x y h. search rules)
    ∙ sym (sum_by-map (λ (x : Stake). cond (nat_lt 9000000000 x.weight) 1 0) g.B.Bearer.bears c.args.bearers.now)
