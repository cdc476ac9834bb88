use Rattle.std.proofs.Common.{cond, map, sym, ◌∙◌, rules}
use Rattle.rows.proofs.Rows.{sum_by-map}
use Rattle.split.specs.declared.bearer.Stake.{Stake}
use Rattle.split.specs.Refusals.{shares_code}
use Rattle.split.proofs.limits.repeated.Goals as goal

pub returns : goal.returns
returns g c =
    c.count_where.ensures.counts_those_that_pass (λ b. shares_code (map g.B.Bearer.bears c.args.bearers.now) (g.B.Bearer.bears b)) (λ x y h. search rules)
    ∙ sym (sum_by-map (λ (x : Stake). cond (shares_code (map g.B.Bearer.bears c.args.bearers.now) x) 1 0) g.B.Bearer.bears c.args.bearers.now)
