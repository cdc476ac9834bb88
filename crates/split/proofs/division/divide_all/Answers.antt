use Rattle.std.proofs.Common.{◌++◌, length, drop, sym, ap, ◌∙◌, rules}
use Rattle.split.specs.declared.division.Division.{Division}
use Rattle.split.specs.Shares.{divide}
use Rattle.split.proofs.Accepting.{light_bearer}
use mathlib.Core.List.{map-map}
use Rattle.rows.proofs.Rows.{taken_held, all_written}
use Rattle.split.proofs.division.divide_all.Goals as goal

pub fill-requires : goal.fill-requires
fill-requires g c = record { takes_each_item = λ b in' l p q s t k o. (c.requires.small, light_bearer g.B.Bearer.bears c.args.bearers.now c.requires.light b.now (taken_held (length c.args.table.now) c.args.bearers.now b.now in')) }

pub returns : goal.returns
returns g c =
    let one : g.row.B.Denot → Division = λ b. divide c.args.sum c.args.total (g.B.Bearer.bears b) in
    c.fill.ensures.writes_what_is_made one (λ x y h. search rules)
    ∙ all_written one c.args.bearers.now c.args.table.now c.requires.room
    ∙ ap (λ l. l ++ drop (length c.args.bearers.now) c.args.table.now) (sym (map-map (divide c.args.sum c.args.total) g.B.Bearer.bears c.args.bearers.now))
