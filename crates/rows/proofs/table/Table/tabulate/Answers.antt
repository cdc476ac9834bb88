use Rattle.std.proofs.Common.{map, set, replicate, ap, ◌∙◌, arith}
use Rattle.std.specs.List.{range_with_len}
use Rattle.std.proofs.lemmas.List.{length-replicate}
use Rattle.std.proofs.lemmas.List.FromFn.{length-map-range_with_len}
use Rattle.rows.proofs.Rows.{placed_more, placed_all, written_part}
use Rattle.rows.proofs.table.Table.tabulate.Goals as goal

pub loop-i-preserved : goal.loop-i-preserved
loop-i-preserved g c h gives =
    let n = c.min-within.result in
    let room = length-replicate g.row.N c.args.blank in
    ap (λ l. set l c.loop-i.i c.make.result) (c.loop-i.invariant h gives)
    ∙ placed_more h n (replicate g.row.N c.args.blank) c.loop-i.i c.make.result c.loop-i-test.true (omega (arith, room, c.min-within.ensures)) (gives c.loop-i.i c.make.result (record { met = c.make.ensures }))

pub returns : goal.returns
returns g c = record {
  holds_what_is_made = λ h gives.
      let n = c.min-within.result in
      written_part (map h (range_with_len 0 n)) _ n c.loop-i.places (length-map-range_with_len h 0 n) (c.loop-i.invariant h gives ∙ placed_all h n (replicate g.row.N c.args.blank) c.loop-i.i (omega arith))
      ∙ ap (λ k. map h (range_with_len 0 k)) c.min-within.ensures;
}
