use Rattle.std.proofs.Common.{set, refl, ap, ◌∙◌, arith}
use Rattle.std.proofs.lemmas.Fn.{says_at}
use Rattle.std.proofs.lemmas.List.{length-take}
use Rattle.rows.proofs.Rows.{filled_more, filled_all, as_far_as_both}
use Rattle.rows.proofs.filling.fill.Goals as goal

pub loop-i-preserved : goal.loop-i-preserved
loop-i-preserved g c h gives =
    let x = c.index-within-i.result in
    ap (λ l. set l c.loop-i.i c.make.result) (c.loop-i.invariant h gives)
    ∙ filled_more h _ c.args.places.now c.loop-i.i x c.make.result c.loop-i-test.true (omega (arith, c.loop-i.auto.places, c.min.ensures, length-take c.min.result c.args.row.now)) c.index-within-i.is (gives x c.make.result (says_at g.F.Fn c.make.ensures refl))

pub returns : goal.returns
returns g c = record {
  writes_what_is_made = λ h gives. c.loop-i.invariant h gives ∙ filled_all h _ c.args.places.now c.loop-i.i (omega arith) ∙ as_far_as_both h c.args.row.now c.args.places.now c.min.result c.min.ensures;
}
