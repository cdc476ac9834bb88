use Rattle.std.proofs.Common.{refl, arith}
use Rattle.std.proofs.lemmas.Fn.{says_at}
use Rattle.rows.proofs.Rows.{byte_small, counted_more}
use Rattle.rows.proofs.counting.count_where.Goals as goal

pub loop-item-preserved : goal.loop-item-preserved
loop-item-preserved g c = (
  omega (arith, byte_small c.test.result),
  λ h gives. counted_more h c.args.row.now c.loop-item.item-index c.loop-item.count c.from-count.result c.item-item.result c.test.result
      c.loop-item-test.true c.item-item.is (c.loop-item.invariant.1 h gives) c.from-count.ensures (gives c.item-item.result c.test.result (says_at g.F.Fn c.test.ensures refl)),
)
