use Rattle.std.proofs.Common.{◌≡◌, ◌+◌, ◌*◌, take, Ok, Err, subst, arith, rules}
use Rattle.std.proofs.lemmas.List.{length-take-le}
use Rattle.std.proofs.lemmas.Result.{err_from_is_err_and}
use Rattle.std.proofs.lemmas.Slice.Zip.{AllZip-long}
use Rattle.rows.specs.Tables.{records as table_records}
use Rattle.roll.specs.declared.fault.RollFault.TheVariants.{Field}
use Rattle.roll.proofs.Enrolling.{made_more}
use Rattle.roll.proofs.Finding.{told_here, not_here, nowhere, was_ok, was_error}
use Rattle.roll.proofs.reading.take_in.Goals as goal

pub push-requires : goal.push-requires
push-requires g c =
    let so_far = take c.loop-i.i c.args.records.now in
    (search rules, omega (arith, AllZip-long _ so_far (table_records c.loop-i.table) c.loop-i.invariant.taken, length-take-le c.loop-i.i c.args.records.now (omega arith), c.requires.room))

pub returns-in_err-taken-clause-refuses_the_first_fault : goal.returns-in_err-taken-clause-refuses_the_first_fault
returns-in_err-taken-clause-refuses_the_first_fault g c =
    let was = was_error _ c.try_from.result c.map_err.result c.in_err-taken.field-0.0 c.map_err.ensures.cases c.in_err-taken.was in
    let back = err_from_is_err_and c.from_residual.result c.from_residual.ensures.1 in
    let here : c.in_err-taken.field-0.0 ≡ Field (c.args.from + g.R.Wide.WIDTH * c.loop-i.i + was.0.offset) = search (rules, was.2) in
    rw (back.1, back.2, here) (told_here g.R.Limited.faulty g.R.Wide.WIDTH c.args.from c.args.records.now c.loop-i.i c.loop-i.invariant.faultless c.index-records-i.result was.0.offset c.loop-i-test.true c.index-records-i.is
    (c.requires.tells_the_fault _ was.0 (subst (g.T.TryFrom.try_from_gives c.index-records-i.result) {y = Err was.0} was.1 c.try_from.ensures)))

pub loop-i-preserved : goal.loop-i-preserved
loop-i-preserved g c =
    let made = subst (g.T.TryFrom.try_from_gives c.index-records-i.result) {y = Ok c.in_ok-taken.taken} (was_ok _ c.try_from.result c.map_err.result c.in_ok-taken.taken c.map_err.ensures.cases c.in_ok-taken.was) c.try_from.ensures in
    record {
      faultless = not_here g.R.Limited.faulty g.R.Wide.WIDTH c.args.from c.args.records.now c.loop-i.i c.loop-i.invariant.faultless c.index-records-i.result c.loop-i-test.true c.index-records-i.is
          (c.requires.takes_faultless _ _ made);
      taken = made_more (λ r x. g.T.TryFrom.try_from_gives r (Ok x)) c.args.records.now _ _ c.loop-i.i c.index-records-i.result c.in_ok-taken.taken c.loop-i-test.true c.index-records-i.is made c.push.ensures.adds_it_at_the_end c.loop-i.invariant.taken;
    }

pub returns-clause-refuses_the_first_fault : goal.returns-clause-refuses_the_first_fault
returns-clause-refuses_the_first_fault g c = nowhere g.R.Limited.faulty g.R.Wide.WIDTH c.args.from c.args.records.now c.loop-i.i c.loop-i.invariant.faultless c.loop-i-test.false
