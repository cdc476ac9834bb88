use Rattle.std.proofs.Common.{◌-◌, ◌≤◌, ◌++◌, map, length, take, drop, sym, ap, ◌∙◌, arith, rules}
use Rattle.std.proofs.ByRecursion.{all-has}
use Rattle.std.proofs.lemmas.List.{map-append, length-map}
use Rattle.rows.proofs.Rows.{taken_held}
use Rattle.split.specs.declared.division.Division.{Division}
use Rattle.split.specs.declared.reason.Reason.{Reason}
use Rattle.split.specs.Reasons.{reasons, reckon}
use Rattle.split.specs.Shares.{odd_dollars}
use Rattle.split.proofs.Accepting.{accepted}
use Rattle.split.proofs.Promises.{same_in_any_order, fair_shares}
use Rattle.split.proofs.Reckoning.{table_is, table_within, wholes_small, explained, shares_are}
use Rattle.split.proofs.splitting.explain.Goals as goal

pub whole_parts-requires : goal.whole_parts-requires
whole_parts-requires g c =
    let stakes = map g.B.Bearer.bears c.args.bearers.now in
    let ok = accepted c.args.sum (length c.args.reasons.now) stakes (sym c.in_ok-total.ensures.answers) in
    let many = sym (length-map c.args.bearers.now g.B.Bearer.bears) in
    omega (arith, ok.small, table_within c.args.sum c.in_ok-total.total (length c.args.bearers.now) stakes c.divide_all.new.table _ many c.in_ok-total.ensures.weighs c.divide_all.ensures)

pub overflow_sub-odd : goal.overflow_sub-odd
overflow_sub-odd g c =
    let stakes = map g.B.Bearer.bears c.args.bearers.now in
    let many = sym (length-map c.args.bearers.now g.B.Bearer.bears) in
    omega (arith, c.whole_parts.ensures, table_within c.args.sum c.in_ok-total.total (length c.args.bearers.now) stakes c.divide_all.new.table _ many c.in_ok-total.ensures.weighs c.divide_all.ensures)

pub fill-requires : goal.fill-requires
fill-requires g c =
    let stakes = map g.B.Bearer.bears c.args.bearers.now in
    let row = take (length c.args.bearers.now) c.divide_all.new.table in
    let ok = accepted c.args.sum (length c.args.reasons.now) stakes (sym c.in_ok-total.ensures.answers) in
    let many = sym (length-map c.args.bearers.now g.B.Bearer.bears) in
    let within = table_within c.args.sum c.in_ok-total.total (length c.args.bearers.now) stakes c.divide_all.new.table _ many c.in_ok-total.ensures.weighs c.divide_all.ensures in
    let small = wholes_small row 1000000000 (omega (arith, ok.small, within)) in
    record { takes_each_item = λ d in' l p q s t k o u v. all-has (λ (x : Division). x.whole ≤ 1000000000) row d.now small (taken_held (length c.args.reasons.now) row d.now in') }

pub returns-clause-places_as_defined : goal.returns-clause-places_as_defined
unfolding odd_dollars
returns-clause-places_as_defined g c =
    let stakes = map g.B.Bearer.bears c.args.bearers.now in
    let sum = c.args.sum in
    let total = c.in_ok-total.total in
    let row = take (length c.args.bearers.now) c.divide_all.new.table in
    let odd = sum - c.whole_parts.result in
    let ok = accepted sum (length c.args.reasons.now) stakes (sym c.in_ok-total.ensures.answers) in
    let many = sym (length-map c.args.bearers.now g.B.Bearer.bears) in
    explained sum total odd stakes row c.fill.new.places c.args.reasons.now
    (table_is sum total (length c.args.bearers.now) stakes c.divide_all.new.table _ many c.in_ok-total.ensures.weighs c.divide_all.ensures) c.in_ok-total.ensures.weighs
    (ap (λ n. sum - n) c.whole_parts.ensures) ok.room (c.fill.ensures.writes_what_is_made (reckon total odd row) (λ x y h. search rules))

pub returns-clause-fair_shares : goal.returns-clause-fair_shares
returns-clause-fair_shares g c =
    let stakes = map g.B.Bearer.bears c.args.bearers.now in
    let sum = c.args.sum in
    let old = c.args.reasons.now in
    let spare = map (λ (r : Reason). r.share) (drop (length (reasons sum stakes)) old) in
    fair_shares sum (length old) stakes (accepted sum (length old) stakes (sym c.in_ok-total.ensures.answers)) (map (λ (r : Reason). r.share) c.fill.new.places) spare
    (ap (map (λ (r : Reason). r.share)) (returns-clause-places_as_defined g c)
    ∙ map-append (λ (r : Reason). r.share) (reasons sum stakes) (drop (length (reasons sum stakes)) old)
    ∙ ap (λ l. l ++ spare) (shares_are sum stakes))

pub returns-clause-same_in_any_order : goal.returns-clause-same_in_any_order
returns-clause-same_in_any_order g c = same_in_any_order c.args.sum (length c.args.reasons.now) (map g.B.Bearer.bears c.args.bearers.now)

pub returns-in_err-total-clause-same_in_any_order : goal.returns-in_err-total-clause-same_in_any_order
returns-in_err-total-clause-same_in_any_order g c = same_in_any_order c.args.sum (length c.args.reasons.now) (map g.B.Bearer.bears c.args.bearers.now)
