use Rattle.std.proofs.Common.{◌≤◌, map, length, drop, sym, ◌∙◌, arith, rules}
use Rattle.std.proofs.lemmas.List.{length-map}
use Rattle.split.specs.declared.reason.Reason.{Reason}
use Rattle.split.specs.Shares.{shares}
use Rattle.split.proofs.Accepting.{accepted, enough_places}
use Rattle.split.proofs.Promises.{same_in_any_order, fair_shares}
use Rattle.split.proofs.Reckoning.{shared_out}
use Rattle.split.proofs.splitting.split.Goals as goal

pub returns-then-shares-bearers-clause-same_in_any_order : goal.returns-then-shares-bearers-clause-same_in_any_order
returns-then-shares-bearers-clause-same_in_any_order g c = same_in_any_order c.args.sum (length c.args.shares.now) (map g.B.Bearer.bears c.args.bearers.now)

pub returns-in_err-explain-clause-same_in_any_order : goal.returns-in_err-explain-clause-same_in_any_order
returns-in_err-explain-clause-same_in_any_order g c = same_in_any_order c.args.sum (length c.args.shares.now) (map g.B.Bearer.bears c.args.bearers.now)

pub returns-clause-same_in_any_order : goal.returns-clause-same_in_any_order
returns-clause-same_in_any_order g c = same_in_any_order c.args.sum (length c.args.shares.now) (map g.B.Bearer.bears c.args.bearers.now)

pub returns-clause-places_as_defined : goal.returns-clause-places_as_defined
returns-clause-places_as_defined g c =
    let many = length-map c.args.bearers.now g.B.Bearer.bears in
    shared_out c.args.sum (length c.args.bearers.now) (map g.B.Bearer.bears c.args.bearers.now) c.explain.new.reasons _ c.fill.new.places c.args.shares.now (sym many) (omega (arith, c.if-shares-bearers.false, many))
    c.in_ok-explain.ensures.places_as_defined (c.fill.ensures.writes_what_is_made (λ (r : Reason). r.share) (λ x y h. search rules))

pub returns-clause-fair_shares : goal.returns-clause-fair_shares
returns-clause-fair_shares g c =
    let stakes = map g.B.Bearer.bears c.args.bearers.now in
    let places = c.args.shares.now in
    let room : length stakes ≤ length places = omega (arith, c.if-shares-bearers.false, length-map c.args.bearers.now g.B.Bearer.bears) in
    fair_shares c.args.sum (length places) stakes (accepted c.args.sum (length places) stakes (sym (c.in_ok-explain.ensures.answers_as_defined ∙ enough_places c.args.sum (length places) stakes room))) c.fill.new.places
    (drop (length (shares c.args.sum stakes)) places) (returns-clause-places_as_defined g c)
