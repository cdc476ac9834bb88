use Rattle.std.proofs.Common.{◌∙◌}
use Rattle.roll.specs.Standing.{standing}
use Rattle.book.specs.Model.{model}
use Rattle.book.proofs.Fresh.{fresh_stakes, stands_fresh}
use Rattle.book.proofs.opening.fresh_book.Goals as goal

pub invariant_of-result-clause-nobody_above : goal.invariant_of-result-clause-nobody_above
invariant_of-result-clause-nobody_above g c =
    let s = standing c.args.admitted.roll in
    fresh_stakes s.participants s.accounts 128 c.args.admitted.holdable.few_accounts ∙ c.args.admitted.holdable.nobody_above

pub returns-clause-stands : goal.returns-clause-stands
unfolding model
returns-clause-stands g c = stands_fresh c.args.basis (standing c.args.admitted.roll) c.args.admitted.holdable.few_participants c.args.admitted.holdable.few_accounts c.args.admitted.undefaulted
