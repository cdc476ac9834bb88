use Rattle.std.proofs.Common.{sym}
use Rattle.roll.specs.Standing.{standing}
use Rattle.book.proofs.Admission.{holdable}
use Rattle.book.proofs.opening.admitted.Goals as goal

pub invariant_of-result-clause-holdable : goal.invariant_of-result-clause-holdable
invariant_of-result-clause-holdable c = holdable (standing c.in_ok-roll.roll) c.in_ok-roll.ensures.fields_are_within_limits (sym c.in_ok-checked.ensures)
