-- A lemma for the laws of the commitment basis, which an `impl` gives in the code: such a lemma stands in specs/. Assumes nothing.
use Rattle.std.specs.Prelude.{◌≡◌, ◌≤◌, false}
use Rattle.std.proofs.Common.{arith}
use Rattle.std.proofs.lemmas.Bool.Decides.{nat_tests}
use Rattle.roll.specs.declared.participant.Participant.{Participant}
use Rattle.roll.specs.Holdable.{participant_outside}
use Rattle.basis.specs.Rules.{commitment}

-- two sums within their limits
pub small : (p : Participant) → participant_outside p ≡ false → commitment p ≤ 8000000000
small p h = grind (arith, nat_tests)
