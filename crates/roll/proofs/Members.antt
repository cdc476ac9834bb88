-- What holds of a participant of a roll that a book can hold. Assumes nothing.
use Rattle.std.proofs.Common.{◌≡◌, false}
use Rattle.std.specs.List.{ContainsAt as Has}
use Rattle.std.proofs.ByRecursion.{all-has}
use Rattle.rows.proofs.Counts.{none_passes}
use Rattle.roll.specs.declared.participant.Participant.{Participant}
use Rattle.roll.specs.Holdable.{Holdable, participant_outside}
use Rattle.roll.specs.Standing.{Standing}

-- its fields are within their limits
pub member_within : (s : Standing) → Holdable s → (p : Participant) → Has s.participants p → participant_outside p ≡ false
member_within s held p in' = all-has (λ q. participant_outside q ≡ false) s.participants p (none_passes participant_outside s.participants held.participants_within) in'
