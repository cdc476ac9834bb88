-- The bases that names stand for. Assumes nothing.
use Rattle.basis.specs.declared.commitment.Commitment.{Commitment}
use Rattle.commands.specs.declared.verb.BasisName.{BasisName}
use Rattle.commands.specs.declared.verb.BasisName.TheVariants as named

abbrev pub basis_called : BasisName → Commitment
basis_called named.Commitment = record {}
