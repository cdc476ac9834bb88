-- The rules of the named bases. Assumes nothing.
use Rattle.std.specs.Prelude.{ℕ, ◌+◌, ◌*◌, cond, nat_lt}
use Rattle.roll.specs.declared.participant.Participant.{Participant}
use Rattle.roll.specs.Standing.{Standing}

-- Futures and OTC commitment together.
abbrev pub commitment : Participant → ℕ
commitment p = p.futures + p.otc

-- Once the commitment, or three times it where more than one participant has defaulted.
abbrev pub ceiling_at : ℕ → Participant → ℕ
ceiling_at defaults p = cond (nat_lt 1 defaults) (3 * commitment p) (commitment p)

-- The defaults of the present period count.
abbrev pub commitment_ceiling : Standing → Participant → ℕ
commitment_ceiling s p = ceiling_at s.defaults p
