-- The words that commands about books are told by. Assumes nothing.
use Rattle.std.specs.Prelude.{ℕ, cond, List, Some, None, codes, Option}
use Rattle.std.specs.Str.{bytes_eq}
use Rattle.commands.specs.declared.verb.BasisName.{BasisName}
use Rattle.commands.specs.declared.verb.BasisName.TheVariants.{Commitment}
use Rattle.commands.specs.declared.verb.Verb.{Verb}
use Rattle.commands.specs.declared.verb.Verb.TheVariants.{Basis, Journal, Image, Roll, Funds}

-- The verb that a word is.
abbrev pub verb_of : List ℕ → Option Verb
verb_of word =
    cond (bytes_eq word (codes "basis")) (Some Basis)
    (cond (bytes_eq word (codes "journal")) (Some Journal)
    (cond (bytes_eq word (codes "image")) (Some Image)
    (cond (bytes_eq word (codes "roll")) (Some Roll)
    (cond (bytes_eq word (codes "funds")) (Some Funds) None))))

-- The basis that a word names.
abbrev pub basis_of : List ℕ → Option BasisName
basis_of word = cond (bytes_eq word (codes "commitment")) (Some Commitment) None
