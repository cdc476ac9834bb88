-- The roll of a book, from its model. Assumes nothing.
use Rattle.std.proofs.Common.{◌≡◌, ℕ, ◌≤◌, List, [], ◌∷◌, map, length, refl, ap, arith}
use Rattle.roll.specs.declared.participant.Participant.{Participant}
use Rattle.roll.specs.Standing.{Balance, Standing, standing}
use Rattle.book.specs.declared.parts.Outstanding.{Outstanding}
use Rattle.basis.specs.declared.basis.Basis.{Ghosts}
use Rattle.book.specs.declared.state.Book.{Book}
use Rattle.book.specs.Holdings.{Member, Holding, members, holdings}
use Rattle.book.specs.Model.{model, standing_of}

their_participants : (ps : List Participant) (owed : List ℕ) → length ps ≤ length owed → map (λ (m : Member). m.participant) (members ps owed) ≡ ps
unfolding members
their_participants [] owed room = refl
their_participants (p ∷ ps) [] room = absurd (omega arith)
their_participants (p ∷ ps) (n ∷ owed) room = ap (λ l. p ∷ l) (their_participants ps owed (omega arith))

their_accounts : (xs : List Balance) (rows : List Outstanding) → length xs ≤ length rows → map (λ (h : Holding). h.account) (holdings xs rows) ≡ xs
unfolding holdings
their_accounts [] rows room = refl
their_accounts (a ∷ xs) [] room = absurd (omega arith)
their_accounts (a ∷ xs) (row ∷ rows) room = ap (λ l. a ∷ l) (their_accounts xs rows (omega arith))

abbrev rolled : List Participant → List Balance → ℕ → Standing
rolled participants accounts defaults = record { participants = participants; accounts = accounts; defaults = defaults }

pub modelled : {B : Type 0} {g : Ghosts B} (book : Book B g) → standing_of (model book) ≡ standing book.roll
unfolding model
modelled book =
    let s = standing book.roll in
    λ i. rolled
    (their_participants s.participants book.owed (omega (arith, book.holdable.few_participants, book.full_owed)) i)
    (their_accounts s.accounts book.outstanding (omega (arith, book.holdable.few_accounts, book.full_outstanding)) i)
    s.defaults
