-- The checks of a roll's records against each other. Assumes nothing.
use Rattle.std.specs.Prelude.{ℕ, zero, suc, ◌+◌, Bool, cond, List, map, length, take, Some, None, Option, count_by, position, ◌==◌, nat_eq, nat_lt, slice_index}
use Rattle.std.specs.List.{enumerate_from}
use Rattle.roll.specs.Standing.{Standing, participants_with, accounts_with, money_of}
use Rattle.book.specs.declared.checks.RollCheck.{RollCheck}
use Rattle.book.specs.declared.checks.RollCheck.TheVariants.{ParticipantTwice, AccountTwice, OwnerUnknown, AboveLimit}

-- The codes of the participants and of the accounts, and the owners' codes, in the order of the roll.
abbrev pub participant_codes : Standing → List ℕ
participant_codes s = map (λ p. p.code) s.participants

abbrev pub account_codes : Standing → List ℕ
account_codes s = map (λ a. a.code) s.accounts

abbrev pub owner_codes : Standing → List ℕ
owner_codes s = map (λ a. a.owner) s.accounts

-- The first record of a row whose code an earlier one has.
abbrev pub first_used : {X : Type 0} → (X → ℕ) → List X → Option ℕ
first_used code xs = position (λ p. nat_lt 0 (count_by (λ x. nat_eq (code x) (code p.1)) (take p.0 xs))) (enumerate_from 0 xs)

-- An earlier participant has the code of the one at this place.
abbrev pub participant_twice : Standing → ℕ → Bool
participant_twice s k = nat_lt 0 (participants_with (slice_index (participant_codes s) k) (take k s.participants))

-- An earlier account has the code of the one at this place.
abbrev pub account_twice : Standing → ℕ → Bool
account_twice s k = nat_lt 0 (accounts_with (slice_index (account_codes s) k) (take k s.accounts))

-- No participant has the code of the owner of the account at this place.
abbrev pub owner_unknown : Standing → ℕ → Bool
owner_unknown s k = participants_with (slice_index (owner_codes s) k) s.participants == 0

-- The accounts of the participant at this place hold more than 9,000,000,000 together, both columns counted.
abbrev pub above_limit : Standing → ℕ → Bool
above_limit s k = nat_lt 9000000000 (money_of (slice_index (participant_codes s) k) s.accounts)

-- How many records a check looks at.
abbrev pub table_length : RollCheck → Standing → ℕ
table_length ParticipantTwice s = length s.participants
table_length AccountTwice s = length s.accounts
table_length OwnerUnknown s = length s.accounts
table_length AboveLimit s = length s.participants

-- The record at this place fails a check.
abbrev pub failed : RollCheck → Standing → ℕ → Bool
failed ParticipantTwice s k = participant_twice s k
failed AccountTwice s k = account_twice s k
failed OwnerUnknown s k = owner_unknown s k
failed AboveLimit s k = above_limit s k

-- The first of so many places, from one on, at which a test holds.
unfoldable pub first_from : (ℕ → Bool) → ℕ → ℕ → Option ℕ
first_from test k zero = None
first_from test k (suc n) = cond (test k) (Some k) (first_from test (k + 1) n)

-- The first record that fails a check.
abbrev pub first_place : RollCheck → Standing → Option ℕ
first_place check s = first_from (failed check s) 0 (table_length check s)
