-- What the book keeps beside each participant and each account. Assumes nothing.
use Rattle.std.specs.Prelude.{ℕ, ◌+◌, cond, List, [], ◌∷◌, sum_by, sum, count_by, ◌==◌, nat_lt}
use Rattle.roll.specs.declared.participant.Participant.{Participant}
use Rattle.roll.specs.Standing.{Balance}
use Rattle.book.specs.declared.parts.Outstanding.{Outstanding}

-- A participant with its mark, and what it owes this period.
pub record Member : Type 0 where
  pub participant : Participant
  pub owed : ℕ

-- An account with its balances, and what is outstanding under each declaration.
pub record Holding : Type 0 where
  pub account : Balance
  pub outstanding : List ℕ

-- The participants, each beside what it owes.
unfoldable pub members : List Participant → List ℕ → List Member
members [] owed = []
members (p ∷ ps) [] = []
members (p ∷ ps) (n ∷ owed) = record { participant = p; owed = n } ∷ members ps owed

-- The accounts, each beside what is outstanding.
unfoldable pub holdings : List Balance → List Outstanding → List Holding
holdings [] rows = []
holdings (a ∷ xs) [] = []
holdings (a ∷ xs) (row ∷ rows) = record { account = a; outstanding = row.by_declaration } ∷ holdings xs rows

-- What an account stands for in the money of the participant with this code: both columns, and all that is outstanding.
abbrev pub stake_by : ℕ → Holding → ℕ
stake_by code h = cond (h.account.owner == code) (h.account.funds + h.account.overnight + sum h.outstanding) 0

abbrev pub stake_of : ℕ → List Holding → ℕ
stake_of code hs = sum_by (stake_by code) hs

-- How many participants have more than 9,000,000,000 at stake: in their accounts, or outstanding to them.
unfoldable pub staked_above : List Participant → List Holding → ℕ
staked_above ps hs = count_by (λ p. nat_lt 9000000000 (stake_of p.code hs)) ps

-- How many owe more than 24,000,000,000.
abbrev pub owing_above : List ℕ → ℕ
owing_above owed = count_by (λ n. nat_lt 24000000000 n) owed
