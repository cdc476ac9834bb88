-- The roll as it stands. Assumes nothing.
use Rattle.std.specs.Prelude.{ℕ, ◌+◌, cond, List, map, sum_by, count_by, ◌==◌, nat_eq}
use Rattle.rows.specs.Tables.{records}
use Rattle.roll.specs.declared.account.Account.{Account}
use Rattle.roll.specs.declared.participant.Participant.{Participant}
use Rattle.roll.specs.declared.table.Roll.{Roll}

-- An account's code, its owner's code, its present funds and its present overnight money.
pub record Balance : Type 0 where
  pub code : ℕ
  pub owner : ℕ
  pub funds : ℕ
  pub overnight : ℕ

abbrev pub balance_of : Account → Balance
balance_of a = record { code = a.code; owner = a.owner; funds = a.funds; overnight = a.overnight }

-- All that a basis may look at: the participants with their marks, the accounts with their present balances, and how many
-- defaulted in the present period.
pub record Standing : Type 0 where
  pub participants : List Participant
  pub accounts : List Balance
  pub defaults : ℕ

-- How a roll stands: the records of its tables.
unfoldable pub standing : Roll → Standing
standing roll = record {
  participants = records roll.participants;
  accounts = map balance_of (records roll.accounts);
  defaults = roll.defaults;
}

-- How many of the participants, or of the accounts, have this code.
abbrev pub participants_with : ℕ → List Participant → ℕ
participants_with code ps = count_by (λ p. nat_eq p.code code) ps

abbrev pub accounts_with : ℕ → List Balance → ℕ
accounts_with code xs = count_by (λ a. nat_eq a.code code) xs

-- What an account adds to the money of the participant with this code, both columns counted.
abbrev pub held_by : ℕ → Balance → ℕ
held_by code a = cond (a.owner == code) (a.funds + a.overnight) 0

-- What the accounts of the participant with this code hold together.
abbrev pub money_of : ℕ → List Balance → ℕ
money_of code xs = sum_by (held_by code) xs
