-- Which rolls a book can hold. Assumes nothing.
use Rattle.std.specs.Prelude.{◌≡◌, ℕ, ◌≤◌, Bool, ◌||◌, ltb, List, length, count_by, nat_eq, nat_lt}
use Rattle.roll.specs.declared.participant.Participant.{Participant}
use Rattle.roll.specs.Limits.{no_code}
use Rattle.roll.specs.Standing.{Balance, Standing, participants_with, accounts_with, money_of}

-- A participant, or an account, with a field outside its limits.
abbrev pub participant_outside : Participant → Bool
participant_outside p =
    no_code p.code
    || (nat_lt 4000000000 p.futures || (nat_lt 4000000000 p.otc || (nat_lt 4000000000 p.margin || nat_lt 4000000000 p.adjusted)))

abbrev pub account_outside : Balance → Bool
account_outside a = no_code a.code || (no_code a.owner || (nat_lt 9000000000 a.funds || nat_lt 9000000000 a.overnight))

-- How many participants, or accounts, share their code with another.
abbrev pub participants_alike : List Participant → ℕ
participants_alike ps = count_by (λ p. ltb 1 (participants_with p.code ps)) ps

abbrev pub accounts_alike : List Balance → ℕ
accounts_alike xs = count_by (λ a. ltb 1 (accounts_with a.code xs)) xs

-- How many accounts have an owner who is not among the participants.
abbrev pub accounts_unowned : List Participant → List Balance → ℕ
accounts_unowned ps xs = count_by (λ a. nat_eq (participants_with a.owner ps) 0) xs

-- How many participants hold more than 9,000,000,000 in their accounts, both columns counted.
abbrev pub participants_above : List Participant → List Balance → ℕ
participants_above ps xs = count_by (λ p. ltb 9000000000 (money_of p.code xs)) ps

-- A roll that a book can hold: few records, each field within its limits, codes apart, owners known, nobody above the
-- limit, and no more defaults counted than participants marked. The empty roll is one.
pub record Holdable (s : Standing) : Type 0 where
  pub few_participants : length s.participants ≤ 64
  pub few_accounts : length s.accounts ≤ 128
  pub participants_within : count_by participant_outside s.participants ≡ 0
  pub accounts_within : count_by account_outside s.accounts ≡ 0
  pub participants_apart : participants_alike s.participants ≡ 0
  pub accounts_apart : accounts_alike s.accounts ≡ 0
  pub owners_known : accounts_unowned s.participants s.accounts ≡ 0
  pub nobody_above : participants_above s.participants s.accounts ≡ 0
  pub defaults_marked : s.defaults ≤ count_by (λ p. p.in_default) s.participants
