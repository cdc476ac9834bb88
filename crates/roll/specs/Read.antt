-- What a roll that was read has met. Assumes nothing.
use Rattle.std.specs.Prelude.{◌≡◌, ◌≤◌, length, count_by}
use Rattle.roll.specs.Holdable.{participant_outside, account_outside}
use Rattle.roll.specs.Standing.{Standing}

-- Few records, but some participant; each field within its limits; nobody in default.
pub record WithinLimits (s : Standing) : Type 0 where
  pub some_participants : 1 ≤ length s.participants
  pub few_participants : length s.participants ≤ 64
  pub few_accounts : length s.accounts ≤ 128
  pub participants_within : count_by participant_outside s.participants ≡ 0
  pub accounts_within : count_by account_outside s.accounts ≡ 0
  pub no_defaults : s.defaults ≡ 0
