-- Rolls that are alike but for the order of their records. Assumes nothing.
use Rattle.std.specs.Prelude.{◌≡◌}
use Rattle.std.specs.List.Sorted.{IsPermutation}
use Rattle.roll.specs.Standing.{Standing}

-- The same participants in any order, the same accounts in any order, and as many defaults.
pub record Alike (s t : Standing) : Type 0 where
  pub same_participants : IsPermutation s.participants t.participants
  pub same_accounts : IsPermutation s.accounts t.accounts
  pub same_defaults : s.defaults ≡ t.defaults
