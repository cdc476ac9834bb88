-- What every basis owes. Assumes nothing.
use Rattle.std.specs.Prelude.{◌≡◌, ℕ, ◌≤◌, Bool, map, slice_index}
use Rattle.std.specs.List.{ContainsAt as Has}
use Rattle.roll.specs.declared.participant.Participant.{Participant}
use Rattle.roll.specs.Alike.{Alike}
use Rattle.roll.specs.Holdable.{Holdable}
use Rattle.roll.specs.Standing.{Standing}

-- The number that a meaning gives the participant at a place of the roll; 0 beyond it.
abbrev pub at_place : (Standing → Participant → ℕ) → Standing → ℕ → ℕ
at_place meaning s place = slice_index (map (meaning s) s.participants) place

-- On a roll that a book can hold, no participant's number is above the most.
abbrev pub Within : (Standing → Participant → ℕ) → ℕ → Type 0
Within meaning most = (s : Standing) → Holdable s → (p : Participant) → Has s.participants p → meaning s p ≤ most

-- Rolls that are alike but for the order of their records give each participant the same number.
abbrev pub SameInAnyOrder : (Standing → Participant → ℕ) → Type 0
SameInAnyOrder meaning =
    (s t : Standing) → Holdable s → Holdable t → Alike s t → (p : Participant) → Has s.participants p → meaning s p ≡ meaning t p

-- And one answer.
abbrev pub OneAnswer : (Standing → Bool) → Type 0
OneAnswer meaning = (s t : Standing) → Holdable s → Holdable t → Alike s t → meaning s ≡ meaning t
