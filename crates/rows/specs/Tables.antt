-- The records of a table. Assumes nothing.
use Rattle.std.specs.Prelude.{◌≡◌, ℕ, List, take}
use Rattle.std.specs.Fn.{Shared, FnReturns}
use Rattle.rows.specs.declared.table.Table.{Table}

-- The first of its places, as many as are counted.
abbrev pub records : {T : Type 0} {N : ℕ} → Table T N → List T
records table = take table.count table.places

-- What a rule gives of a number is what the function gives of it.
abbrev pub GivesOfNumbers : {F T : Type 0} → Shared F (ℕ × Unit {0}) T → F → (ℕ → T) → Type 0
GivesOfNumbers {F} {T} calls rule g = (i : ℕ) (y : T) → FnReturns calls rule (i, tt) y → y ≡ g i
