-- What is asked of a rule that makes one thing of another, and what it gives. Assumes nothing.
use Rattle.std.specs.Prelude.{◌≡◌, List}
use Rattle.std.specs.Fn.{Once, Shared, FnReturnsAt, FnOnceReturnsAtMut}
use Rattle.std.specs.List.{ContainsAt as Has}
use denote.Ref.{Bor, MutBor}

module _ {F S T : Type 0} (calls : Shared F (Bor S × Unit {0}) T) (rule : F) where
  -- It may be called at each item of a row.
  abbrev pub TakesEach : List S → Type 0
  TakesEach row = (x : Bor S) → Has row x.now → calls.pre rule (x, tt)

  -- What it gives of an item is what the function gives of it.
  abbrev pub GivesOfEach : (S → T) → Type 0
  GivesOfEach g = (x : S) (y : T) → FnReturnsAt calls rule x y → y ≡ g x

-- What a rule that changes a thing leaves in its place is what the function gives of it.
abbrev pub ChangesBy : {F T : Type 0} → Once F (MutBor T × Unit {0}) (Unit {0} × (MutBor T × Unit {0})) → F → (T → T) → Type 0
ChangesBy {F} {T} calls rule g = (x y : T) → FnOnceReturnsAtMut calls rule x tt y → y ≡ g x
