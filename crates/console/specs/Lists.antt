-- Lists that are told part by part: all of it, or none where a part is missing. Assumes nothing.
use Rattle.std.specs.Prelude.{List, ◌∷◌, Some, None, Option}

abbrev pub with_first : {X : Type 0} → Option X → Option (List X) → Option (List X)
with_first None rest = None
with_first (Some x) None = None
with_first (Some x) (Some xs) = Some (x ∷ xs)
