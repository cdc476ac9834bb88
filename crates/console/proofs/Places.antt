-- Where a byte first stands among others.
use Rattle.std.proofs.Common.{◌≡◌, ℕ, ◌≤◌, Bool, true, false, cond, not, List, length, nat_lt, Some, None, Option, arith}
use Rattle.std.specs.List.{position, position_or_len}
use Rattle.std.specs.Option.{unwrap_or}
use Rattle.std.proofs.lemmas.List.Sums.{prefix_len-le-length}
use Rattle.std.proofs.lemmas.Bool.Decides.{nat_tests}

at_place : (within : Bool) (place at : ℕ) → Some at ≡ cond within (Some place) None → at ≡ place
at_place true place at e = cc
at_place false place at e = cc

-- It stands at its place, or at none.
pub found : (p : ℕ → Bool) (bytes : List ℕ) (at : ℕ) → Some at ≡ position p bytes → at ≡ position_or_len p bytes
found p bytes at e = at_place _ _ at e

beyond : (place many : ℕ) → None ≡ cond (nat_lt place many) (Some place) None → many ≤ place
beyond place many e = grind (arith, nat_tests)

pub missed : (p : ℕ → Bool) (bytes : List ℕ) → None ≡ position p bytes → length bytes ≤ position_or_len p bytes
missed p bytes e = beyond _ _ e

up_to : (place many : ℕ) (o : Option ℕ) → o ≡ cond (nat_lt place many) (Some place) None → place ≤ many → unwrap_or o many ≡ place
up_to place many None e small = let past = beyond place many e in omega arith
up_to place many (Some at) e small = at_place _ place at e

-- Its place, or the end of the bytes where it has none.
pub place_or_end : (p : ℕ → Bool) (bytes : List ℕ) (o : Option ℕ) → o ≡ position p bytes → unwrap_or o (length bytes) ≡ position_or_len p bytes
place_or_end p bytes o e = up_to _ _ o e (prefix_len-le-length (λ b. not (p b)) bytes)
