-- The check's answer, from which number and place can be read off. Assumes nothing.
use Rattle.std.proofs.Common.{◌≡◌, ℕ, zero, suc, ◌+◌, ◌<◌, ◌≤◌, Bool, List, Some, None, Ok, Err, Option, Result, IfSome, IfErr, sym, refl, subst, arith}
use Rattle.std.proofs.lemmas.Option.{IfSome_then}
use Rattle.roll.specs.declared.fault.RollFault.{RollFault}
use Rattle.roll.specs.Faults as roll
use Rattle.roll.specs.Limits.{roll_of}
use Rattle.roll.specs.Standing.{Standing}
use Rattle.roll.proofs.Places.{Few, roll_few, roll_place}
use Rattle.book.specs.declared.checks.RollCheck.{RollCheck}
use Rattle.book.specs.declared.checks.RollCheck.TheVariants.{ParticipantTwice, AccountTwice, OwnerUnknown, AboveLimit}
use Rattle.book.specs.declared.fault.OpenFault.{OpenFault}
use Rattle.book.specs.Checks.{table_length, failed, first_from, first_place}
use Rattle.book.specs.Faults.{place_of}
use Rattle.book.specs.Opening.{passed_unless, passed, and_then, checked, opened, opening, check_value, Tells}

-- the place of the fault, if there is one, is below 10,000
abbrev PlaceFits : {Y : Type 0} → Result Y OpenFault → Type 0
PlaceFits r = IfErr r (λ fault. place_of fault < 10000)

-- the first place at which a test holds is one of those looked at
first_within : (test : ℕ → Bool) (n k : ℕ) → IfSome (first_from test k n) (λ found. found < k + n)
unfolding first_from
first_within test zero k = tt
first_within test (suc n) k = let later = first_within test n (k + 1) in grind arith

-- a record that fails a check is one of its table
module _ (s : Standing) (few : Few s) where
  table_small : (check : RollCheck) → table_length check s ≤ 128
  table_small check = grind (arith, few)

  refused_fits : (check : RollCheck) (found : Option ℕ) → IfSome found (λ place. place < 10000) → PlaceFits (passed_unless check found)
  refused_fits check None small = tt
  refused_fits check (Some place) small = small

  passed_fits : (check : RollCheck) → PlaceFits (passed check s)
  unfolding passed
  passed_fits check = refused_fits check (first_place check s) (IfSome_then (first_place check s) (first_within (failed check s) (table_length check s) 0) (λ found h. omega (arith, table_small check)))

  both_fit : {Y : Type 0} (a : Result (Unit {0}) OpenFault) (b : Result Y OpenFault) → PlaceFits a → PlaceFits b → PlaceFits (and_then a b)
  both_fit (Ok t) b one two = two
  both_fit (Err f) b one two = one

  checked_fits : PlaceFits (checked s)
  checked_fits =
      both_fit (passed ParticipantTwice s) _ (passed_fits ParticipantTwice)
      (both_fit (passed AccountTwice s) _ (passed_fits AccountTwice)
      (both_fit (passed OwnerUnknown s) _ (passed_fits OwnerUnknown) (passed_fits AboveLimit)))

opened_fits : (read : Result Standing RollFault) → ((s : Standing) → Ok s ≡ read → Few s) → ((fault : RollFault) → Err fault ≡ read → roll.place_of fault < 4423) → PlaceFits (opened read)
opened_fits (Ok s) few low = both_fit s (few s refl) (checked s) (Ok s) (checked_fits s (few s refl)) tt
opened_fits (Err fault) few low = omega (arith, low fault refl)

told : (r : Result Standing OpenFault) → PlaceFits r → Tells (check_value r) r
told (Ok s) fits = refl
told (Err fault) fits = (omega arith, omega arith)

-- the check's answer tells what the opening would
pub tells : (bytes : List ℕ) (value : ℕ) → value ≡ check_value (opening bytes) → Tells value (opening bytes)
tells bytes value is = subst (λ v. Tells v (opening bytes)) (sym is) (told (opening bytes) (opened_fits (roll_of bytes) (roll_few bytes) (roll_place bytes)))
