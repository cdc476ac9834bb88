-- What a roll that is admitted has met: a book can hold it. Assumes nothing.
use Rattle.std.proofs.Common.{◌≡◌, ℕ, ◌<◌, false, eqb, ltb, None, Ok, Option, Result, arith}
use Rattle.rows.proofs.Counts.{none_twice, none_by_number}
use Rattle.roll.specs.declared.participant.Participant.{Participant}
use Rattle.roll.specs.Holdable.{Holdable}
use Rattle.roll.specs.Marks.{blank}
use Rattle.roll.specs.Read.{WithinLimits}
use Rattle.roll.specs.Standing.{Balance, Standing, participants_with, money_of}
use Rattle.book.specs.declared.checks.RollCheck.{RollCheck}
use Rattle.book.specs.declared.checks.RollCheck.TheVariants.{ParticipantTwice, AccountTwice, OwnerUnknown, AboveLimit}
use Rattle.book.specs.declared.fault.OpenFault.{OpenFault}
use Rattle.book.specs.Checks.{failed, table_length, first_place}
use Rattle.book.specs.Opening.{passed, passed_unless, and_then, checked}
use Rattle.book.proofs.Firsts.{fails_everywhere}

abbrev blank_balance : Balance
blank_balance = record { code = 0; owner = 0; funds = 0; overnight = 0 }

-- accepted, one after the other
both_passed : (a b : Result (Unit {0}) OpenFault) → and_then a b ≡ Ok tt → (a ≡ Ok tt) × (b ≡ Ok tt)
both_passed a b e = (grind arith, grind arith)

-- a check that is passed fails at no record
no_place : (check : RollCheck) (found : Option ℕ) → passed_unless check found ≡ Ok tt → found ≡ None
no_place check found e = grind arith

nowhere_failed : (check : RollCheck) (s : Standing) → passed check s ≡ Ok tt → (k : ℕ) → k < table_length check s → failed check s k ≡ false
unfolding passed
nowhere_failed check s e k within = fails_everywhere (failed check s) (table_length check s) 0 (no_place check (first_place check s) e) k (omega arith) (omega arith)

pub holdable : (s : Standing) → WithinLimits s → checked s ≡ Ok tt → Holdable s
holdable s within e =
    let first = both_passed (passed ParticipantTwice s) _ e in
    let second = both_passed (passed AccountTwice s) _ first.1 in
    let third = both_passed (passed OwnerUnknown s) _ second.1 in
    let none = within.no_defaults in
    record {
      few_participants = within.few_participants;
      few_accounts = within.few_accounts;
      participants_within = within.participants_within;
      accounts_within = within.accounts_within;
      participants_apart = none_twice (λ (p : Participant). p.code) s.participants blank (nowhere_failed ParticipantTwice s first.0);
      accounts_apart = none_twice (λ (a : Balance). a.code) s.accounts blank_balance (nowhere_failed AccountTwice s second.0);
      owners_known = none_by_number (λ (a : Balance). a.owner) (λ n. eqb (participants_with n s.participants) 0) s.accounts blank_balance (nowhere_failed OwnerUnknown s third.0);
      nobody_above = none_by_number (λ (p : Participant). p.code) (λ n. ltb 9000000000 (money_of n s.accounts)) s.participants blank (nowhere_failed AboveLimit s third.1);
      defaults_marked = omega arith;
    }
