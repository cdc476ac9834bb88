-- Where a fault can be told. Assumes nothing.
use Rattle.std.proofs.Common.{◌≡◌, ℕ, suc, ◌+◌, ◌*◌, ◌<◌, ◌≤◌, List, [], ◌∷◌, length, Some, None, Ok, Err, Option, Result, sym, refl, ap, subst, mul-suc, arith}
use Rattle.std.proofs.lemmas.List.{length-map}
use Rattle.std.proofs.lemmas.Bool.Decides.{nat_tests}
use Rattle.image.specs.declared.fault.ImageFault.{ImageFault}
use Rattle.image.specs.declared.record.AccountRecord.{AccountRecord}
use Rattle.image.specs.declared.record.ParticipantRecord.{ParticipantRecord}
use Rattle.image.specs.Faults.{image_of}
use Rattle.image.specs.Layout.{Records, FewRecords, account_place}
use Rattle.image.proofs.Images.{few_from_reading, head_place}
use Rattle.roll.specs.declared.fault.RollFault.{RollFault}
use Rattle.roll.specs.declared.fault.RollFault.TheVariants.{Image, Field}
use Rattle.roll.specs.Faults.{place_of}
use Rattle.roll.specs.Limits.{participant_fault, account_fault, from_place, first_of, first_fault, field_fault, enrolled, enrolled_all, opening_balance, admitted, roll_read, roll_of}
use Rattle.roll.specs.Standing.{Standing}

-- the first fault of a table lies in the table
module _ {R : Type 0} (fault : R → Option ℕ) (width : ℕ) (within : (r : R) (offset : ℕ) → fault r ≡ Some offset → offset < width) where
  in_record : (place n : ℕ) (r : R) (own later : Option ℕ) (found : ℕ) → fault r ≡ own → (later ≡ Some found → found < place + width + width * n) → first_of (from_place place own) later ≡ Some found → found < place + width * suc n
  in_record place n r (Some offset) later found is past e =
      let same : place + offset ≡ found = cc in
      omega (arith, same, within r offset is, mul-suc width n)
  in_record place n r None later found is past e = omega (arith, past e, mul-suc width n)

  in_table : (place : ℕ) (rs : List R) (found : ℕ) → first_fault fault width place rs ≡ Some found → found < place + width * length rs
  unfolding first_fault
  in_table place [] found e = absurd cc
  in_table place (r ∷ rs) found e = in_record place (length rs) r (fault r) (first_fault fault width (place + width) rs) found refl (in_table (place + width) rs found) e

participant_offset : (p : ParticipantRecord) (offset : ℕ) → participant_fault p ≡ Some offset → offset < 21
participant_offset p offset e = grind (arith, nat_tests)

account_offset : (a : AccountRecord) (offset : ℕ) → account_fault a ≡ Some offset → offset < 24
account_offset a offset e = grind (arith, nat_tests)

-- a field's fault lies in the image
either_table : (first later : Option ℕ) (found most : ℕ) → first_of first later ≡ Some found → (first ≡ Some found → found < most) → (later ≡ Some found → found < most) → found < most
either_table (Some place) later found most e one two = one e
either_table None later found most e one two = two e

field_in_image : (r : Records) → FewRecords r → (found : ℕ) → field_fault r ≡ Some found → found < 4423
unfolding field_fault
field_in_image r few found e =
    either_table (first_fault participant_fault 21 7 r.participants) (first_fault account_fault 24 (account_place (length r.participants) 0) r.accounts) found 4423 e
    (λ h. omega (arith, in_table participant_fault 21 participant_offset 7 r.participants found h, few.at_most_64_participants))
    (λ h. omega (arith, in_table account_fault 24 account_offset (account_place (length r.participants) 0) r.accounts found h, few.at_most_64_participants, few.at_most_128_accounts))

-- whatever reading a roll tells is told at a byte of the longest image
told_in_image : (r : Records) → FewRecords r → (found : Option ℕ) → field_fault r ≡ found → (fault : RollFault) → Err fault ≡ admitted r found → place_of fault < 4423
told_in_image r few None is fault e = absurd cc
told_in_image r few (Some place) is fault e =
    let same : fault ≡ Field place = cc in
    omega (arith, ap place_of same, field_in_image r few place is)

read_in_image : (read : Result Records ImageFault) → ((r : Records) → Ok r ≡ read → FewRecords r) → (fault : RollFault) → Err fault ≡ roll_read read → place_of fault < 4423
read_in_image (Ok r) few fault e = told_in_image r (few r refl) (field_fault r) refl fault e
read_in_image (Err head) few fault e =
    let same : fault ≡ Image head = cc in
    omega (arith, ap place_of same, head_place head)

pub roll_place : (bytes : List ℕ) (fault : RollFault) → Err fault ≡ roll_of bytes → place_of fault < 4423
roll_place bytes fault e = read_in_image (image_of bytes) (few_from_reading bytes) fault e

-- a roll that was read has few records
pub record Few (s : Standing) : Type 0 where
  pub few_participants : length s.participants ≤ 64
  pub few_accounts : length s.accounts ≤ 128

admitted_few : (r : Records) → FewRecords r → (found : Option ℕ) (s : Standing) → Ok s ≡ admitted r found → Few s
admitted_few r few None s e =
    let same : s ≡ enrolled_all r = cc in
    subst Few (sym same) record { few_participants = omega (arith, length-map r.participants enrolled, few.at_most_64_participants); few_accounts = omega (arith, length-map r.accounts opening_balance, few.at_most_128_accounts) }
admitted_few r few (Some place) s e = absurd cc

read_few : (read : Result Records ImageFault) → ((r : Records) → Ok r ≡ read → FewRecords r) → (s : Standing) → Ok s ≡ roll_read read → Few s
read_few (Ok r) few s e = admitted_few r (few r refl) (field_fault r) s e
read_few (Err head) few s e = absurd cc

pub roll_few : (bytes : List ℕ) (s : Standing) → Ok s ≡ roll_of bytes → Few s
roll_few bytes s e = read_few (image_of bytes) (few_from_reading bytes) s e
