-- Which fields of an image are outside their limits, and what reading a roll gives. Assumes nothing.
use Rattle.std.specs.Prelude.{◌≡◌, ℕ, ◌+◌, Bool, false, cond, ◌||◌, List, [], ◌∷◌, map, length, Some, None, Ok, Err, Option, Result, ◌==◌, nat_lt}
use Rattle.image.specs.declared.fault.ImageFault.{ImageFault}
use Rattle.image.specs.declared.record.AccountRecord.{AccountRecord}
use Rattle.image.specs.declared.record.ParticipantRecord.{ParticipantRecord}
use Rattle.image.specs.Faults as image
use Rattle.image.specs.Layout.{Records, bytes_of, participant_place, account_place}
use Rattle.roll.specs.declared.fault.RollFault.{RollFault}
use Rattle.roll.specs.declared.field.FieldFault.{FieldFault}
use Rattle.roll.specs.declared.fault.RollFault.TheVariants.{Image, Field}
use Rattle.roll.specs.declared.participant.Participant.{Participant}
use Rattle.roll.specs.Standing.{Balance, Standing}

-- A code is 1 to 999,999.
abbrev pub no_code : ℕ → Bool
no_code n = nat_lt n 1 || nat_lt 999999 n

-- The first field of a participant that is outside its limits, by the byte of the record where it begins.
abbrev pub participant_fault : ParticipantRecord → Option ℕ
participant_fault p =
    cond (no_code p.code) (Some 0)
    (cond (nat_lt 4000000000 p.futures) (Some 4)
    (cond (nat_lt 4000000000 p.otc) (Some 8)
    (cond (nat_lt 4000000000 p.margin) (Some 12)
    (cond (nat_lt 4000000000 p.adjusted) (Some 16)
    (cond (nat_lt 1 p.scope) (Some 20) None)))))

-- The first field of an account that is outside its limits.
abbrev pub account_fault : AccountRecord → Option ℕ
account_fault a =
    cond (no_code a.code) (Some 0)
    (cond (no_code a.owner) (Some 4)
    (cond (nat_lt 9000000000 a.funds) (Some 8)
    (cond (nat_lt 9000000000 a.overnight) (Some 16) None)))

-- A fault of a record that begins at this place, by its byte in the image.
abbrev pub from_place : ℕ → Option ℕ → Option ℕ
from_place place None = None
from_place place (Some offset) = Some (place + offset)

-- The earlier fault, or else the later one.
abbrev pub first_of : Option ℕ → Option ℕ → Option ℕ
first_of (Some place) later = Some place
first_of None later = later

-- The first fault in a table that begins at this place, by the bytes of a record.
unfoldable pub first_fault : {R : Type 0} → (R → Option ℕ) → ℕ → ℕ → List R → Option ℕ
first_fault fault width place [] = None
first_fault fault width place (r ∷ rs) = first_of (from_place place (fault r)) (first_fault fault width (place + width) rs)

-- The first field of the records that is outside its limits: participants first, then accounts.
unfoldable pub field_fault : Records → Option ℕ
field_fault r =
    first_of (first_fault participant_fault 21 (participant_place 0) r.participants)
    (first_fault account_fault 24 (account_place (length r.participants) 0) r.accounts)

-- The participant that a record enrols: nobody is in default yet.
abbrev pub enrolled : ParticipantRecord → Participant
enrolled r = record {
  code = r.code;
  futures = r.futures;
  otc = r.otc;
  margin = r.margin;
  adjusted = r.adjusted;
  in_scope = (r.scope == 1);
  in_default = false;
}

-- The balances that a record gives.
abbrev pub opening_balance : AccountRecord → Balance
opening_balance r = record { code = r.code; owner = r.owner; funds = r.funds; overnight = r.overnight }

-- The roll that records give.
abbrev pub enrolled_all : Records → Standing
enrolled_all r = record {
  participants = map enrolled r.participants;
  accounts = map opening_balance r.accounts;
  defaults = 0;
}

-- The first fault of the records, or the roll that they give.
abbrev pub admitted : Records → Option ℕ → Result Standing RollFault
admitted r None = Ok (enrolled_all r)
admitted r (Some place) = Err (Field place)

abbrev pub roll_read : Result Records ImageFault → Result Standing RollFault
roll_read (Err fault) = Err (Image fault)
roll_read (Ok r) = admitted r (field_fault r)

-- What reading a roll gives: the first fault of its image or of its fields, or how it stands.
abbrev pub roll_of : List ℕ → Result Standing RollFault
roll_of bytes = roll_read (image.image_of bytes)

-- The other way: the records of a roll, and their image.
abbrev pub participant_record : Participant → ParticipantRecord
participant_record p = record {
  code = p.code;
  futures = p.futures;
  otc = p.otc;
  margin = p.margin;
  adjusted = p.adjusted;
  scope = cond p.in_scope 1 0;
}

abbrev pub account_record : Balance → AccountRecord
account_record a = record { code = a.code; owner = a.owner; funds = a.funds; overnight = a.overnight }

abbrev pub roll_bytes : Standing → List ℕ
roll_bytes s = bytes_of record { participants = map participant_record s.participants; accounts = map account_record s.accounts }

-- What a table tells whose first fault that is.
abbrev pub told : Option ℕ → Result (Unit {0}) RollFault
told None = Ok tt
told (Some place) = Err (Field place)

-- What a record gives, as it is viewed: what it stands for where no field is outside its limits, else the byte where the first
-- begins that is.
abbrev pub Gives : {R X V : Type 0} → (R → Option ℕ) → (X → V) → (R → V) → R → Result X FieldFault → Type 0
Gives fault view gives r (Ok x) = (fault r ≡ None) × (view x ≡ gives r)
Gives fault view gives r (Err outside) = fault r ≡ Some outside.offset
