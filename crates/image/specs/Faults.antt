-- What is wrong with the head of an image, and what reading one gives. Assumes nothing.
use Rattle.std.specs.Prelude.{ℕ, Bool, cond, not, ◌||◌, List, length, Some, None, Ok, Err, Option, Result, ◌==◌, nat_lt}
use Rattle.image.specs.declared.fault.ImageFault.{ImageFault}
use Rattle.image.specs.declared.fault.ImageFault.TheVariants.{Short, Version, Participants, Accounts, Length}
use Rattle.image.specs.Layout.{Records, version, stated_length, participant_count, account_count, length_for, records_at}

-- The number by which each fault is told.
abbrev pub number_of : ImageFault → ℕ
number_of Short = 13
number_of Version = 12
number_of Participants = 14
number_of Accounts = 14
number_of Length = 13

-- The byte at which each fault is told.
abbrev pub place_of : ImageFault → ℕ
place_of Short = 0
place_of Version = 0
place_of Participants = 5
place_of Accounts = 6
place_of Length = 1

-- A length is stated that differs from the bytes given, or from the one that the counts give.
abbrev pub misstated : List ℕ → Bool
misstated bytes =
    not (stated_length bytes == length bytes)
    || not (stated_length bytes == length_for (participant_count bytes) (account_count bytes))

-- The first fault of the head, if it has one.
unfoldable pub head_fault : List ℕ → Option ImageFault
head_fault bytes =
    cond (nat_lt (length bytes) 7) (Some Short)
    (cond (not (version bytes == 1)) (Some Version)
    (cond (nat_lt (participant_count bytes) 1 || nat_lt 64 (participant_count bytes)) (Some Participants)
    (cond (nat_lt 128 (account_count bytes)) (Some Accounts)
    (cond (misstated bytes) (Some Length) None))))

-- What is read where there is no fault, else the fault.
abbrev pub unless : {E Y : Type 0} → Option E → Y → Result Y E
unless None read = Ok read
unless (Some fault) read = Err fault

-- What reading an image gives: its first fault, or its records.
abbrev pub image_of : List ℕ → Result Records ImageFault
image_of bytes = unless (head_fault bytes) (records_at bytes)
