-- How an image is laid out: where each number stands, and which records it holds. Assumes nothing.
use Rattle.std.specs.Prelude.{ℕ, zero, suc, ◌+◌, ◌*◌, ◌/◌, ◌%◌, ◌≤◌, List, [], ◌∷◌, ◌++◌, map, length, take, drop}
use Rattle.std.specs.List.{range_with_len, flat_map}
use Rattle.std.specs.Int.Digits.{number_from_digits}
use Rattle.image.specs.declared.record.AccountRecord.{AccountRecord}
use Rattle.image.specs.declared.record.ParticipantRecord.{ParticipantRecord}
use Rattle.image.specs.declared.tables.Image.{Image}
use Rattle.rows.specs.Tables.{records}

-- The number that so many bytes from a place on are, the first byte weighing most.
abbrev pub number_at : ℕ → ℕ → List ℕ → ℕ
number_at at width bytes = number_from_digits 256 (take width (drop at bytes))

-- What the head of an image states.
abbrev pub version : List ℕ → ℕ
version bytes = number_at 0 1 bytes

abbrev pub stated_length : List ℕ → ℕ
stated_length bytes = number_at 1 4 bytes

abbrev pub participant_count : List ℕ → ℕ
participant_count bytes = number_at 5 1 bytes

abbrev pub account_count : List ℕ → ℕ
account_count bytes = number_at 6 1 bytes

-- The participant whose first byte stands at a place: five numbers of 4 bytes and a mark of one.
abbrev pub participant_at : List ℕ → ℕ → ParticipantRecord
participant_at bytes at = record {
  code = number_at at 4 bytes;
  futures = number_at (at + 4) 4 bytes;
  otc = number_at (at + 8) 4 bytes;
  margin = number_at (at + 12) 4 bytes;
  adjusted = number_at (at + 16) 4 bytes;
  scope = number_at (at + 20) 1 bytes;
}

-- The account whose first byte stands at a place: two codes of 4 bytes and two sums of 8.
abbrev pub account_at : List ℕ → ℕ → AccountRecord
account_at bytes at = record {
  code = number_at at 4 bytes;
  owner = number_at (at + 4) 4 bytes;
  funds = number_at (at + 8) 8 bytes;
  overnight = number_at (at + 16) 8 bytes;
}

-- The records of an image, in its order.
pub record Records : Type 0 where
  pub participants : List ParticipantRecord
  pub accounts : List AccountRecord

-- The first byte of a participant, and of an account after so many participants.
abbrev pub participant_place : ℕ → ℕ
participant_place i = 7 + 21 * i

abbrev pub account_place : ℕ → ℕ → ℕ
account_place participants i = 7 + 21 * participants + 24 * i

-- The records that the bytes hold.
unfoldable pub records_at : List ℕ → Records
records_at bytes = record {
  participants = map (λ i. participant_at bytes (participant_place i)) (range_with_len 0 (participant_count bytes));
  accounts = map (λ i. account_at bytes (account_place (participant_count bytes) i)) (range_with_len 0 (account_count bytes));
}

-- The records that an image in memory holds: those of its tables.
unfoldable pub records_of : Image → Records
records_of image = record { participants = records image.participants; accounts = records image.accounts }

-- The other way: the bytes that records are written as. A number in so many bytes, the first weighing most.
unfoldable pub number_bytes : ℕ → ℕ → List ℕ
number_bytes zero n = []
number_bytes (suc width) n = number_bytes width (n / 256) ++ n % 256 ∷ []

abbrev pub participant_bytes : ParticipantRecord → List ℕ
participant_bytes p =
    number_bytes 4 p.code
    ++ (number_bytes 4 p.futures
    ++ (number_bytes 4 p.otc
    ++ (number_bytes 4 p.margin
    ++ (number_bytes 4 p.adjusted
    ++ number_bytes 1 p.scope))))

abbrev pub account_bytes : AccountRecord → List ℕ
account_bytes a =
    number_bytes 4 a.code
    ++ (number_bytes 4 a.owner
    ++ (number_bytes 8 a.funds
    ++ number_bytes 8 a.overnight))

-- The length of an image with so many participants and accounts.
abbrev pub length_for : ℕ → ℕ → ℕ
length_for participants accounts = 7 + 21 * participants + 24 * accounts

abbrev pub head_bytes : ℕ → ℕ → List ℕ
head_bytes participants accounts =
    number_bytes 1 1
    ++ (number_bytes 4 (length_for participants accounts)
    ++ (number_bytes 1 participants
    ++ number_bytes 1 accounts))

-- The image of the records.
abbrev pub bytes_of : Records → List ℕ
bytes_of r =
    head_bytes (length r.participants) (length r.accounts)
    ++ (flat_map participant_bytes r.participants
    ++ flat_map account_bytes r.accounts)

-- The counts of an image are within their limits.
pub record FewRecords (r : Records) : Type 0 where
  pub some_participants : 1 ≤ length r.participants
  pub at_most_64_participants : length r.participants ≤ 64
  pub at_most_128_accounts : length r.accounts ≤ 128
