-- What an image without a fault in its head has met, and that its records have its bytes. Assumes nothing.
use Rattle.std.proofs.Common.{◌≡◌, ℕ, zero, suc, ◌+◌, ◌*◌, ◌<◌, ◌≤◌, List, ◌++◌, map, length, take, drop, Some, None, Ok, Option, sym, refl, ap, ◌∙◌, subst, mul-zero, mul-one, mul-suc, mul-add, arith, take-add}
use Rattle.std.specs.List.{range_with_len, flat_map}
use Rattle.std.specs.Int.Digits.{AllBelowBase}
use Rattle.std.proofs.lemmas.List.FromFn.{length-map-range_with_len}
use Rattle.std.proofs.lemmas.List.{drop-drop, length-drop, take_all, take-append-drop}
use Rattle.std.proofs.lemmas.Bool.Decides.{nat_tests}
use Rattle.image.specs.declared.record.AccountRecord.{AccountRecord}
use Rattle.image.specs.declared.record.ParticipantRecord.{ParticipantRecord}
use Rattle.image.specs.declared.tables.Image.{Image}
use Rattle.image.specs.declared.fault.ImageFault.{ImageFault}
use Rattle.image.specs.declared.fault.ImageFault.TheVariants.{Short, Version, Participants, Accounts, Length}
use Rattle.image.specs.Faults.{head_fault, unless, image_of, place_of}
use Rattle.image.specs.Layout.{version, stated_length, participant_count, account_count, length_for, participant_at, account_at, participant_place, account_place, Records, records_at, records_of, number_bytes, participant_bytes, account_bytes, head_bytes, bytes_of, FewRecords}
use Rattle.rows.specs.Tables.{records as table_records}
use Rattle.image.proofs.Numbers.{bytes_of_field}

-- what reading gives without a fault
pub unless_ok : {E Y : Type 0} (fault : Option E) (read got : Y) → Ok got ≡ unless fault read → (fault ≡ None) × (got ≡ read)
unless_ok None read got e = (refl, cc)
unless_ok (Some x) read got e = absurd cc

-- What a head without a fault has met.
pub record Headed (bytes : List ℕ) : Type 0 where
  pub first_version : version bytes ≡ 1
  pub some_participants : 1 ≤ participant_count bytes
  pub few_participants : participant_count bytes ≤ 64
  pub few_accounts : account_count bytes ≤ 128
  pub long : length bytes ≡ length_for (participant_count bytes) (account_count bytes)
  pub stated : stated_length bytes ≡ length_for (participant_count bytes) (account_count bytes)

pub headed : (bytes : List ℕ) → head_fault bytes ≡ None → Headed bytes
unfolding head_fault
headed bytes e = record {
  first_version = grind (arith, nat_tests);
  some_participants = grind (arith, nat_tests);
  few_participants = grind (arith, nat_tests);
  few_accounts = grind (arith, nat_tests);
  long = grind (arith, nat_tests);
  stated = grind (arith, nat_tests);
}

-- two parts that follow each other
joint : (bytes : List ℕ) (at m n next : ℕ) → next ≡ at + m → take m (drop at bytes) ++ take n (drop next bytes) ≡ take (m + n) (drop at bytes)
joint bytes at m n next e =
    ap (λ k. take m (drop at bytes) ++ take n (drop k bytes)) e
    ∙ ap (λ l. take m (drop at bytes) ++ take n l) (sym (drop-drop m at bytes))
    ∙ sym (take-add m n (drop at bytes))

module _ (bytes : List ℕ) (under : AllBelowBase 256 bytes) where
  -- a field's bytes, ahead of those of the fields that follow
  field : (at width rest next value : ℕ) (after : List ℕ) → at + width ≤ length bytes → value ≡ at + width → after ≡ take rest (drop value bytes) → number_bytes width next ≡ take width (drop at bytes) → number_bytes width next ++ after ≡ take (width + rest) (drop at bytes)
  field at width rest next value after within e later own =
      ap (λ l. l ++ after) own ∙ ap (λ l. take width (drop at bytes) ++ l) later ∙ joint bytes at width rest value e

  participant_kept : (at : ℕ) → at + 21 ≤ length bytes → participant_bytes (participant_at bytes at) ≡ take 21 (drop at bytes)
  participant_kept at within =
      field at 4 17 _ (at + 4) _ (omega arith) refl
      (field (at + 4) 4 13 _ (at + 8) _ (omega arith) (omega arith)
      (field (at + 8) 4 9 _ (at + 12) _ (omega arith) (omega arith)
      (field (at + 12) 4 5 _ (at + 16) _ (omega arith) (omega arith)
      (field (at + 16) 4 1 _ (at + 20) _ (omega arith) (omega arith)
      (bytes_of_field bytes under (at + 20) 1 (omega arith))
      (bytes_of_field bytes under (at + 16) 4 (omega arith)))
      (bytes_of_field bytes under (at + 12) 4 (omega arith)))
      (bytes_of_field bytes under (at + 8) 4 (omega arith)))
      (bytes_of_field bytes under (at + 4) 4 (omega arith)))
      (bytes_of_field bytes under at 4 (omega arith))

  account_kept : (at : ℕ) → at + 24 ≤ length bytes → account_bytes (account_at bytes at) ≡ take 24 (drop at bytes)
  account_kept at within =
      field at 4 20 _ (at + 4) _ (omega arith) refl
      (field (at + 4) 4 16 _ (at + 8) _ (omega arith) (omega arith)
      (field (at + 8) 8 8 _ (at + 16) _ (omega arith) (omega arith)
      (bytes_of_field bytes under (at + 16) 8 (omega arith))
      (bytes_of_field bytes under (at + 8) 8 (omega arith)))
      (bytes_of_field bytes under (at + 4) 4 (omega arith)))
      (bytes_of_field bytes under at 4 (omega arith))

  head_kept : Headed bytes → head_bytes (participant_count bytes) (account_count bytes) ≡ take 7 bytes
  head_kept ok =
      let long = ok.long in
      field 0 1 6 _ 1 _ (omega arith) refl
      (field 1 4 2 _ 5 _ (omega arith) refl
      (field 5 1 1 _ 6 _ (omega arith) refl
      (bytes_of_field bytes under 6 1 (omega arith))
      (bytes_of_field bytes under 5 1 (omega arith)))
      (ap (number_bytes 4) (sym ok.stated) ∙ bytes_of_field bytes under 1 4 (omega arith)))
      (ap (number_bytes 1) (sym ok.first_version) ∙ bytes_of_field bytes under 0 1 (omega arith))

abbrev records : List ParticipantRecord → List AccountRecord → Records
records participants accounts = record { participants = participants; accounts = accounts }

-- records of so many bytes each, one behind the other
module _ {R : Type 0} (write : R → List ℕ) (read : ℕ → R) (bytes : List ℕ) (width first : ℕ) (kept : (i : ℕ) → first + width * i + width ≤ length bytes → write (read i) ≡ take width (drop (first + width * i) bytes)) where
  table_kept : (k n : ℕ) → first + width * k + width * n ≤ length bytes → flat_map write (map read (range_with_len k n)) ≡ take (width * n) (drop (first + width * k) bytes)
  table_kept k zero within = ap (λ m. take m (drop (first + width * k) bytes)) (sym (mul-zero width))
  table_kept k (suc n) within =
      let wide : width * suc n ≡ width * n + width = mul-suc width n in
      let next : width * (k + 1) ≡ width * k + width = mul-add width k 1 ∙ ap (λ m. width * k + m) (mul-one width) in
      ap (λ l. l ++ flat_map write (map read (range_with_len (k + 1) n))) (kept k (omega arith))
      ∙ ap (λ l. take width (drop (first + width * k) bytes) ++ l) (table_kept (k + 1) n (omega arith))
      ∙ joint bytes (first + width * k) width (width * n) (first + width * (k + 1)) (omega arith)
      ∙ ap (λ m. take m (drop (first + width * k) bytes)) (let sum : width + width * n ≡ width * suc n = omega arith in sum)

-- the records of an image have its bytes
pub records_have_the_bytes : (bytes : List ℕ) → AllBelowBase 256 bytes → Headed bytes → bytes_of (records_at bytes) ≡ bytes
unfolding records_at
records_have_the_bytes bytes under ok =
    let p = participant_count bytes in
    let a = account_count bytes in
    let long = ok.long in
    let participants = map (λ i. participant_at bytes (participant_place i)) (range_with_len 0 p) in
    let accounts = map (λ i. account_at bytes (account_place p i)) (range_with_len 0 a) in
    ap (λ n. head_bytes n (length accounts) ++ (flat_map participant_bytes participants ++ flat_map account_bytes accounts)) (length-map-range_with_len (λ i. participant_at bytes (participant_place i)) 0 p)
    ∙ ap (λ n. head_bytes p n ++ (flat_map participant_bytes participants ++ flat_map account_bytes accounts)) (length-map-range_with_len (λ i. account_at bytes (account_place p i)) 0 a)
    ∙ ap (λ l. l ++ (flat_map participant_bytes participants ++ flat_map account_bytes accounts)) (head_kept bytes under ok)
    ∙ ap (λ l. take 7 bytes ++ (l ++ flat_map account_bytes accounts)) (table_kept participant_bytes (λ i. participant_at bytes (participant_place i)) bytes 21 7 (λ i h. participant_kept bytes under (participant_place i) (omega arith)) 0 p (omega arith))
    ∙ ap (λ l. take 7 bytes ++ (take (21 * p) (drop 7 bytes) ++ l)) (table_kept account_bytes (λ i. account_at bytes (account_place p i)) bytes 24 (7 + 21 * p) (λ i h. account_kept bytes under (account_place p i) (omega arith)) 0 a (omega arith))
    ∙ ap (λ l. take 7 bytes ++ l) (joint bytes 7 (21 * p) (24 * a) (7 + 21 * p + 24 * 0) (omega arith) ∙ take_all (21 * p + 24 * a) (drop 7 bytes) (omega (arith, length-drop 7 bytes)))
    ∙ take-append-drop 7 bytes

-- what is read into the tables are the records of the bytes
module _ (bytes : List ℕ) (image : Image) (ok : Headed bytes) where
  pub reads_the_records : (participants accounts first : ℕ) → participants ≡ participant_count bytes → accounts ≡ account_count bytes → first ≡ account_place participants 0
      → table_records image.participants ≡ map (λ i. participant_at bytes (7 + 21 * i)) (range_with_len 0 participants)
      → table_records image.accounts ≡ map (λ i. account_at bytes (first + 24 * i)) (range_with_len 0 accounts)
      → records_of image ≡ records_at bytes
  unfolding records_of records_at
  reads_the_records participants accounts first p a f ps qs =
      let at : first ≡ 7 + 21 * participant_count bytes = omega arith in
      ap (λ l. records l (table_records image.accounts)) (ps ∙ ap (λ n. map (λ i. participant_at bytes (7 + 21 * i)) (range_with_len 0 n)) p)
      ∙ ap (records _) (qs ∙ ap (λ n. map (λ i. account_at bytes (first + 24 * i)) (range_with_len 0 n)) a
      ∙ ap (λ n. map (λ i. account_at bytes (n + 24 * i)) (range_with_len 0 (account_count bytes))) at)

-- the counts of an image without a fault in its head
pub few_records : (bytes : List ℕ) → Headed bytes → FewRecords (records_at bytes)
unfolding records_at
few_records bytes ok =
    let participants = length-map-range_with_len (λ i. participant_at bytes (participant_place i)) 0 (participant_count bytes) in
    let accounts = length-map-range_with_len (λ i. account_at bytes (account_place (participant_count bytes) i)) 0 (account_count bytes) in
    record { some_participants = omega arith; at_most_64_participants = omega arith; at_most_128_accounts = omega arith }

-- the same of whatever reading gives
pub few_from_reading : (bytes : List ℕ) (r : Records) → Ok r ≡ image_of bytes → FewRecords r
few_from_reading bytes r e =
    let ok = unless_ok (head_fault bytes) (records_at bytes) r e in
    subst FewRecords (sym ok.1) (few_records bytes (headed bytes ok.0))

-- each fault of the head is told at a byte of it
pub head_place : (fault : ImageFault) → place_of fault < 7
head_place Short = omega arith
head_place Version = omega arith
head_place Participants = omega arith
head_place Accounts = omega arith
head_place Length = omega arith
