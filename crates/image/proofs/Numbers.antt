-- Numbers of several bytes, and the bytes of a number. Assumes nothing.
use Rattle.std.proofs.Common.{◌≡◌, ℕ, zero, suc, ◌+◌, ◌*◌, ◌/◌, ◌%◌, ◌<◌, ◌≤◌, List, [], ◌∷◌, ◌++◌, length, get_or, take, drop, sym, refl, ap, ◌∙◌, add-one, arith, w8, Fits}
use lib.Arith.{digits_div, digits_mod}
use Rattle.std.specs.Int.Digits.{number_from_digits, AllBelowBase}
use Rattle.std.proofs.lemmas.Int.Digits.{number_more}
use Rattle.std.proofs.ByRecursion.{All-from_get_or, All-get_or, All-take, All-drop}
use Rattle.std.proofs.lemmas.List.{length-take-le, length-drop, take_all, take_more}
use Rattle.image.specs.Layout.{number_at, number_bytes}

-- bytes are below 256
pub bytes_under : (bytes : List ℕ) → ((i : ℕ) → Fits w8 (get_or bytes i 0)) → AllBelowBase 256 bytes
bytes_under bytes fit = All-from_get_or (λ b. b < 256) bytes 0 (λ i h. omega (arith, fit i))

-- the bytes of the number that bytes are
module _ (bytes : List ℕ) (under : AllBelowBase 256 bytes) where
  taken : (n : ℕ) → n ≤ length bytes → number_bytes n (number_from_digits 256 (take n bytes)) ≡ take n bytes
  unfolding number_bytes
  taken zero h = refl
  taken (suc n) h =
      let within : n < length bytes = omega arith in
      let small : get_or bytes n 0 < 256 = All-get_or (λ b. b < 256) bytes n 0 within under in
      let more : number_from_digits 256 (take (n + 1) bytes) ≡ number_from_digits 256 (take n bytes) * 256 + get_or bytes n 0 = number_more 256 bytes n within in
      let one : n + 1 ≡ suc n = add-one n in
      let whole : number_from_digits 256 (take (suc n) bytes) ≡ number_from_digits 256 (take n bytes) * 256 + get_or bytes n 0 = ap (λ k. number_from_digits 256 (take k bytes)) (sym one) ∙ more in
      ap (λ m. number_bytes n (m / 256) ++ m % 256 ∷ []) whole
      ∙ ap (λ m. number_bytes n m ++ (number_from_digits 256 (take n bytes) * 256 + get_or bytes n 0) % 256 ∷ []) (digits_div (number_from_digits 256 (take n bytes)) small)
      ∙ ap (λ m. number_bytes n (number_from_digits 256 (take n bytes)) ++ m ∷ []) (digits_mod (number_from_digits 256 (take n bytes)) small)
      ∙ ap (λ l. l ++ get_or bytes n 0 ∷ []) (taken n (omega arith))
      ∙ sym (take_more bytes n 0 within)
      ∙ ap (λ k. take k bytes) one

pub bytes_of_number : (bytes : List ℕ) → AllBelowBase 256 bytes → number_bytes (length bytes) (number_from_digits 256 bytes) ≡ bytes
bytes_of_number bytes under =
    ap (λ l. number_bytes (length bytes) (number_from_digits 256 l)) (sym (take_all (length bytes) bytes (omega arith)))
    ∙ taken bytes under (length bytes) (omega arith)
    ∙ take_all (length bytes) bytes (omega arith)

-- the same of a field: so many bytes from a place on
pub bytes_of_field : (bytes : List ℕ) → AllBelowBase 256 bytes → (at width : ℕ) → at + width ≤ length bytes → number_bytes width (number_at at width bytes) ≡ take width (drop at bytes)
bytes_of_field bytes under at width within =
    let field = take width (drop at bytes) in
    let long : length field ≡ width = length-take-le width (drop at bytes) (omega (arith, length-drop at bytes)) in
    ap (λ n. number_bytes n (number_from_digits 256 field)) (sym long)
    ∙ bytes_of_number field (All-take (λ b. b < 256) width (drop at bytes) (All-drop (λ b. b < 256) at bytes under))
