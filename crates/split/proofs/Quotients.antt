-- The whole parts and remainders of a row of divisions by one total. Assumes nothing.
use Rattle.std.proofs.Common.{◌≡◌, ℕ, zero, suc, ◌+◌, ◌*◌, ◌/◌, ◌<◌, ◌≤◌, Bool, ltb, ◌⊎◌, List, [], ◌∷◌, map, sum_by, count_by, refl, ap, ◌∙◌, inl, inr, ⊎_elim, mod-lt, add-mul, div-add-mod', mul-add, le_of_mul-le-mul_right, arith}
use native.Mathlib.Nat.{div-zero}
use Rattle.std.proofs.ByRecursion.{All-map}
use Rattle.std.proofs.lemmas.List.Sums.{sum_by-cons}
use Rattle.std.proofs.lemmas.Bool.{cases_lt, lt-ltb}
use Rattle.split.specs.declared.bearer.Stake.{Stake}
use Rattle.split.specs.declared.division.Division.{Division}
use Rattle.split.specs.Shares.{divide, divisions, all_weights, odd_dollars}
use Rattle.rows.proofs.Counts.{all_of, bit, sum_by-below}

abbrev whole_of : Division → ℕ
whole_of d = d.whole

abbrev remainder_of : Division → ℕ
remainder_of d = d.remainder

-- all the whole parts, and all the remainders
abbrev pub wholes : List Division → ℕ
wholes row = sum_by whole_of row

abbrev pub remainders : List Division → ℕ
remainders row = sum_by remainder_of row

-- a division that leaves something
abbrev pub left_over : Division → Bool
left_over d = ltb 0 d.remainder

-- each division is exact with its remainder, so a row of them is
pub parts_add : (sum total : ℕ) (xs : List Stake) → wholes (map (divide sum total) xs) * total + remainders (map (divide sum total) xs) ≡ sum * sum_by (λ (x : Stake). x.weight) xs
parts_add sum total [] = omega arith
parts_add sum total (x ∷ xs) =
    let row = map (divide sum total) xs in
    let own = div-add-mod' (sum * x.weight) total in
    let q = sum * x.weight / total in
    let rest = parts_add sum total xs in
    let a = ap (λ n. n * total) (sum_by-cons whole_of (divide sum total x) row) ∙ add-mul q (wholes row) total in
    let b = sum_by-cons remainder_of (divide sum total x) row in
    let c = ap (λ n. sum * n) (sum_by-cons (λ (y : Stake). y.weight) x xs) ∙ mul-add sum x.weight (sum_by (λ (y : Stake). y.weight) xs) in
    omega (arith, own, rest, a, b, c)

-- a division by nothing has no whole part
no_wholes : (sum : ℕ) (xs : List Stake) → wholes (map (divide sum 0) xs) ≡ 0
no_wholes sum [] = refl
no_wholes sum (x ∷ xs) = omega (arith, sum_by-cons whole_of (divide sum 0 x) (map (divide sum 0) xs), div-zero (sum * x.weight), no_wholes sum xs)

zero_or_more : (n : ℕ) → (n ≡ 0) ⊎ (0 < n)
zero_or_more zero = inl refl
zero_or_more (suc n) = inr (omega arith)

module _ (sum : ℕ) (xs : List Stake) where
  exact : wholes (divisions sum xs) * all_weights xs + remainders (divisions sum xs) ≡ sum * all_weights xs
  unfolding all_weights
  exact = parts_add sum (all_weights xs) xs

  -- the whole parts never come to more than the sum
  pub wholes_within : wholes (divisions sum xs) ≤ sum
  wholes_within =
      ⊎_elim
      (λ none. omega (arith, ap (λ n. wholes (map (divide sum n) xs)) none, no_wholes sum xs))
      (λ some.
      let le : wholes (divisions sum xs) * all_weights xs ≤ sum * all_weights xs = omega (arith, exact) in
      le_of_mul-le-mul_right le some)
      (zero_or_more (all_weights xs))

  -- so whole parts and odd dollars are the sum
  pub wholes_and_odd : wholes (divisions sum xs) + odd_dollars sum (divisions sum xs) ≡ sum
  unfolding odd_dollars
  wholes_and_odd = omega (arith, wholes_within)

  -- and the odd dollars are what the remainders come to
  pub odd_exact : odd_dollars sum (divisions sum xs) * all_weights xs ≡ remainders (divisions sum xs)
  odd_exact =
      omega (arith, exact, ap (λ n. n * all_weights xs) wholes_and_odd, add-mul (wholes (divisions sum xs)) (odd_dollars sum (divisions sum xs)) (all_weights xs))

  remainder_small : 0 < all_weights xs → (x : Stake) → (divide sum (all_weights xs) x).remainder ≤ bit (left_over (divide sum (all_weights xs) x)) * all_weights xs
  remainder_small some x =
      let r = (divide sum (all_weights xs) x).remainder in
      let small = mod-lt (sum * x.weight) some in
      ⊎_elim
      (λ above. omega (arith, small, ap (λ b. bit b * all_weights xs) (lt-ltb 0 r above)))
      (λ at. omega (arith, at))
      (cases_lt 0 r)

  times : (p : Division → Bool) (n : ℕ) (row : List Division) → sum_by (λ d. bit (p d) * n) row ≡ count_by p row * n
  times p n [] = omega arith
  times p n (d ∷ row) =
      omega (arith, sum_by-cons (λ e. bit (p e) * n) d row, times p n row, ap (λ k. k * n) (sum_by-cons (λ e. bit (p e)) d row) ∙ add-mul (bit (p d)) (count_by p row) n)

  -- there are at most as many odd dollars as remainders above 0
  pub odd_within : 0 < all_weights xs → odd_dollars sum (divisions sum xs) ≤ count_by left_over (divisions sum xs)
  odd_within some =
      let below = sum_by-below remainder_of (λ d. bit (left_over d) * all_weights xs) (divisions sum xs)
      (All-map (λ d. remainder_of d ≤ bit (left_over d) * all_weights xs) (divide sum (all_weights xs)) xs (all_of (λ x. remainder_of (divide sum (all_weights xs) x) ≤ bit (left_over (divide sum (all_weights xs) x)) * all_weights xs) (remainder_small some) xs)) in
      let le : odd_dollars sum (divisions sum xs) * all_weights xs ≤ count_by left_over (divisions sum xs) * all_weights xs = omega (arith, below, odd_exact, times left_over (all_weights xs) (divisions sum xs)) in
      le_of_mul-le-mul_right le some
