-- The laws of the splitting, of its definitions: callers use these and never the definitions' text. Assumes nothing.
use Rattle.std.proofs.Common.{◌≡◌, ℕ, ◌+◌, ◌-◌, ◌*◌, ◌/◌, ◌<◌, ◌≤◌, true, false, eqb, ltb, ◌⊎◌, List, [], ◌∷◌, map, length, sum_by, count_by, sym, refl, ap, ◌∙◌, inl, inr, ⊎_elim, mod-lt, mul_comm, add-mul, lt_of_mul-lt-mul_right, mul-le-mul_left, mul-zero, div-add-mod', zero-mul, arith}
use native.Mathlib.Nat.{zero-div}
use Rattle.std.specs.List.Sorted.{IsPermutation}
use Rattle.std.specs.List.{AllByRecursion}
use Rattle.std.proofs.ByRecursion.{All-weaker, All-map}
use Rattle.std.proofs.lemmas.List.Sorted.{sum_by-IsPermutation, length_permutation}
use Rattle.std.proofs.lemmas.List.Sums.{sum_by-cons, count_by-le-length}
use Rattle.std.proofs.lemmas.Bool.{cases_lt, cases_order, cases_Bool, le-ltb, ltb-false, eq-eqb, eqb-false}
use Rattle.std.proofs.lemmas.Bool.Decides.{nat_tests}
use Rattle.split.specs.declared.bearer.Stake.{Stake}
use Rattle.split.specs.declared.division.Division.{Division}
use Rattle.split.specs.Refusals.{answer, with_code, shares_code, repeated}
use Rattle.split.specs.Shares.{all_weights, divide, divisions, precedes, rank, odd_dollars, takes_odd, share}
use Rattle.rows.proofs.Counts.{all_of, bit, none_passes, fewer, bit_below, sum_by-both, sum_by-same}
use Rattle.split.proofs.Orders.{Told, Strict, first_in_rank}
use Rattle.split.proofs.Quotients.{left_over, wholes_and_odd, odd_within}
use Rattle.rows.proofs.Rows.{sum_by-map}

-- The order of the odd dollars is strict, and tells bearers with different codes apart.

pub strict : Strict precedes
strict = record {
  irreflexive = λ x. grind (arith, nat_tests);
  transitive = λ x y z p q. grind (arith, nat_tests);
}

pub told_by_code : (a b : Division) → eqb b.code a.code ≡ false → (precedes a b ≡ true) ⊎ (precedes b a ≡ true)
told_by_code a b e =
    let other = eqb-false b.code a.code e in
    ⊎_elim
    (λ same. ⊎_elim (λ (one : a.code < b.code). inl (grind (arith, nat_tests))) (λ (past : b.code ≤ a.code). let less : b.code < a.code = ⊎_elim (λ lt. lt) (λ le. absurd (other (omega arith))) (cases_lt b.code a.code) in inr (grind (arith, nat_tests))) (cases_lt a.code b.code))
    (λ apart. ⊎_elim (λ (less : a.remainder < b.remainder). inr (grind (arith, nat_tests))) (λ (more : b.remainder < a.remainder). inl (grind (arith, nat_tests))) apart)
    (cases_order a.remainder b.remainder)

-- Codes that stand once are apart, and so their divisions are told apart.

abbrev Apart : List Stake → Type 0
Apart [] = Unit {0}
Apart (x ∷ xs) = AllByRecursion (λ y. eqb y.code x.code ≡ false) xs × Apart xs

once_apart : (xs : List Stake) → AllByRecursion (λ x. with_code x.code xs ≤ 1) xs → Apart xs
once_apart [] h = tt
once_apart (x ∷ xs) h =
    let own = sum_by-cons (λ (y : Stake). bit (eqb y.code x.code)) x xs in
    let self : bit (eqb x.code x.code) ≡ 1 = ap bit (eq-eqb x.code x.code refl) in (
      none_passes (λ y. eqb y.code x.code) xs (omega (arith, own, self, h.0)),
      once_apart xs (All-weaker (λ y. with_code y.code (x ∷ xs) ≤ 1) (λ y. with_code y.code xs ≤ 1) (λ y k. omega (arith, k, sum_by-cons (λ (z : Stake). bit (eqb z.code y.code)) x xs)) xs h.1),
    )

apart_codes : (xs : List Stake) → repeated xs ≡ 0 → Apart xs
unfolding shares_code
apart_codes xs e =
    once_apart xs (All-weaker (λ x. ltb 1 (with_code x.code xs) ≡ false) (λ x. with_code x.code xs ≤ 1) (λ x h. ltb-false 1 (with_code x.code xs) h) xs
    (none_passes (λ x. ltb 1 (with_code x.code xs)) xs e))

told_divisions : (sum total : ℕ) (xs : List Stake) → Apart xs → Told precedes (map (divide sum total) xs)
told_divisions sum total [] a = tt
told_divisions sum total (x ∷ xs) a = (
  All-map (λ d. (precedes (divide sum total x) d ≡ true) ⊎ (precedes d (divide sum total x) ≡ true)) (divide sum total) xs
      (All-weaker (λ y. eqb y.code x.code ≡ false) (λ y. (precedes (divide sum total x) (divide sum total y) ≡ true) ⊎ (precedes (divide sum total y) (divide sum total x) ≡ true))
      (λ y e. told_by_code (divide sum total x) (divide sum total y) e) xs a.0),
  told_divisions sum total xs a.1,
)

-- What has no remainder gets no odd dollar: all that leave something come before it, and there are enough of them.

last_in_rank : (row : List Division) (d : Division) → d.remainder ≡ 0 → count_by left_over row ≤ rank row d
unfolding rank
last_in_rank row d e =
    fewer left_over (λ x. precedes x d) row
    (all_of (λ x. bit (left_over x) ≤ bit (precedes x d)) (λ x. bit_below (left_over x) (precedes x d) (λ h. grind (arith, nat_tests))) row)

module _ (sum : ℕ) (xs : List Stake) where
  abbrev own : Stake → Division
  own x = divide sum (all_weights xs) x

  no_odd_dollar : 0 < all_weights xs → (x : Stake) → (own x).remainder ≡ 0 → takes_odd sum (divisions sum xs) (own x) ≡ false
  no_odd_dollar some x e =
      le-ltb (rank (divisions sum xs) (own x)) (odd_dollars sum (divisions sum xs)) (omega (arith, last_in_rank (divisions sum xs) (own x) e, odd_within sum xs some))

  -- Each share lies less than a dollar from its exact proportion, sum × weight / all weights, multiplied out.
  pub near : 0 < all_weights xs → (x : Stake) →
      (share sum xs x * all_weights xs < sum * x.weight + all_weights xs) × (sum * x.weight < share sum xs x * all_weights xs + all_weights xs)
  unfolding share
  near some x =
      let s = all_weights xs in
      let q = (own x).whole in
      let exact = div-add-mod' (sum * x.weight) s in
      let small = mod-lt (sum * x.weight) some in
      ⊎_elim
      (λ left. ⊎_elim
      (λ yes'. let m = add-mul q 1 s in let is = ap (λ b. (q + bit b) * s) yes' in (omega (arith, exact, small, m, is, left), omega (arith, exact, small, m, is, left)))
      (λ no'. let m = add-mul q 0 s in let is = ap (λ b. (q + bit b) * s) no' in (omega (arith, exact, small, m, is), omega (arith, exact, small, m, is)))
      (cases_Bool (takes_odd sum (divisions sum xs) (own x))))
      (λ none.
      let m = add-mul q 0 s in
      let is = ap (λ b. (q + bit b) * s) (no_odd_dollar some x (omega (arith, none))) in
      (omega (arith, exact, small, m, is), omega (arith, exact, small, m, is)))
      (cases_lt 0 (own x).remainder)

  -- Without any weight there is no sum, and every share is 0.
  pub none_without_weights : (0 < sum → 0 < all_weights xs) → all_weights xs ≡ 0 → (x : Stake) → share sum xs x ≡ 0
  unfolding share
  none_without_weights weighty none x =
      let nothing : sum ≡ 0 = ⊎_elim (λ some. absurd (omega (arith, weighty some, none))) (λ at. omega (arith, at)) (cases_lt 0 sum) in
      let whole : (own x).whole ≡ 0 = ap (λ n. n * x.weight / all_weights xs) nothing ∙ ap (λ n. n / all_weights xs) (zero-mul x.weight) ∙ zero-div (all_weights xs) in
      let extra : takes_odd sum (divisions sum xs) (own x) ≡ false = le-ltb (rank (divisions sum xs) (own x)) (odd_dollars sum (divisions sum xs)) (omega (arith, wholes_and_odd sum xs, nothing)) in
      omega (arith, whole, ap bit extra)

  -- A bearer without weight gets nothing.
  pub nothing_without_weight : (0 < sum → 0 < all_weights xs) → (x : Stake) → x.weight ≡ 0 → share sum xs x ≡ 0
  nothing_without_weight weighty x none =
      ⊎_elim
      (λ some.
      let low = (near some x).0 in
      let zero_product : sum * x.weight ≡ 0 = ap (λ n. sum * n) none ∙ mul-zero sum in
      let one : share sum xs x * all_weights xs < 1 * all_weights xs = omega (arith, low, zero_product) in
      omega (arith, lt_of_mul-lt-mul_right (all_weights xs) one))
      (λ at. none_without_weights weighty (omega (arith, at)) x)
      (cases_lt 0 (all_weights xs))

  -- No share is above its weight where the sum is at most all the weights.
  pub within_weight : sum ≤ all_weights xs → (x : Stake) → share sum xs x ≤ x.weight
  within_weight le x =
      ⊎_elim
      (λ some.
      let low = (near some x).0 in
      let most : sum * x.weight ≤ x.weight * all_weights xs = omega (arith, mul-le-mul_left x.weight le, mul_comm sum x.weight) in
      let over : share sum xs x * all_weights xs < (x.weight + 1) * all_weights xs = omega (arith, low, most, add-mul x.weight 1 (all_weights xs)) in
      omega (arith, lt_of_mul-lt-mul_right (all_weights xs) over))
      (λ at. omega (arith, none_without_weights (λ some. omega (arith, le, some)) (omega (arith, at)) x))
      (cases_lt 0 (all_weights xs))

  odd_placed : repeated xs ≡ 0 → (0 < sum → 0 < all_weights xs) → count_by (takes_odd sum (divisions sum xs)) (divisions sum xs) ≡ odd_dollars sum (divisions sum xs)
  unfolding rank
  odd_placed once weighty =
      let row = divisions sum xs in
      let placed = first_in_rank precedes strict (odd_dollars sum row) row (told_divisions sum (all_weights xs) xs (apart_codes xs once)) in
      let enough : odd_dollars sum row ≤ length row =
      ⊎_elim
      (λ some. omega (arith, odd_within sum xs some, count_by-le-length left_over row))
      (λ at. ⊎_elim (λ due. absurd (omega (arith, weighty due, at))) (λ none. omega (arith, none, wholes_and_odd sum xs)) (cases_lt 0 sum))
      (cases_lt 0 (all_weights xs)) in
      omega (arith, placed, enough)

  -- The shares of an accepted split add up to the sum.
  pub shares_add_up : repeated xs ≡ 0 → (0 < sum → 0 < all_weights xs) → sum_by (share sum xs) xs ≡ sum
  unfolding share
  shares_add_up once weighty =
      let row = divisions sum xs in
      sym (sum_by-map (λ d. d.whole + bit (takes_odd sum row d)) own xs)
      ∙ sum_by-both (λ d. d.whole) (λ d. bit (takes_odd sum row d)) row
      ∙ omega (arith, odd_placed once weighty, wholes_and_odd sum xs)

-- The order of a row does not matter.

module _ (sum : ℕ) (xs ys : List Stake) (moved : IsPermutation xs ys) where
  same_weights : all_weights ys ≡ all_weights xs
  unfolding all_weights
  same_weights = sum_by-IsPermutation (λ (x : Stake). x.weight) xs ys moved

  same_sum : (f : Division → ℕ) → sum_by f (divisions sum ys) ≡ sum_by f (divisions sum xs)
  same_sum f =
      ap (λ n. sum_by f (map (divide sum n) ys)) same_weights
      ∙ sum_by-map f (divide sum (all_weights xs)) ys
      ∙ sum_by-IsPermutation (λ x. f (divide sum (all_weights xs) x)) xs ys moved
      ∙ sym (sum_by-map f (divide sum (all_weights xs)) xs)

  same_rank : (d : Division) → rank (divisions sum ys) d ≡ rank (divisions sum xs) d
  unfolding rank
  same_rank d = same_sum (λ e. bit (precedes e d))

  same_odd : odd_dollars sum (divisions sum ys) ≡ odd_dollars sum (divisions sum xs)
  unfolding odd_dollars
  same_odd = ap (λ n. sum - n) (same_sum (λ d. d.whole))

  -- Each bearer has the same share in any order of the row.
  pub same_share : (x : Stake) → share sum ys x ≡ share sum xs x
  unfolding share
  same_share x =
      ap (λ n. (divide sum n x).whole + bit (ltb (rank (divisions sum ys) (divide sum n x)) (odd_dollars sum (divisions sum ys)))) same_weights
      ∙ ap (λ n. (divide sum (all_weights xs) x).whole + bit (ltb n (odd_dollars sum (divisions sum ys)))) (same_rank (divide sum (all_weights xs) x))
      ∙ ap (λ n. (divide sum (all_weights xs) x).whole + bit (ltb (rank (divisions sum xs) (divide sum (all_weights xs) x)) n)) same_odd

  same_repeated : repeated ys ≡ repeated xs
  unfolding shares_code
  same_repeated =
      sum_by-same (λ (x : Stake). bit (ltb 1 (with_code x.code ys))) (λ x. bit (ltb 1 (with_code x.code xs))) ys
      (all_of (λ x. bit (ltb 1 (with_code x.code ys)) ≡ bit (ltb 1 (with_code x.code xs))) (λ x. ap (λ n. bit (ltb 1 n)) (sum_by-IsPermutation (λ (y : Stake). bit (eqb y.code x.code)) xs ys moved)) ys)
      ∙ sum_by-IsPermutation (λ (x : Stake). bit (ltb 1 (with_code x.code xs))) xs ys moved

  -- The same refusal, or none, in any order of the row.
  pub same_answer : (places : ℕ) → answer sum places ys ≡ answer sum places xs
  unfolding answer
  same_answer places =
      rw (sum_by-IsPermutation (λ (x : Stake). bit (ltb 9000000000 x.weight)) xs ys moved, length_permutation xs ys moved, same_repeated, same_weights) refl
