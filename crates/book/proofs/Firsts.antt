-- The first place at which a test holds. Assumes nothing.
use Rattle.std.proofs.Common.{◌≡◌, ℕ, zero, suc, ◌+◌, ◌<◌, ◌≤◌, Bool, false, cond, List, [], ◌∷◌, map, length, get_or, take, count_by, nat_eq, nat_lt, position, None, sym, refl, ap, ◌∙◌, ⊎_elim, arith}
use Rattle.std.specs.List.{enumerate_from, position_from}
use Rattle.std.proofs.lemmas.Bool.{cases_lt}
use Rattle.std.proofs.lemmas.Iterator.Adapters.{position_from-zero}
use Rattle.std.proofs.lemmas.List.{get_or-map, length-map, take-map}
use Rattle.std.proofs.lemmas.List.FromFn.{length-enumerate_from, get_or-enumerate_from}
use mathlib.Core.List.{map-map}
use Rattle.rows.proofs.Rows.{sum_by-map}
use Rattle.book.specs.Checks.{first_from, first_used}

-- what a search of a row finds, as a search of its places does
module _ {X : Type 0} (p : X → Bool) (test : ℕ → Bool) where
  found_from : (xs : List X) (k : ℕ) → ((i : ℕ) (d : X) → i < length xs → p (get_or xs i d) ≡ test (k + i)) → position_from p k xs ≡ first_from test k (length xs)
  unfolding first_from
  found_from [] k same = refl
  found_from (x ∷ xs) k same =
      let here : p x ≡ test k = same 0 x (omega arith) ∙ ap test (omega arith) in
      let later = found_from xs (k + 1) (λ i d within. same (suc i) d (omega arith) ∙ ap test (omega arith)) in
      grind arith

  found : (xs : List X) → ((i : ℕ) (d : X) → i < length xs → p (get_or xs i d) ≡ test i) → position p xs ≡ first_from test 0 (length xs)
  found xs same = position_from-zero p xs ∙ found_from xs 0 (λ i d within. same i d within ∙ ap test (omega arith))

-- a row whose elements stand for records
module _ {X Y : Type 0} (view : X → Y) (row : List X) (records : List Y) (are : map view row ≡ records) where
  as_many : length row ≡ length records
  as_many = omega (arith, length-map row view, ap length are)

  own_number : (f : Y → ℕ) (i : ℕ) (d : X) → i < length row → f (view (get_or row i d)) ≡ get_or (map f records) i 0
  own_number f i d within = sym (get_or-map (λ x. f (view x)) row i d 0 within) ∙ ap (λ l. get_or l i 0) (sym (map-map f view row) ∙ ap (map f) are)

  -- the first whose number passes a test
  pub first_by_number : (f : Y → ℕ) (test : ℕ → Bool) → position (λ x. test (f (view x))) row ≡ first_from (λ k. test (get_or (map f records) k 0)) 0 (length records)
  first_by_number f test =
      found (λ x. test (f (view x))) (λ k. test (get_or (map f records) k 0)) row (λ i d within. ap test (own_number f i d within))
      ∙ ap (first_from (λ k. test (get_or (map f records) k 0)) 0) as_many

  -- the first whose code an earlier one has
  module _ (code : Y → ℕ) where
    abbrev used_in_row : ℕ → ℕ → Bool
    used_in_row k n = nat_lt 0 (count_by (λ x. nat_eq (code (view x)) n) (take k row))

    abbrev pub used : ℕ → Bool
    used k = nat_lt 0 (count_by (λ y. nat_eq (code y) (get_or (map code records) k 0)) (take k records))

    used_same : (k n : ℕ) → used_in_row k n ≡ nat_lt 0 (count_by (λ y. nat_eq (code y) n) (take k records))
    used_same k n =
        ap (nat_lt 0)
        (sym (sum_by-map (λ y. cond (nat_eq (code y) n) 1 0) view (take k row))
        ∙ ap (count_by (λ y. nat_eq (code y) n)) (sym (take-map view k row) ∙ ap (take k) are))

    used_at : (i : ℕ) (d : ℕ × X) → i < length (enumerate_from 0 row) → used_in_row (get_or (enumerate_from 0 row) i d).0 (code (view (get_or (enumerate_from 0 row) i d).1)) ≡ used i
    used_at i d within =
        let inside : i < length row = omega (arith, length-enumerate_from 0 row) in
        let at : get_or (enumerate_from 0 row) i d ≡ (i, get_or row i d.1) = get_or-enumerate_from 0 row i d inside ∙ ap (λ k. (k, get_or row i d.1)) (omega arith) in
        ap (λ p. used_in_row p.0 (code (view p.1))) at ∙ ap (used_in_row i) (own_number code i d.1 inside) ∙ used_same i (get_or (map code records) i 0)

    pub first_by_code : first_used (λ x. code (view x)) row ≡ first_from used 0 (length records)
    first_by_code = found (λ p. used_in_row p.0 (code (view p.1))) used (enumerate_from 0 row) used_at ∙ ap (first_from used 0) (length-enumerate_from 0 row ∙ as_many)

-- where there is none, the test fails at every place
pub fails_everywhere : (test : ℕ → Bool) (n k : ℕ) → first_from test k n ≡ None → (i : ℕ) → k ≤ i → i < k + n → test i ≡ false
unfolding first_from
fails_everywhere test zero k e i low high = absurd (omega arith)
fails_everywhere test (suc n) k e i low high =
    let here : test k ≡ false = grind arith in
    let later : first_from test (k + 1) n ≡ None = grind arith in
    ⊎_elim
    (λ (lt : k < i). fails_everywhere test n (k + 1) later i (omega arith) (omega arith))
    (λ (ge : i ≤ k). let same : i ≡ k = omega arith in ap test same ∙ here)
    (cases_lt k i)
