-- Sums and counts compared element by element. Assumes nothing.
use Rattle.std.proofs.Common.{◌≡◌, ℕ, zero, suc, ◌+◌, ◌<◌, ◌≤◌, Bool, true, false, cond, eqb, ltb, List, [], ◌∷◌, map, length, get_or, take, sum_by, count_by, sym, refl, ap, ◌∙◌, ⊎_elim, add-one, arith}
use Rattle.std.specs.List.{AllByRecursion}
use Rattle.std.proofs.ByRecursion.{All-from_get_or}
use Rattle.std.proofs.lemmas.List.{get_or-map, take_all}
use Rattle.std.proofs.lemmas.List.Sums.{sum_by-cons, sum_by_more}
use Rattle.std.proofs.lemmas.Bool.{ltb-false, le-ltb}
use Rattle.std.proofs.lemmas.Bool.Decides.{eqb_tells}

-- one where the test is passed
abbrev pub bit : Bool → ℕ
bit b = cond b 1 0

pub bit_at : (b : Bool) → bit b ≤ 1
bit_at true = omega arith
bit_at false = omega arith

pub bit_none : (b : Bool) → bit b ≡ 0 → b ≡ false
bit_none true e = absurd (omega arith)
bit_none false e = refl

-- what holds of every value holds of each element
pub all_of : {X : Type 0} (P : X → Type 0) → ((x : X) → P x) → (xs : List X) → AllByRecursion P xs
all_of P h [] = tt
all_of P h (x ∷ xs) = (h x, all_of P h xs)

module _ {X : Type 0} (f h : X → ℕ) where
  -- equal at each element, equal in sum
  pub sum_by-same : (xs : List X) → AllByRecursion (λ x. f x ≡ h x) xs → sum_by f xs ≡ sum_by h xs
  sum_by-same [] e = refl
  sum_by-same (x ∷ xs) e = omega (arith, sum_by-cons f x xs, sum_by-cons h x xs, e.0, sum_by-same xs e.1)

  -- at most as much at each element, at most as much in sum
  pub sum_by-below : (xs : List X) → AllByRecursion (λ x. f x ≤ h x) xs → sum_by f xs ≤ sum_by h xs
  sum_by-below [] e = omega arith
  sum_by-below (x ∷ xs) e = omega (arith, sum_by-cons f x xs, sum_by-cons h x xs, e.0, sum_by-below xs e.1)

  -- the sum of two sums
  pub sum_by-both : (xs : List X) → sum_by (λ x. f x + h x) xs ≡ sum_by f xs + sum_by h xs
  sum_by-both [] = omega arith
  sum_by-both (x ∷ xs) = omega (arith, sum_by-cons f x xs, sum_by-cons h x xs, sum_by-cons (λ y. f y + h y) x xs, sum_by-both xs)

module _ {X : Type 0} (p : X → Bool) where
  -- nothing is counted just where nothing passes
  pub none_passes : (xs : List X) → count_by p xs ≡ 0 → AllByRecursion (λ x. p x ≡ false) xs
  none_passes [] e = tt
  none_passes (x ∷ xs) e =
      let parts = sum_by-cons (λ y. bit (p y)) x xs in
      (bit_none (p x) (omega arith), none_passes xs (omega arith))

  pub none_counted : (xs : List X) → AllByRecursion (λ x. p x ≡ false) xs → count_by p xs ≡ 0
  none_counted [] h = refl
  none_counted (x ∷ xs) h =
      let own : bit (p x) ≡ 0 = ap bit h.0 in
      omega (arith, own, sum_by-cons (λ y. bit (p y)) x xs, none_counted xs h.1)

module _ {X : Type 0} (p q : X → Bool) where
  -- what passes one test passes the other
  abbrev pub Implies : List X → Type 0
  Implies xs = AllByRecursion (λ x. bit (p x) ≤ bit (q x)) xs

  -- at most as many pass the stricter test
  pub fewer : (xs : List X) → Implies xs → count_by p xs ≤ count_by q xs
  fewer xs h = sum_by-below (λ x. bit (p x)) (λ x. bit (q x)) xs h

  -- and fewer where some element passes only the other
  pub strictly_fewer : (xs : List X) → Implies xs → (k : ℕ) (d : X) → k < length xs → p (get_or xs k d) ≡ false → q (get_or xs k d) ≡ true → count_by p xs < count_by q xs
  strictly_fewer [] h k d within out in' = absurd (omega arith)
  strictly_fewer (x ∷ xs) h zero d within out in' =
      omega (arith, sum_by-cons (λ y. bit (p y)) x xs, sum_by-cons (λ y. bit (q y)) x xs, ap bit out, ap bit in', fewer xs h.1)
  strictly_fewer (x ∷ xs) h (suc k) d within out in' =
      omega (arith, sum_by-cons (λ y. bit (p y)) x xs, sum_by-cons (λ y. bit (q y)) x xs, h.0, strictly_fewer xs h.1 k d (omega arith) out in')

-- a test that follows from another
pub bit_below : (a b : Bool) → (a ≡ true → b ≡ true) → bit a ≤ bit b
bit_below true b h = omega (arith, ap bit (h refl))
bit_below false b h = omega arith

-- no code stands twice where none stands among those before it
module _ {X : Type 0} (code : X → ℕ) (xs : List X) (d : X) (unused : (k : ℕ) → k < length xs → ltb 0 (count_by (λ x. eqb (code x) (get_or (map code xs) k 0)) (take k xs)) ≡ false) where
  none_before : (k : ℕ) → k < length xs → count_by (λ x. eqb (code x) (code (get_or xs k d))) (take k xs) ≡ 0
  none_before k within =
      let own : get_or (map code xs) k 0 ≡ code (get_or xs k d) = get_or-map code xs k d 0 within in
      let none : ltb 0 (count_by (λ x. eqb (code x) (code (get_or xs k d))) (take k xs)) ≡ false = ap (λ n. ltb 0 (count_by (λ x. eqb (code x) n) (take k xs))) (sym own) ∙ unused k within in
      omega (arith, ltb-false 0 (count_by (λ x. eqb (code x) (code (get_or xs k d))) (take k xs)) none)

  at_most_one : (n k : ℕ) → k ≤ length xs → count_by (λ x. eqb (code x) n) (take k xs) ≤ 1
  at_most_one n zero within = omega arith
  at_most_one n (suc k) within =
      let more : count_by (λ x. eqb (code x) n) (take (k + 1) xs) ≡ count_by (λ x. eqb (code x) n) (take k xs) + bit (eqb (code (get_or xs k d)) n) = sum_by_more (λ x. bit (eqb (code x) n)) xs k d (omega arith) in
      let next : count_by (λ x. eqb (code x) n) (take (suc k) xs) ≡ count_by (λ x. eqb (code x) n) (take (k + 1) xs) = ap (λ j. count_by (λ x. eqb (code x) n) (take j xs)) (sym (add-one k)) in
      ⊎_elim
      (λ (h : (eqb (code (get_or xs k d)) n ≡ true) × (code (get_or xs k d) ≡ n)). let none : count_by (λ x. eqb (code x) n) (take k xs) ≡ 0 = ap (λ m. count_by (λ x. eqb (code x) m) (take k xs)) (sym h.1) ∙ none_before k (omega arith) in omega (arith, next, more, none, bit_at (eqb (code (get_or xs k d)) n)))
      (λ (h : (eqb (code (get_or xs k d)) n ≡ false) × (code (get_or xs k d) ≡ n → ⊥)). omega (arith, next, more, ap bit h.0, at_most_one n k (omega arith)))
      (eqb_tells (code (get_or xs k d)) n)

  pub none_twice : count_by (λ x. ltb 1 (count_by (λ y. eqb (code y) (code x)) xs)) xs ≡ 0
  none_twice =
      none_counted (λ x. ltb 1 (count_by (λ y. eqb (code y) (code x)) xs)) xs
      (all_of (λ x. ltb 1 (count_by (λ y. eqb (code y) (code x)) xs) ≡ false) (λ x. le-ltb 1 (count_by (λ y. eqb (code y) (code x)) xs) (omega (arith, at_most_one (code x) (length xs) (omega arith), ap (λ l. count_by (λ y. eqb (code y) (code x)) l) (take_all (length xs) xs (omega arith))))) xs)

-- a test that fails at every place, by a number of each element
pub none_by_number : {X : Type 0} (f : X → ℕ) (test : ℕ → Bool) (xs : List X) (d : X) → ((k : ℕ) → k < length xs → test (get_or (map f xs) k 0) ≡ false) → count_by (λ x. test (f x)) xs ≡ 0
none_by_number f test xs d h =
    none_counted (λ x. test (f x)) xs
    (All-from_get_or (λ x. test (f x) ≡ false) xs d (λ k within. ap test (sym (get_or-map f xs k d 0 within)) ∙ h k within))
