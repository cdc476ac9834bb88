-- Ranks in a strict order that tells the elements of a list apart: just n of them have a rank below n. Assumes nothing.
use Rattle.std.proofs.Common.{◌≡◌, ℕ, ◌+◌, ◌-◌, ◌<◌, ◌≤◌, min, Bool, true, false, ltb, ◌⊎◌, List, [], ◌∷◌, length, count_by, sym, refl, ap, ◌∙◌, inl, inr, ⊎_elim, arith}
use Rattle.std.specs.List.{ContainsAt as Has, AllByRecursion}
use Rattle.std.proofs.ByRecursion.{All-weaker, all_has_itself}
use Rattle.std.proofs.lemmas.List.Sums.{sum_by-cons, count_by-le-length}
use Rattle.std.proofs.lemmas.Bool.{cases_lt, lt-ltb, le-ltb, both_ways}
use Rattle.rows.proofs.Counts.{all_of, bit, bit_below, fewer, strictly_fewer, sum_by-same}

-- each element of the list stands before or after every other
abbrev pub Told : {X : Type 0} → (X → X → Bool) → List X → Type 0
Told lt [] = Unit {0}
Told lt (x ∷ xs) = AllByRecursion (λ y. (lt x y ≡ true) ⊎ (lt y x ≡ true)) xs × Told lt xs

-- a strict order
pub record Strict {X : Type 0} (lt : X → X → Bool) : Type 0 where
  pub irreflexive : (x : X) → lt x x ≡ false
  pub transitive : (x y z : X) → lt x y ≡ true → lt y z ≡ true → lt x z ≡ true

-- how many of a list come before x
abbrev pub rank_in : {X : Type 0} → (X → X → Bool) → List X → X → ℕ
rank_in lt xs x = count_by (λ y. lt y x) xs

false_from : (b : Bool) → (b ≡ true → ⊥) → b ≡ false
false_from true h = absurd (h refl)
false_from false h = refl

module _ {X : Type 0} (lt : X → X → Bool) (o : Strict lt) where
  one_way : (x y : X) → lt x y ≡ true → lt y x ≡ false
  one_way x y h = false_from (lt y x) (λ k. both_ways (lt x x) (o.irreflexive x) (o.transitive x y x h k))

  -- what comes later has at least as great a rank
  rank_up : (xs : List X) (x y : X) → lt x y ≡ true → rank_in lt xs x ≤ rank_in lt xs y
  rank_up xs x y h = fewer (λ z. lt z x) (λ z. lt z y) xs (all_of _ (λ z. bit_below (lt z x) (lt z y) (λ k. o.transitive z x y k h)) xs)

  -- and a greater one, if the earlier element stands in the list itself
  rank_over : (xs : List X) (x y : X) → Has xs x → lt x y ≡ true → rank_in lt xs x < rank_in lt xs y
  rank_over xs x y has h =
      strictly_fewer (λ z. lt z x) (λ z. lt z y) xs (all_of _ (λ z. bit_below (lt z x) (lt z y) (λ k. o.transitive z x y k h)) xs)
      has.0 x has.1 (ap (λ z. lt z x) (has.2 x) ∙ o.irreflexive x) (ap (λ z. lt z y) (has.2 x) ∙ h)

  -- with one element more in front, which n does not reach
  beyond : (n : ℕ) (a : X) (xs : List X) → n ≤ rank_in lt xs a → (x : X) → (lt a x ≡ true) ⊎ (lt x a ≡ true) → bit (ltb (rank_in lt (a ∷ xs) x) n) ≡ bit (ltb (rank_in lt xs x) n)
  beyond n a xs far x (inl h) =
      let more : rank_in lt (a ∷ xs) x ≡ bit (lt a x) + rank_in lt xs x = sum_by-cons (λ y. bit (lt y x)) a xs in
      let up = rank_up xs a x h in
      let one = ap bit h in
      ap bit (le-ltb (rank_in lt (a ∷ xs) x) n (omega arith)) ∙ sym (ap bit (le-ltb (rank_in lt xs x) n (omega arith)))
  beyond n a xs far x (inr h) =
      let more : rank_in lt (a ∷ xs) x ≡ bit (lt a x) + rank_in lt xs x = sum_by-cons (λ y. bit (lt y x)) a xs in
      let none = ap bit (one_way x a h) in
      ap (λ k. bit (ltb k n)) (omega arith)

  -- with one element more in front, which n reaches
  within : (n : ℕ) (a : X) (xs : List X) → rank_in lt xs a < n → (x : X) → Has xs x → (lt a x ≡ true) ⊎ (lt x a ≡ true) → bit (ltb (rank_in lt (a ∷ xs) x) n) ≡ bit (ltb (rank_in lt xs x) (n - 1))
  within n a xs near x has (inl h) =
      let more : rank_in lt (a ∷ xs) x ≡ bit (lt a x) + rank_in lt xs x = sum_by-cons (λ y. bit (lt y x)) a xs in
      let one = ap bit h in
      let is : rank_in lt (a ∷ xs) x ≡ 1 + rank_in lt xs x = omega arith in
      ⊎_elim
      (λ lo. ap bit (lt-ltb (rank_in lt (a ∷ xs) x) n (omega arith)) ∙ sym (ap bit (lt-ltb (rank_in lt xs x) (n - 1) (omega arith))))
      (λ hi. ap bit (le-ltb (rank_in lt (a ∷ xs) x) n (omega arith)) ∙ sym (ap bit (le-ltb (rank_in lt xs x) (n - 1) (omega arith))))
      (cases_lt (rank_in lt xs x) (n - 1))
  within n a xs near x has (inr h) =
      let more : rank_in lt (a ∷ xs) x ≡ bit (lt a x) + rank_in lt xs x = sum_by-cons (λ y. bit (lt y x)) a xs in
      let none = ap bit (one_way x a h) in
      let over = rank_over xs x a has h in
      ap bit (lt-ltb (rank_in lt (a ∷ xs) x) n (omega arith)) ∙ sym (ap bit (lt-ltb (rank_in lt xs x) (n - 1) (omega arith)))

  both_all : (P Q : X → Type 0) (xs : List X) → AllByRecursion P xs → AllByRecursion Q xs → AllByRecursion (λ x. P x × Q x) xs
  both_all P Q [] p q = tt
  both_all P Q (x ∷ xs) p q = ((p.0, q.0), both_all P Q xs p.1 q.1)

  -- as many have a rank below n as n, or all of them
  pub first_in_rank : (n : ℕ) (xs : List X) → Told lt xs → count_by (λ x. ltb (rank_in lt xs x) n) xs ≡ min n (length xs)
  first_in_rank n [] t = omega arith
  first_in_rank n (a ∷ xs) t =
      let parts = sum_by-cons (λ x. bit (ltb (rank_in lt (a ∷ xs) x) n)) a xs in
      let more : rank_in lt (a ∷ xs) a ≡ bit (lt a a) + rank_in lt xs a = sum_by-cons (λ y. bit (lt y a)) a xs in
      let none = ap bit (o.irreflexive a) in
      let long = count_by-le-length (λ y. lt y a) xs in
      ⊎_elim
      (λ near.
      let rest : count_by (λ x. ltb (rank_in lt (a ∷ xs) x) n) xs ≡ count_by (λ x. ltb (rank_in lt xs x) (n - 1)) xs =
      sum_by-same (λ x. bit (ltb (rank_in lt (a ∷ xs) x) n)) (λ x. bit (ltb (rank_in lt xs x) (n - 1))) xs
      (All-weaker (λ x. Has xs x × ((lt a x ≡ true) ⊎ (lt x a ≡ true))) (λ x. bit (ltb (rank_in lt (a ∷ xs) x) n) ≡ bit (ltb (rank_in lt xs x) (n - 1)))
      (λ x h. within n a xs near x h.0 h.1) xs (both_all (Has xs) (λ x. (lt a x ≡ true) ⊎ (lt x a ≡ true)) xs (all_has_itself xs) t.0)) in
      let head : bit (ltb (rank_in lt (a ∷ xs) a) n) ≡ 1 = ap bit (lt-ltb (rank_in lt (a ∷ xs) a) n (omega arith)) in
      omega (arith, parts, rest, head, first_in_rank (n - 1) xs t.1))
      (λ far.
      let rest : count_by (λ x. ltb (rank_in lt (a ∷ xs) x) n) xs ≡ count_by (λ x. ltb (rank_in lt xs x) n) xs =
      sum_by-same (λ x. bit (ltb (rank_in lt (a ∷ xs) x) n)) (λ x. bit (ltb (rank_in lt xs x) n)) xs
      (All-weaker (λ x. (lt a x ≡ true) ⊎ (lt x a ≡ true)) (λ x. bit (ltb (rank_in lt (a ∷ xs) x) n) ≡ bit (ltb (rank_in lt xs x) n)) (λ x h. beyond n a xs far x h) xs t.0) in
      let head : bit (ltb (rank_in lt (a ∷ xs) a) n) ≡ 0 = ap bit (le-ltb (rank_in lt (a ∷ xs) a) n (omega arith)) in
      omega (arith, parts, rest, head, first_in_rank n xs t.1))
      (cases_lt (rank_in lt xs a) n)
