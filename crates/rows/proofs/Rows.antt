-- Sums and counts over a row, one element more at a time, and rows that are filled place by place. Assumes nothing.
use Rattle.std.proofs.Common.{◌≡◌, ℕ, ◌+◌, ◌<◌, ◌≤◌, min, Bool, true, false, cond, List, [], ◌∷◌, ◌++◌, map, length, get_or, take, drop, set, fold, sum_by, sym, refl, ap, ◌∙◌, ⊎_elim, arith}
use mir.Val.{bool_byte}
use Rattle.std.specs.List.{range_with_len, ContainsAt as Has}
use Rattle.std.proofs.lemmas.List.FromFn.{length-range_with_len, get_or-range_with_len}
use Rattle.std.proofs.lemmas.List.{map_more, take_all, take_at, drop_more, drop_all, length-map, length-take-le, length-take, get_or-take, set_at, append_assoc}
use Rattle.std.proofs.lemmas.Bool.{cases_lt}
use Rattle.std.proofs.lemmas.List.Sums.{sum_by_more}

-- a sum over what a function gives of each element
pub sum_by-map : {X Y : Type 0} (f : Y → ℕ) (g : X → Y) (xs : List X) → sum_by f (map g xs) ≡ sum_by (λ x. f (g x)) xs
sum_by-map {X} {Y} f g xs = along 0 xs
  where
    along : (a : ℕ) (ys : List X) → fold (λ s y. s + f y) a (map g ys) ≡ fold (λ s x. s + f (g x)) a ys
    along a [] = refl
    along a (y ∷ ys) = along (a + f (g y)) ys

-- how a loop stands that adds up: n is the sum over the first i elements
abbrev pub Added : {X : Type 0} → (X → ℕ) → List X → ℕ → ℕ → Type 0
Added f xs i n = n ≡ sum_by f (take i xs)

module _ {X : Type 0} (f : X → ℕ) (xs : List X) where
  pub added_more : (i n m : ℕ) (x : X) → i < length xs → x ≡ get_or xs i x → Added f xs i n → m ≡ f x → Added f xs (i + 1) (n + m)
  added_more i n m x within read so is =
      let at : f x ≡ f (get_or xs i x) = ap f read in
      omega (arith, so, is, at, sum_by_more f xs i x within)

-- how a loop stands that counts the elements which pass a test: n of the first i do
abbrev pub Counted : {X : Type 0} → (X → Bool) → List X → ℕ → ℕ → Type 0
Counted p xs i n = (n ≤ i) × Added (λ x. cond (p x) 1 0) xs i n

bit_is : (b : Bool) → bool_byte b ≡ cond b 1 0
bit_is true = refl
bit_is false = refl

bit_small : (b : Bool) → cond b 1 0 ≤ 1
bit_small true = omega arith
bit_small false = omega arith

pub byte_small : (b : Bool) → bool_byte b ≤ 1
byte_small b = omega (arith, bit_is b, bit_small b)

module _ {X : Type 0} (p : X → Bool) (xs : List X) where
  pub counted_more : (i n m : ℕ) (x : X) (b : Bool) → i < length xs → x ≡ get_or xs i x → Counted p xs i n → m ≡ bool_byte b → b ≡ p x → Counted p xs (i + 1) (n + m)
  counted_more i n m x b within read so bit test =
      let is : m ≡ cond (p x) 1 0 = bit ∙ bit_is b ∙ ap (λ t. cond t 1 0) test in
      let few = bit_small (p x) in
      (omega (arith, is, so.0), added_more (λ y. cond (p y) 1 0) xs i n m x within read so.1 is)

-- how a loop stands that writes f x for each element x: the first i places are written, the others are as they were
abbrev pub filled : {X Y : Type 0} → (X → Y) → List X → List Y → ℕ → List Y
filled f xs old i = map f (take i xs) ++ drop i old

module _ {X Y : Type 0} (f : X → Y) (xs : List X) (old : List Y) where
  pub filled_more : (i : ℕ) (x : X) (y : Y) → i < length xs → i < length old → x ≡ get_or xs i x → y ≡ f x → set (filled f xs old i) i y ≡ filled f xs old (i + 1)
  filled_more i x y within room read is =
      let done : length (map f (take i xs)) ≡ i = length-map (take i xs) f ∙ length-take-le i xs (omega arith) in
      let new : y ≡ f (get_or xs i x) = is ∙ ap f read in
      ap (λ l. set (map f (take i xs) ++ l) i y) (drop_more old i y room)
      ∙ set_at (map f (take i xs)) (get_or old i y) (drop (i + 1) old) y i done
      ∙ ap (λ z. map f (take i xs) ++ z ∷ drop (i + 1) old) new
      ∙ sym (append_assoc (map f (take i xs)) (f (get_or xs i x) ∷ []) (drop (i + 1) old))
      ∙ ap (λ l. l ++ drop (i + 1) old) (sym (map_more f xs i x within))

  pub filled_all : (i : ℕ) → i ≡ length xs → filled f xs old i ≡ map f xs ++ drop (length xs) old
  filled_all i is = ap (λ n. filled f xs old n) is ∙ ap (λ l. map f l ++ drop (length xs) old) (take_all (length xs) xs (omega arith))

-- the same, where what is written depends on the place alone
module _ {Y : Type 0} (f : ℕ → Y) (n : ℕ) (old : List Y) where
  pub placed_more : (i : ℕ) (y : Y) → i < n → i < length old → y ≡ f i → set (filled f (range_with_len 0 n) old i) i y ≡ filled f (range_with_len 0 n) old (i + 1)
  placed_more i y within room is =
      let at : i ≡ get_or (range_with_len 0 n) i i = omega (arith, get_or-range_with_len 0 n i i within) in
      filled_more f (range_with_len 0 n) old i i y (omega (arith, length-range_with_len 0 n)) room at is

  pub placed_all : (i : ℕ) → i ≡ n → filled f (range_with_len 0 n) old i ≡ map f (range_with_len 0 n) ++ drop n old
  placed_all i is =
      filled_all f (range_with_len 0 n) old i (omega (arith, length-range_with_len 0 n))
      ∙ ap (λ k. map f (range_with_len 0 n) ++ drop k old) (length-range_with_len 0 n)

-- what is written of a row into places, as far as both go
pub as_far_as_both : {X Y : Type 0} (f : X → Y) (xs : List X) (old : List Y) (n : ℕ) → n ≡ min (length xs) (length old) →
    map f (take n xs) ++ drop (length (take n xs)) old ≡ map f (take (length old) xs) ++ drop (length xs) old
as_far_as_both f xs old n is =
    ⊎_elim
    (λ (lt : length xs < length old).
    let all = take_all n xs (omega arith) in
    ap (λ l. map f l ++ drop (length l) old) all ∙ ap (λ l. map f l ++ drop (length xs) old) (sym (take_all (length old) xs (omega arith))))
    (λ (ge : length old ≤ length xs).
    let same : n ≡ length old = omega arith in
    ap (λ k. map f (take k xs) ++ drop (length (take k xs)) old) same
    ∙ ap (λ k. map f (take (length old) xs) ++ drop k old) (length-take-le (length old) xs ge)
    ∙ ap (λ l. map f (take (length old) xs) ++ l) (drop_all (length old) old (omega arith) ∙ sym (drop_all (length xs) old ge)))
    (cases_lt (length xs) (length old))

-- what is among the first of a row is in the row
pub taken_held : {X : Type 0} (n : ℕ) (xs : List X) (x : X) → Has (take n xs) x → Has xs x
taken_held n xs x h =
    let long = length-take n xs in
    (h.0, omega (arith, h.1, long), λ d. sym (get_or-take n xs h.0 d (omega (arith, h.1, long))) ∙ h.2 d)

-- where there is room for the whole row, all of it is written
pub all_written : {X Y : Type 0} (f : X → Y) (xs : List X) (old : List Y) → length xs ≤ length old → map f (take (length old) xs) ++ drop (length xs) old ≡ map f xs ++ drop (length xs) old
all_written f xs old room = ap (λ l. map f l ++ drop (length xs) old) (take_all (length old) xs room)

-- what stands in a table up to its count, once so many places are written
pub written_part : {Y : Type 0} (new rest : List Y) (n : ℕ) (table : List Y) → length new ≡ n → table ≡ new ++ rest → take n table ≡ new
written_part new rest n table long is = ap (take n) is ∙ take_at new rest n long
