-- How a number grows digit by digit.
use Rattle.std.proofs.Common.{◌≡◌, ℕ, ◌+◌, ◌-◌, ◌*◌, ◌<◌, ◌≤◌, Bool, true, false, cond, leb, List, [], ◌∷◌, length, Some, None, Option, sym, refl, ap, ◌∙◌, arith}
use Rattle.std.proofs.lemmas.Bool.{cond-true, cond-false, le-leb, lt-leb, leb-true, leb-false}
use Rattle.console.specs.Numerals.{digit, value_after, digits_value, after_plus, up_to, number_of, longer}

-- A number above the largest stays so, however many digits follow.
too_large : (largest n : ℕ) (bs : List ℕ) → largest < n → up_to largest (value_after n bs) ≡ None
unfolding value_after
too_large largest n [] h = cond-false (leb n largest) _ _ (lt-leb n largest h)
too_large largest n (b ∷ bs) h =
    elim (digit b) as (λ d. up_to largest (cond d (value_after (n * 10 + (b - 48)) bs) None) ≡ None) [
      | true ↦ too_large largest (n * 10 + (b - 48)) bs (omega arith)
      | false ↦ refl
    ]

-- The number that the digits come to, after one of them was read: none, or it goes on from there.
abbrev pub onward : ℕ → List ℕ → Option ℕ → Option ℕ
onward largest bs None = None
onward largest bs (Some n) = up_to largest (value_after n bs)

-- Reading a digit stops only where no number comes of it.
module _ (largest k : ℕ) (bs : List ℕ) where
  kept : (l : Bool) → leb k largest ≡ l → up_to largest (value_after k bs) ≡ onward largest bs (cond l (Some k) None)
  kept true e = refl
  kept false e = too_large largest k bs (leb-false k largest e)

  one_digit : (d : Bool) → up_to largest (cond d (value_after k bs) None) ≡ onward largest bs (cond d (cond (leb k largest) (Some k) None) None)
  one_digit true = kept (leb k largest) refl
  one_digit false = refl

pub one : (largest n b : ℕ) (bs : List ℕ) → up_to largest (value_after n (b ∷ bs)) ≡ onward largest bs (longer largest n b)
unfolding value_after
one largest n b bs = one_digit largest (n * 10 + (b - 48)) bs (digit b)

pub ended : (largest n : ℕ) (bs : List ℕ) → n ≤ largest → length bs ≡ 0 → Some n ≡ up_to largest (value_after n bs)
unfolding value_after
ended largest n [] le h = sym (cond-true (leb n largest) _ _ (le-leb n largest le))
ended largest n (b ∷ bs) le h = absurd (omega arith)

at_most : (d l : Bool) (largest k m : ℕ) → leb k largest ≡ l → Some m ≡ cond d (cond l (Some k) None) None → m ≤ largest
at_most true true largest k m e h = let same : m ≡ k = cc in omega (arith, leb-true k largest e)
at_most true false largest k m e h = let z : ◌≡◌ {A = ℕ} 0 1 = cc in omega arith
at_most false l largest k m e h = let z : ◌≡◌ {A = ℕ} 0 1 = cc in omega arith

-- A number that goes on is not above the largest.
pub within : (largest n b m : ℕ) → Some m ≡ longer largest n b → m ≤ largest
within largest n b m = at_most (digit b) (leb (n * 10 + (b - 48)) largest) largest (n * 10 + (b - 48)) m refl

some : (ds : List ℕ) → (length ds ≡ 0 → ⊥) → digits_value ds ≡ value_after 0 ds
unfolding digits_value
some [] h = absurd (h refl)
some (b ∷ bs) h = refl

none : (ds : List ℕ) → length ds ≡ 0 → None ≡ digits_value ds
unfolding digits_value
none [] h = refl
none (b ∷ bs) h = absurd (omega arith)

-- The number that a word's digits come to.
module _ (largest : ℕ) (word ds : List ℕ) (same : ds ≡ after_plus word) where
  pub some_digits : (length ds ≡ 0 → ⊥) → up_to largest (value_after 0 ds) ≡ number_of largest word
  some_digits h = ap (up_to largest) (sym (some ds h) ∙ ap digits_value same)

  pub no_digits : length ds ≡ 0 → None ≡ number_of largest word
  no_digits h = ap (up_to largest) (none ds h ∙ ap digits_value same)
