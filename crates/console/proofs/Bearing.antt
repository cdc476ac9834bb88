-- Where a word's first colon stands, and what a bearer is made of.
use Rattle.std.proofs.Common.{◌≡◌, ◌==◌, ℕ, ◌+◌, ◌<◌, ◌≤◌, List, [], map, length, get_or, take, drop, Some, None, Option, sym, refl, ap, ◌∙◌, arith}
use Rattle.std.specs.List.{position, position_or_len}
use Rattle.std.proofs.Math.Numerals.{one-add}
use Rattle.std.proofs.lemmas.List.{at_drop_more, at_drop_all, drop_all}
use Rattle.std.proofs.lemmas.List.Recursion.{is_position_or_len}
use Rattle.console.proofs.Places.{found, missed}
use Rattle.console.specs.Lists.{with_first}
use Rattle.console.specs.Numerals.{digits_value, number_of}
use Rattle.console.specs.Bearers.{colon_at, stake, bearer_of, bearers_of}

-- The bytes before the first colon end where it stands, or with the word.
ends_at : (word : List ℕ) → colon_at word ≡ position_or_len (λ b. b == 58) word
unfolding colon_at
ends_at = is_position_or_len colon_at (λ b. b == 58) refl (λ x xs. simp one-add)

-- No bearer without a weight.
nothing : (code : Option ℕ) → stake code None ≡ None
nothing None = refl
nothing (Some c) = refl

-- A bearer is made of the numbers before and after the colon.
module _ (word : List ℕ) (at : ℕ) (place : Some at ≡ position (λ b. b == 58) word) where
  pub made_of : (code weight : Option ℕ) → code ≡ number_of 4294967295 (take at word) → weight ≡ number_of 18446744073709551615 (drop (at + 1) word) → stake code weight ≡ bearer_of word
  unfolding bearer_of
  made_of code weight p q = rw (p, q, found _ word at place, ends_at word)

  pub no_code : None ≡ number_of 4294967295 (take at word) → None ≡ bearer_of word
  no_code p = made_of None (number_of 18446744073709551615 (drop (at + 1) word)) p refl

  pub no_weight : None ≡ number_of 18446744073709551615 (drop (at + 1) word) → None ≡ bearer_of word
  no_weight q = sym (nothing (number_of 4294967295 (take at word))) ∙ made_of (number_of 4294967295 (take at word)) None refl q

-- Nothing after the last byte is no number.
pub no_colon : (word : List ℕ) → None ≡ position (λ b. b == 58) word → None ≡ bearer_of word
unfolding bearer_of digits_value
no_colon word e =
    let beyond : length word ≤ colon_at word + 1 = omega (arith, missed _ word e, ends_at word) in
    sym (nothing (number_of 4294967295 (take (colon_at word) word)))
    ∙ ap (λ rest. stake (number_of 4294967295 (take (colon_at word) word)) (number_of 18446744073709551615 rest)) (sym (drop_all (colon_at word + 1) word beyond))

-- The bearers of what is left of a row of words from i on; words held as X, each with its bytes.
module _ {X : Type 0} (bytes : X → List ℕ) (words : List X) (i : ℕ) where
  pub bearers_more : (d : X) → i < length words → bearers_of (map bytes (drop i words)) ≡ with_first (bearer_of (bytes (get_or words i d))) (bearers_of (map bytes (drop (i + 1) words)))
  unfolding bearers_of
  bearers_more d h = at_drop_more (λ ws. bearers_of (map bytes ws)) words i d h

  pub bearers_all : length words ≤ i → bearers_of (map bytes (drop i words)) ≡ Some []
  unfolding bearers_of
  bearers_all h = at_drop_all (λ ws. bearers_of (map bytes ws)) words i h
