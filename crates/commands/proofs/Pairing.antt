-- The pairs of hexadecimal digits of a word, one after another.
use Rattle.std.proofs.Common.{◌≡◌, ℕ, ◌-◌, ◌%◌, ◌≤◌, List, [], ◌∷◌, length, get_or, take, drop, Some, None, sym, refl, ap, ◌∙◌, arith}
use Rattle.std.proofs.lemmas.List.{take_rest}
use Rattle.console.specs.Lists.{with_first}
use Rattle.console.proofs.Gathering.{no_rest}
use Rattle.commands.specs.Hex.{digit_value, byte_of, bytes_of}

-- The first two digits are a pair, and the rest goes on.
pub pairs_more : (digits : List ℕ) → 2 ≤ length digits →
    bytes_of digits ≡ with_first (byte_of (digit_value (get_or digits 0 0)) (digit_value (get_or digits 1 0))) (bytes_of (take (length digits - 2) (drop 2 digits)))
unfolding bytes_of
pairs_more [] h = absurd (omega arith)
pairs_more (a ∷ []) h = absurd (omega arith)
pairs_more (a ∷ b ∷ rest) h = ap (λ l. with_first (byte_of (digit_value a) (digit_value b)) (bytes_of l)) (sym (take_rest (a ∷ b ∷ rest) 2))

-- and what is left is pairs again
pub pairs_left : (digits : List ℕ) → 2 ≤ length digits → length digits % 2 ≡ 0 → length (take (length digits - 2) (drop 2 digits)) % 2 ≡ 0
pairs_left [] h even = absurd (omega arith)
pairs_left (a ∷ []) h even = absurd (omega arith)
pairs_left (a ∷ b ∷ rest) h even = omega (arith, ap length (take_rest (a ∷ b ∷ rest) 2), even)

pub pairs_all : (digits : List ℕ) → length digits ≡ 0 → bytes_of digits ≡ Some []
unfolding bytes_of
pairs_all [] h = refl
pairs_all (a ∷ rest) h = absurd (omega arith)

-- A digit that is left alone.
pub odd_word : (word : List ℕ) → (length word % 2 ≡ 0 → ⊥) → None ≡ bytes_of word
unfolding bytes_of
odd_word [] h = absurd (h refl)
odd_word (a ∷ []) h = refl
odd_word (a ∷ b ∷ rest) h =
    let pair = byte_of (digit_value a) (digit_value b) in
    let shorter : length rest % 2 ≡ 0 → ⊥ = λ e. h (omega arith) in
    sym (no_rest pair) ∙ ap (with_first pair) (odd_word rest shorter)
