-- The words of a line, one after another: the blanks before a word, the word, and what stands behind it.
use Rattle.std.proofs.Common.{◌≡◌, ℕ, ◌+◌, true≢false, Bool, true, false, not, ◌||◌, eqb, List, [], ◌∷◌, ◌++◌, length, take, drop, Some, None, sym, refl, ap, ◌∙◌, arith}
use Rattle.std.specs.List.{position, position_or_len}
use Rattle.std.proofs.Math.Numerals.{one-add}
use Rattle.std.proofs.lemmas.List.{append-nil, append_assoc, drop_all}
use Rattle.std.proofs.lemmas.Bool.{cond-true, cond-false}
use Rattle.std.proofs.lemmas.Bool.Decides.{nat_tests}
use Rattle.console.proofs.Places.{found, missed}
use Rattle.console.specs.Words.{blank, ended, words_after, words_of}

-- What ends a word: a blank, or the `#` that ends the line.
abbrev pub ending : ℕ → Bool
ending b = blank b || eqb b 35

-- The line from its first byte on that is no blank.
abbrev pub told : List ℕ → List ℕ
told line = drop (position_or_len (λ b. not (blank b)) line) line

-- How long the word is with which a line begins.
abbrev pub word_len : List ℕ → ℕ
word_len line = position_or_len ending line

-- A blank is no `#`.
plain : (b : ℕ) → blank b ≡ true → eqb b 35 ≡ false
plain b gap = grind (arith, nat_tests)

told_more : (b : ℕ) (bs : List ℕ) → blank b ≡ true → told (b ∷ bs) ≡ told bs
told_more b bs gap = rw (gap, one-add) refl

told_here : (b : ℕ) (bs : List ℕ) → blank b ≡ false → told (b ∷ bs) ≡ b ∷ bs
told_here b bs other = rw other refl

-- Blanks in front tell nothing.
skip_one : (b : ℕ) (bs : List ℕ) (gap : Bool) → blank b ≡ gap → words_of bs ≡ words_of (told bs) → words_of (b ∷ bs) ≡ words_of (told (b ∷ bs))
unfolding words_after
skip_one b bs true gap more = cond-false (eqb b 35) _ _ (plain b gap) ∙ cond-true (blank b) _ _ gap ∙ more ∙ ap (λ l. words_of l) (sym (told_more b bs gap))
skip_one b bs false other more = ap (λ l. words_of l) (sym (told_here b bs other))

skip : (line : List ℕ) → words_of line ≡ words_of (told line)
skip [] = refl
skip (b ∷ bs) = skip_one b bs (blank b) refl (skip bs)

-- A line that begins with no word once its blanks are passed over has none: it ends there, or a `#` does.
none_here : (b : ℕ) (bs : List ℕ) (hash : Bool) → eqb b 35 ≡ hash → blank b ≡ false → word_len (b ∷ bs) ≡ 0 → words_of (b ∷ bs) ≡ []
unfolding words_after
none_here b bs true h other e = cond-true (eqb b 35) _ _ h
none_here b bs false h other e = let more : 1 + word_len bs ≡ 0 = sym (rw (other, h) refl) ∙ e in absurd (omega arith)

none_one : (b : ℕ) (bs : List ℕ) (gap : Bool) → blank b ≡ gap → (word_len (told bs) ≡ 0 → words_of bs ≡ []) → word_len (told (b ∷ bs)) ≡ 0 → words_of (b ∷ bs) ≡ []
unfolding words_after
none_one b bs true gap more e = cond-false (eqb b 35) _ _ (plain b gap) ∙ cond-true (blank b) _ _ gap ∙ more (sym (ap word_len (told_more b bs gap)) ∙ e)
none_one b bs false other more e = none_here b bs (eqb b 35) refl other (sym (ap word_len (told_here b bs other)) ∙ e)

none : (line : List ℕ) → word_len (told line) ≡ 0 → words_of line ≡ []
unfolding words_after
none [] e = refl
none (b ∷ bs) e = none_one b bs (blank b) refl (none bs) e

-- A word so far goes on up to where it ends, and the words behind it follow.
stays : (word line : List ℕ) → word_len line ≡ 0 → ended word ++ words_of line ≡ ended (word ++ take (word_len line) line) ++ words_of (drop (word_len line) line)
stays word line e =
    ap (λ w. ended w ++ words_of line) (sym (append-nil word))
    ∙ ap (λ n. ended (word ++ take n line) ++ words_of (drop n line)) (sym e)

cut_one : (b : ℕ) (bs word : List ℕ) → (hash : Bool) → eqb b 35 ≡ hash → (gap : Bool) → blank b ≡ gap →
    words_after (word ++ b ∷ []) bs ≡ ended ((word ++ b ∷ []) ++ take (word_len bs) bs) ++ words_of (drop (word_len bs) bs) →
    words_after word (b ∷ bs) ≡ ended (word ++ take (word_len (b ∷ bs)) (b ∷ bs)) ++ words_of (drop (word_len (b ∷ bs)) (b ∷ bs))
unfolding words_after
cut_one b bs word true h true g onward = absurd (true≢false (sym h ∙ plain b g))
cut_one b bs word true h false g onward =
    cond-true (eqb b 35) _ _ h
    ∙ sym (append-nil (ended word))
    ∙ ap (λ ws. ended word ++ ws) (sym (cond-true (eqb b 35) _ _ h))
    ∙ stays word (b ∷ bs) (rw (h, g) refl)
cut_one b bs word false h true g onward =
    cond-false (eqb b 35) _ _ h ∙ cond-true (blank b) _ _ g
    ∙ ap (λ ws. ended word ++ ws) (sym (cond-false (eqb b 35) _ _ h ∙ cond-true (blank b) _ _ g))
    ∙ stays word (b ∷ bs) (rw (h, g) refl)
cut_one b bs word false h false g onward = rw (h, g, one-add) (onward ∙ ap (λ w. ended w ++ words_of (drop (word_len bs) bs)) (append_assoc word (b ∷ []) (take (word_len bs) bs)))

cut : (line word : List ℕ) → words_after word line ≡ ended (word ++ take (word_len line) line) ++ words_of (drop (word_len line) line)
unfolding words_after
cut [] word = rw (append-nil word) (sym (append-nil (ended word)))
cut (b ∷ bs) word = cut_one b bs word (eqb b 35) refl (blank b) refl (cut bs (word ++ b ∷ []))

ended_some : (word : List ℕ) (rest : List (List ℕ)) → (length word ≡ 0 → ⊥) → ended word ++ rest ≡ word ∷ rest
ended_some [] rest some = absurd (some refl)
ended_some (b ∷ bs) rest some = refl

module _ (line : List ℕ) where
  -- a line of blanks alone has no words
  pub all_blank : None ≡ position (λ b. not (blank b)) line → words_of line ≡ []
  unfolding words_after
  all_blank e = skip line ∙ ap (λ l. words_of l) (drop_all (position_or_len (λ b. not (blank b)) line) line (missed _ line e))

  module _ (start n : ℕ) (rest : List ℕ) (starts : Some start ≡ position (λ b. not (blank b)) line) (from : rest ≡ drop start line) (long : n ≡ word_len rest) where
    is_told : rest ≡ told line
    is_told = from ∙ ap (λ k. drop k line) (found _ line start starts)

    pub no_word : n ≡ 0 → words_of line ≡ []
    no_word e = none line (ap word_len (sym is_told) ∙ sym long ∙ e)

    pub a_word : (word behind : List ℕ) → word ≡ take n rest → behind ≡ drop n rest → (length word ≡ 0 → ⊥) → words_of line ≡ word ∷ words_of behind
    a_word word behind front back some =
        skip line ∙ ap (λ l. words_of l) (sym is_told) ∙ cut rest []
        ∙ ap (λ k. ended (take k rest) ++ words_of (drop k rest)) (sym long)
        ∙ ap (λ w. ended w ++ words_of (drop n rest)) (sym front)
        ∙ ended_some word (words_of (drop n rest)) some
        ∙ ap (λ l. word ∷ words_of l) (sym back)
