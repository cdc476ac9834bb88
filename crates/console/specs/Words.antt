-- The words of a line. Assumes nothing.
use Rattle.std.specs.Prelude.{ℕ, ◌-◌, Bool, cond, ◌&&◌, ◌||◌, List, [], ◌∷◌, ◌++◌, length, take, ◌==◌, nat_lt, slice_index}

-- What parts words: a space, a tab, a carriage return or a form feed.
abbrev pub blank : ℕ → Bool
blank b = b == 32 || (b == 9 || (b == 13 || b == 12))

-- A word that ends here; no word where it has no bytes.
abbrev pub ended : List ℕ → List (List ℕ)
ended [] = []
ended (b ∷ bs) = (b ∷ bs) ∷ []

-- The words of the bytes to come after the word so far: a `#` ends the line, a blank the word.
unfoldable pub words_after : List ℕ → List ℕ → List (List ℕ)
words_after word [] = ended word
words_after word (b ∷ bs) =
    cond (b == 35) (ended word) (cond (blank b) (ended word ++ words_after [] bs) (words_after (word ++ b ∷ []) bs))

-- The words of a line.
abbrev pub words_of : List ℕ → List (List ℕ)
words_of line = words_after [] line

-- A line without the byte 10 that ends it; the last line of an input may lack it.
abbrev pub unended : List ℕ → List ℕ
unended line = cond (nat_lt 0 (length line) && slice_index line (length line - 1) == 10) (take (length line - 1) line) line
