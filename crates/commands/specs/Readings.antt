-- What a line tells. Assumes nothing.
use Rattle.std.specs.Prelude.{ℕ, Bool, cond, List, [], ◌∷◌, Some, None, Option}
use Rattle.console.specs.Numerals.{number_of}
use Rattle.console.specs.Readings as line
use Rattle.console.specs.Words.{words_of}
use Rattle.commands.specs.declared.verb.Verb.{Verb}
use Rattle.commands.specs.declared.verb.Verb.TheVariants.{Basis, Journal, Image, Roll, Funds}
use Rattle.commands.specs.Hex.{bytes_of}
use Rattle.commands.specs.Meanings.{Order, goes_by, journals, opens, opens_file, lists_funds, Meaning, nothing, tells, bad_command, no_book, bad_number, as_split}
use Rattle.commands.specs.Verbs.{verb_of, basis_of}

-- What a command tells that takes just one word, given the word that stands alone, if one does.
abbrev pub by_word : (List ℕ → Meaning) → Option (List ℕ) → Meaning
by_word told None = bad_command
by_word told (Some word) = told word

-- A command that takes no word.
abbrev pub by_none : Meaning → List (List ℕ) → Meaning
by_none told [] = told
by_none told (word ∷ rest) = bad_command

-- A word that has to be one of a few names.
abbrev pub named : {X : Type 0} → (X → Order) → Option X → Meaning
named ordered None = bad_command
named ordered (Some x) = tells (ordered x)

-- A word that has to be a number, or a row of bytes.
abbrev pub counted : {X : Type 0} → (X → Order) → Option X → Meaning
counted ordered None = bad_number
counted ordered (Some x) = tells (ordered x)

-- A command that needs a book: no number of it is looked at where there is none.
abbrev pub with_book : Bool → Meaning → Meaning
with_book has_book told = cond has_book told no_book

-- `basis` takes the name of a basis.
abbrev pub basis_told : List (List ℕ) → Meaning
basis_told words = by_word (λ word. named goes_by (basis_of word)) (line.only words)

-- `journal` takes a number of places.
abbrev pub journal_told : List (List ℕ) → Meaning
journal_told words = by_word (λ word. counted journals (number_of 1000000 word)) (line.only words)

-- `image` takes bytes in hexadecimal digits.
abbrev pub image_told : List (List ℕ) → Meaning
image_told words = by_word (λ word. counted opens (bytes_of word)) (line.only words)

-- `roll` takes a path, which may be any word.
abbrev pub roll_told : List (List ℕ) → Meaning
roll_told words = by_word (λ word. tells (opens_file word)) (line.only words)

-- `funds` takes no word.
abbrev pub funds_told : Bool → List (List ℕ) → Meaning
funds_told has_book words = by_none (with_book has_book (tells lists_funds)) words

-- The verb says which command about books the words after it are for.
abbrev pub commanded : Bool → Verb → List (List ℕ) → Meaning
commanded has_book Basis rest = basis_told rest
commanded has_book Journal rest = journal_told rest
commanded has_book Image rest = image_told rest
commanded has_book Roll rest = roll_told rest
commanded has_book Funds rest = funds_told has_book rest

-- The first word is a verb about books, or the words are none of these and tell what they tell the console that splits.
abbrev pub told_by : Bool → Option Verb → List ℕ → List (List ℕ) → Meaning
told_by has_book None first rest = as_split (line.told (first ∷ rest))
told_by has_book (Some verb) first rest = commanded has_book verb rest

abbrev pub told : Bool → List (List ℕ) → Meaning
told has_book [] = nothing
told has_book (first ∷ rest) = told_by has_book (verb_of first) first rest

-- What a line tells, given whether there is a book.
abbrev pub reading_of : Bool → List ℕ → Meaning
reading_of has_book line = told has_book (words_of line)
