-- What a line tells. Assumes nothing.
use Rattle.std.specs.Prelude.{◌≡◌, ℕ, Bool, List, [], ◌∷◌, Some, None, vec_items, Option, Result, MatchResult}
use Rattle.split.specs.declared.bearer.Stake.{Stake}
use Rattle.console.specs.declared.command.Command.{Command}
use Rattle.console.specs.declared.command.Command.TheVariants as command
use Rattle.console.specs.declared.error.ReadError.{ReadError}
use Rattle.console.specs.declared.error.ReadError.TheVariants.{Memory, BadCommand, BadNumber}
use Rattle.console.specs.declared.verb.Verb.{Verb}
use Rattle.console.specs.declared.verb.Verb.TheVariants.{Explain, Split}
use Rattle.console.specs.Bearers.{bearers_of}
use Rattle.console.specs.Numerals.{number_of}
use Rattle.console.specs.Verbs.{verb_of, switch_of}
use Rattle.console.specs.Words.{words_of}

-- What a line may tell.
pub data Meaning : Type 0 where
  nothing : Meaning
  explains : Bool → Meaning
  splits : ℕ → List Stake → Meaning
  bad_command : Meaning
  bad_number : Meaning

-- What a command orders.
abbrev pub order : Command → Meaning
order (command.Explain on) = explains on
order (command.Split sum bearers) = splits sum (vec_items bearers)

-- What a line means of which this was read: nothing, or what the command orders.
abbrev pub meaning : Option Command → Meaning
meaning None = nothing
meaning (Some told) = order told

-- What was read means m, and where nothing was read, what is known of m then holds.
abbrev pub Tells : {X E M : Type 0} → (X → M) → (E → M → Type 0) → Result X E → M → Type 0
Tells means fails read m = MatchResult read (λ x. means x ≡ m) (λ error. fails error m)

-- What is known of a line's meaning where nothing was read: which fault the line has, unless memory ran out.
abbrev pub Fails : ReadError → Meaning → Type 0
Fails (Memory error) m = Unit {0}
Fails BadCommand m = bad_command ≡ m
Fails BadNumber m = bad_number ≡ m

-- The same of a part of a line that has to be a number, or a row of them: that it is none, unless memory ran out.
abbrev pub NotCounted : {X : Type 0} → ReadError → Option X → Type 0
NotCounted (Memory error) value = Unit {0}
NotCounted BadCommand value = ⊥
NotCounted BadNumber value = None ≡ value

-- A command that takes just one word.
abbrev pub only : List (List ℕ) → Option (List ℕ)
only [] = None
only (word ∷ []) = Some word
only (word ∷ more ∷ rest) = None

abbrev pub by_word : (List ℕ → Meaning) → Option (List ℕ) → Meaning
by_word told None = bad_command
by_word told (Some word) = told word

-- `explain` takes one word, `on` or `off`.
abbrev pub explains_if : Option Bool → Meaning
explains_if None = bad_command
explains_if (Some on) = explains on

abbrev pub explain_told : List (List ℕ) → Meaning
explain_told words = by_word (λ word. explains_if (switch_of word)) (only words)

-- `split` takes a sum of 64 bits, then any number of bearers.
abbrev pub splits_if : Option ℕ → Option (List Stake) → Meaning
splits_if None bearers = bad_number
splits_if (Some sum) None = bad_number
splits_if (Some sum) (Some bearers) = splits sum bearers

abbrev pub split_told : List (List ℕ) → Meaning
split_told [] = bad_command
split_told (sum ∷ bearers) = splits_if (number_of 18446744073709551615 sum) (bearers_of bearers)

-- The first word says which.
abbrev pub told_by : Option Verb → List (List ℕ) → Meaning
told_by None rest = bad_command
told_by (Some Explain) rest = explain_told rest
told_by (Some Split) rest = split_told rest

abbrev pub told : List (List ℕ) → Meaning
told [] = nothing
told (first ∷ rest) = told_by (verb_of first) rest

-- What a line tells.
abbrev pub reading_of : List ℕ → Meaning
reading_of line = told (words_of line)

-- Whether explanations are printed after a line: as before, unless it tells which.
abbrev pub explaining_after : Meaning → Bool → Bool
explaining_after nothing before = before
explaining_after (explains on) before = on
explaining_after (splits sum bearers) before = before
explaining_after bad_command before = before
explaining_after bad_number before = before
