-- The text that answers a line. Assumes nothing.
use Rattle.std.specs.Prelude.{ℕ, Bool, cond, List, [], ◌∷◌, ◌++◌, length, Ok, Err, codes, Result}
use Rattle.std.specs.List.{flat_map}
use Rattle.split.specs.declared.bearer.Stake.{Stake}
use Rattle.split.specs.declared.refusal.Refusal.{Refusal}
use Rattle.split.specs.Reasons.{reason}
use Rattle.split.specs.Refusals.{answer, number_of}
use Rattle.split.specs.Shares.{share}
use Rattle.console.specs.Lines.{refusal_line, share_line, reason_line}
use Rattle.console.specs.Readings.{Meaning, nothing, explains, splits, bad_command, bad_number}

-- What is said of one bearer: its share, and while explanations are printed the reason of it.
abbrev pub bearer_lines : Bool → ℕ → List Stake → Stake → List ℕ
bearer_lines explaining sum xs x = share_line x.code (share sum xs x) ++ cond explaining (reason_line sum (reason sum xs x)) []

-- What is said of a split: the lines of each bearer in their order, or the refusal alone.
abbrev pub split_said : Result (Unit {0}) Refusal → List ℕ → List ℕ
split_said (Ok _) lines = lines
split_said (Err refusal) lines = refusal_line (number_of refusal)

abbrev pub split_text : Bool → ℕ → List Stake → List ℕ
split_text explaining sum xs = split_said (answer sum (length xs) xs) (flat_map (bearer_lines explaining sum xs) xs)

-- What is said of what a line tells.
abbrev pub text_of : Bool → Meaning → List ℕ
text_of explaining nothing = []
text_of explaining (explains on) = []
text_of explaining (splits sum xs) = split_text explaining sum xs
text_of explaining bad_command = codes "bad command" ++ 10 ∷ []
text_of explaining bad_number = codes "bad number" ++ 10 ∷ []
