use Rattle.std.proofs.Common.{◌≡◌, ℕ, ◌+◌, ◌-◌, List, length, take, drop, Some, Option, ap, ◌∙◌}
use Rattle.std.proofs.lemmas.List.{take_rest}
use Rattle.console.specs.Numerals.{number_of}
use Rattle.console.proofs.Bearing.{made_of, no_code, no_weight, no_colon}
use Rattle.console.proofs.bearer.bearer.Goals as goal

-- The parts of the word, as the code cuts them.
before : (word : List ℕ) (at largest : ℕ) (r : Option ℕ) → largest ≡ 4294967295 → r ≡ number_of largest (take at word) → r ≡ number_of 4294967295 (take at word)
before word at largest r e h = h ∙ rw e

after : (word : List ℕ) (at : ℕ) (r : Option ℕ) → r ≡ number_of 18446744073709551615 (take (length word - (at + 1)) (drop (at + 1) word)) → r ≡ number_of 18446744073709551615 (drop (at + 1) word)
after word at r h = h ∙ ap (number_of 18446744073709551615) (take_rest word (at + 1))

pub returns-in_err-at : goal.returns-in_err-at
returns-in_err-at c = c.from_residual.ensures ∙ no_colon c.args.word.now c.in_err-at.ensures

pub returns-in_err-code : goal.returns-in_err-code
returns-in_err-code c =
    c.from_residual-in_err-code.ensures
    ∙ no_code c.args.word.now _ c.in_ok-at.ensures
    (before c.args.word.now c.in_ok-at.at c.from.result _ c.from.ensures c.in_err-code.ensures.is_the_number_of_the_word)

pub returns-in_err-weight : goal.returns-in_err-weight
returns-in_err-weight c =
    c.from_residual-in_err-weight.ensures
    ∙ no_weight c.args.word.now _ c.in_ok-at.ensures
    (after c.args.word.now c.in_ok-at.at _ c.in_err-weight.ensures.is_the_number_of_the_word)

pub returns : goal.returns
returns c =
    made_of c.args.word.now _ c.in_ok-at.ensures (Some c.in_ok-code.code) (Some c.in_ok-weight.weight)
    (before c.args.word.now c.in_ok-at.at c.from.result _ c.from.ensures c.in_ok-code.ensures.is_the_number_of_the_word)
    (after c.args.word.now c.in_ok-at.at _ c.in_ok-weight.ensures.is_the_number_of_the_word)
