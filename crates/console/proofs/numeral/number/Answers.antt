use Rattle.std.proofs.Common.{◌∙◌, true-eqb, false-eqb, ap, rules, tests}
use Rattle.console.specs.Numerals.{value_after, up_to}
use Rattle.console.proofs.Digits.{no_digits, some_digits}
use Rattle.console.proofs.Folding.{folded}
use Rattle.console.proofs.numeral.number.Goals as goal

pub returns-then-is_empty : goal.returns-then-is_empty
returns-then-is_empty c = record { is_the_number_of_the_word = no_digits c.args.largest c.args.word.now _ c.unsigned-digits.ensures (true-eqb _ 0 c.if-is_empty.ensures) }

pub returns : goal.returns
returns c =
    record {
      is_the_number_of_the_word =
          folded _ c.args.largest c.iter.result c.try_fold.new.self c.try_fold.result c.try_fold.ensures.ran (λ n b v h k. search (rules, tests))
          ∙ ap (λ ds. up_to c.args.largest (value_after 0 ds)) c.iter.ensures.rest
          ∙ some_digits _ c.args.word.now _ c.unsigned-digits.ensures (false-eqb _ 0 c.if-is_empty.ensures);
    }
