use Rattle.std.proofs.Common.{sym, ◌∙◌, true-eqb, false-eqb, arith}
use Rattle.std.proofs.lemmas.List.{take_rest}
use Rattle.console.proofs.Places.{place_or_end}
use Rattle.console.proofs.Wording.{ending, all_blank, no_word, a_word}
use Rattle.console.proofs.word.first_word.Goals as goal

pub returns-in_err-told-clause-first : goal.returns-in_err-told-clause-first
returns-in_err-told-clause-first c = rw c.from_residual.ensures (all_blank c.args.line.now (sym c.in_err-told.was ∙ c.word_start.ensures))

pub returns-then-is_empty-clause-first : goal.returns-then-is_empty-clause-first
returns-then-is_empty-clause-first c =
    no_word c.args.line.now c.in_ok-told.field-0 c.unwrap_or.result _ (sym c.in_ok-told.was ∙ c.word_start.ensures) (take_rest c.args.line.now c.in_ok-told.field-0)
    (c.unwrap_or.ensures ∙ place_or_end ending _ _ c.word_end.ensures)
    (omega (arith, c.split_at.ensures.front_len, true-eqb _ 0 c.if-is_empty.ensures))

pub returns-else-is_empty-clause-first : goal.returns-else-is_empty-clause-first
returns-else-is_empty-clause-first c =
    a_word c.args.line.now c.in_ok-told.field-0 c.unwrap_or.result _ (sym c.in_ok-told.was ∙ c.word_start.ensures) (take_rest c.args.line.now c.in_ok-told.field-0)
    (c.unwrap_or.ensures ∙ place_or_end ending _ _ c.word_end.ensures)
    c.split_at.result.0.now c.split_at.result.1.now c.split_at.ensures.front c.split_at.ensures.back (false-eqb _ 0 c.if-is_empty.ensures)
