use Rattle.std.proofs.Common.{◌≡◌, Some, vec_items, sym, ap, ◌∙◌, arith}
use Rattle.std.proofs.lemmas.Result.{err_from_is_err_and}
use Rattle.console.specs.declared.error.ReadError.TheVariants.{BadNumber}
use Rattle.console.specs.Bearers.{bearer_of}
use Rattle.console.proofs.Bearing.{bearers_more, bearers_all}
use Rattle.console.proofs.Gathering.{one_more, not_one, no_more}
use Rattle.console.proofs.bearer.bearers.Goals as goal
use Rattle.console.proofs.bearer.bearers.Goals.{After-bearer}

-- What the word at hand was read as.
this : (c : After-bearer) → c.bearer.result ≡ bearer_of (vec_items c.word-item.result)
this c = c.bearer.ensures ∙ ap bearer_of c.as_slice.ensures.value

pub returns-in_err-stake : goal.returns-in_err-stake
returns-in_err-stake c =
    let p = err_from_is_err_and c.from_residual.result c.from_residual.ensures.1 in
    let told = c.in_err-stake.ensures in
    let fault : c.in_err-stake.field-0.0 ≡ BadNumber = grind arith in
    rw (p.1, p.2, fault)
    (not_one (vec_items c.loop-word.found) _ _ c.loop-word.invariant _ _
    (bearers_more vec_items c.args.words.now c.loop-word.word-index c.word-item.result c.loop-word-test.true)
    (sym told.ok_part ∙ this (goal.at.returns-in_err-stake c).After-bearer ∙ ap (λ v. bearer_of (vec_items v)) c.word-item.is))

pub loop-word-preserved : goal.loop-word-preserved
loop-word-preserved c =
    let told = c.in_ok-stake.ensures in
    let one : Some c.in_ok-stake.stake ≡ c.bearer.result = grind arith in
    simp c.in_ok-push.ensures.items
    (one_more (vec_items c.loop-word.found) _ _ c.loop-word.invariant c.in_ok-stake.stake _ _
    (bearers_more vec_items c.args.words.now c.loop-word.word-index c.word-item.result c.loop-word-test.true)
    (one ∙ this (goal.at.loop-word-preserved c).After-bearer ∙ ap (λ v. bearer_of (vec_items v)) c.word-item.is))

pub returns : goal.returns
returns c = no_more (vec_items c.loop-word.found) _ _ c.loop-word.invariant (bearers_all vec_items c.args.words.now c.loop-word.word-index c.loop-word-test.false)
