use Rattle.std.proofs.Common.{◌≡◌, Some, vec_items, sym, ◌∙◌, arith}
use Rattle.std.proofs.lemmas.Result.{err_from_is_err_and}
use Rattle.console.specs.declared.error.ReadError.TheVariants.{BadNumber}
use Rattle.console.proofs.Gathering.{one_more, not_one, no_more}
use Rattle.commands.proofs.Pairing.{pairs_more, pairs_left, pairs_all, odd_word}
use Rattle.commands.proofs.hex.hex.Goals as goal

pub returns-in_err-byte : goal.returns-in_err-byte
returns-in_err-byte c =
    let p = err_from_is_err_and c.from_residual.result c.from_residual.ensures.1 in
    let told = c.in_err-byte.ensures in
    let fault : c.in_err-byte.field-0.0 ≡ BadNumber = grind arith in
    rw (p.1, p.2, fault)
    (not_one (vec_items c.loop-digits.found) _ _ c.loop-digits.invariant.0 _ _ (pairs_more c.loop-digits.digits.now c.in-len2-up.len_at_least) (sym told.ok_part ∙ c.pair.ensures))

pub loop-digits-preserved : goal.loop-digits-preserved
loop-digits-preserved c =
    let told = c.in_ok-byte.ensures in
    let one : Some c.in_ok-byte.byte ≡ c.pair.result = grind arith in
    simp c.in_ok-push.ensures.items (
      one_more (vec_items c.loop-digits.found) _ _ c.loop-digits.invariant.0 c.in_ok-byte.byte _ _ (pairs_more c.loop-digits.digits.now c.in-len2-up.len_at_least) (one ∙ c.pair.ensures),
      pairs_left c.loop-digits.digits.now c.in-len2-up.len_at_least c.loop-digits.invariant.1,
    )

pub returns : goal.returns
returns c = no_more (vec_items c.loop-digits.found) _ _ c.loop-digits.invariant.0 (pairs_all c.loop-digits.digits.now (omega (arith, c.loop-digits.invariant.1, c.in_default.len_below)))

pub returns-then-word-ne0 : goal.returns-then-word-ne0
returns-then-word-ne0 c = odd_word c.args.word.now c.if-word-ne0.true
