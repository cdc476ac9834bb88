use Rattle.std.proofs.Common.{◌++◌, string_bytes, refl, ap, ◌∙◌}
use Rattle.std.proofs.lemmas.Result.{IfOk-equal}
use Rattle.console.proofs.Telling.{told, refused}
use Rattle.console.proofs.answer.answer_split.Goals as goal

pub returns-in-Ok : goal.returns-in-Ok
returns-in-Ok c =
    IfOk-equal c.print_all.result _ _ _ c.print_all.ensures
    (ap (λ text. string_bytes c.args.out.now ++ text)
    (told c.args.explaining c.args.sum _ _ c.args.bearers.now c.explain.new.reasons c.as_mut_slice.result.now c.in_ok-reasons.reasons.items c.as_slice.result.now
    (c.in_ok-reasons.ensures.len ∙ c.min-places.ensures) c.as_mut_slice.ensures.len refl c.in-Ok.ensures.answers_as_defined c.in-Ok.ensures.places_as_defined c.as_slice.ensures.value))

pub returns : goal.returns
returns c =
    IfOk-equal c.write.result _ _ _ c.write.ensures.bytes
    (ap (λ text. string_bytes c.args.out.now ++ text)
    (refused c.args.explaining c.args.sum _ _ c.args.bearers.now c.in-Err.refusal (c.in_ok-reasons.ensures.len ∙ c.min-places.ensures) c.as_mut_slice.ensures.len c.in-Err.ensures.answers_as_defined))
