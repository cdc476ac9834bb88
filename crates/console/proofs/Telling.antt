-- What is said of an accepted split, from the reasons that were asked for.
use Rattle.std.proofs.Common.{◌≡◌, ℕ, Bool, List, ◌++◌, map, length, min, take, drop, Ok, Err, sym, refl, ap, ◌∙◌, arith}
use Rattle.std.specs.List.{flat_map}
use Rattle.std.proofs.lemmas.List.{map-id, length-map, take_at, drop_all, append-nil}
use Rattle.std.proofs.lemmas.List.Folds.{flat_map-map}
use Rattle.std.proofs.lemmas.List.Recursion.{same_from_clauses}
use Rattle.split.specs.declared.bearer.Stake.{Stake}
use Rattle.split.specs.declared.reason.Reason.{Reason}
use Rattle.split.specs.Reasons.{reason, reasons}
use Rattle.split.specs.declared.refusal.Refusal.{Refusal}
use Rattle.split.specs.Refusals.{answer, number_of}
use Rattle.split.proofs.Accepting.{accepted as accepted_split, places_enough}
use Rattle.split.proofs.Reckoning.{reason_code, reason_share}
use Rattle.console.specs.Answers.{bearer_lines, split_said, split_text}
use Rattle.console.specs.Lines.{refusal_line, told_lines}

-- A `Vec` of n places, lent to a call for n bearers, holds their reasons after it; a stake bears itself.
lent : (sum n : ℕ) (xs : List Stake) (new old items : List Reason) → n ≡ length xs → length old ≡ n →
    new ≡ reasons sum (map (λ x. x) xs) ++ drop (length (reasons sum (map (λ x. x) xs))) old → take n (new ++ drop (length new) items) ≡ reasons sum xs
lent sum n xs new old items many room written =
    let plain : new ≡ reasons sum xs ++ drop (length (reasons sum xs)) old = written ∙ ap (λ l. reasons sum l ++ drop (length (reasons sum l)) old) (map-id xs) in
    let long : length (reasons sum xs) ≡ length xs = length-map xs (reason sum xs) in
    let full : new ≡ reasons sum xs = plain ∙ ap (λ l. reasons sum xs ++ l) (drop_all (length (reasons sum xs)) old (omega arith)) ∙ append-nil (reasons sum xs) in
    ap (λ l. take n (l ++ drop (length l) items)) full ∙ take_at (reasons sum xs) (drop (length (reasons sum xs)) items) n (long ∙ sym many)

-- What is said of a bearer's reason is what is said of the bearer.
each : (explaining : Bool) (sum : ℕ) (xs : List Stake) (x : Stake) → told_lines explaining sum (reason sum xs x) ≡ bearer_lines explaining sum xs x
each explaining sum xs x = rw (reason_code sum xs x, reason_share sum xs x)

-- The text of an accepted split, where as many places were lent as a row may have bearers.
pub told : (explaining : Bool) (sum n places : ℕ) (xs : List Stake) (new old items rs : List Reason) → n ≡ min (length xs) 128 → length old ≡ n → places ≡ length old →
    Ok tt ≡ answer sum places (map (λ x. x) xs) → new ≡ reasons sum (map (λ x. x) xs) ++ drop (length (reasons sum (map (λ x. x) xs))) old →
    rs ≡ take n (new ++ drop (length new) items) → flat_map (told_lines explaining sum) rs ≡ split_text explaining sum xs
told explaining sum n places xs new old items rs lent_few room as_many said written held =
    let here : answer sum n xs ≡ Ok tt = sym (said ∙ ap (λ k. answer sum k (map (λ x. x) xs)) (as_many ∙ room) ∙ ap (answer sum n) (map-id xs)) in
    let many : n ≡ length xs = (let fits = (accepted_split sum n xs here).room in grind arith) in
    let accepted : answer sum (length xs) xs ≡ Ok tt = ap (λ k. answer sum k xs) (sym many) ∙ here in
    ap (flat_map (told_lines explaining sum)) (held ∙ lent sum n xs new old items many room written)
    ∙ flat_map-map (told_lines explaining sum) (reason sum xs) xs
    ∙ same_from_clauses (flat_map (λ x. told_lines explaining sum (reason sum xs x))) (flat_map (bearer_lines explaining sum xs)) (λ x lines. bearer_lines explaining sum xs x ++ lines) refl
    (λ x rest. ap (λ lines. lines ++ flat_map (λ y. told_lines explaining sum (reason sum xs y)) rest) (each explaining sum xs x)) (λ x rest. refl) xs
    ∙ sym (ap (λ a. split_said a (flat_map (bearer_lines explaining sum xs) xs)) accepted)

-- The text of a refused split, where as many places were lent.
pub refused : (explaining : Bool) (sum n places : ℕ) (xs : List Stake) (refusal : Refusal) → n ≡ min (length xs) 128 → places ≡ n →
    Err refusal ≡ answer sum places (map (λ x. x) xs) → refusal_line (number_of refusal) ≡ split_text explaining sum xs
refused explaining sum n places xs refusal lent_few as_many said =
    let here : Err refusal ≡ answer sum (min (length xs) 128) xs = said ∙ ap (λ k. answer sum k (map (λ x. x) xs)) (as_many ∙ lent_few) ∙ ap (answer sum (min (length xs) 128)) (map-id xs) in
    ap (λ a. split_said a (flat_map (bearer_lines explaining sum xs) xs)) (here ∙ places_enough sum (length xs) xs refl)
