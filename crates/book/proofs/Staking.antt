-- What the accounts hold is within what is at stake: for the calls that change a book, which owe both bounds. Assumes nothing.
use Rattle.std.proofs.Common.{◌≡◌, ℕ, ◌+◌, ◌≤◌, Bool, true, false, cond, eqb, ltb, List, [], ◌∷◌, length, sum, arith}
use Rattle.std.proofs.lemmas.List.Sums.{sum_by-cons}
use Rattle.std.proofs.lemmas.Bool.{ltb-true, lt-ltb}
use Rattle.rows.proofs.Counts.{all_of, bit, bit_below, sum_by-below}
use Rattle.roll.specs.declared.participant.Participant.{Participant}
use Rattle.roll.specs.Holdable.{participants_above}
use Rattle.roll.specs.Standing.{Balance, held_by, money_of}
use Rattle.book.specs.declared.parts.Outstanding.{Outstanding}
use Rattle.book.specs.Holdings.{holdings, stake_by, stake_of, staked_above}

-- What an account holds is at stake.
pub held_at_stake : (code : ℕ) (a : Balance) (row : Outstanding) → held_by code a ≤ stake_by code record { account = a; outstanding = row.by_declaration }
held_at_stake code a row = either (eqb a.owner code)
  where
    either : (b : Bool) → cond b (a.funds + a.overnight) 0 ≤ cond b (a.funds + a.overnight + sum row.by_declaration) 0
    either true = omega arith
    either false = omega arith

-- So is what the accounts of a participant hold together.
pub money_at_stake : (code : ℕ) (xs : List Balance) (rows : List Outstanding) → length xs ≤ length rows → money_of code xs ≤ stake_of code (holdings xs rows)
unfolding holdings
money_at_stake code [] rows room = omega arith
money_at_stake code (a ∷ xs) [] room = absurd (omega arith)
money_at_stake code (a ∷ xs) (row ∷ rows) room =
    omega (arith, sum_by-cons (held_by code) a xs, sum_by-cons (stake_by code) record { account = a; outstanding = row.by_declaration } (holdings xs rows), held_at_stake code a row, money_at_stake code xs rows (omega arith))

-- Where nobody has more at stake than the limit, nobody holds more.
pub nobody_above : (ps : List Participant) (xs : List Balance) (rows : List Outstanding) → length xs ≤ length rows → staked_above ps (holdings xs rows) ≡ 0 → participants_above ps xs ≡ 0
unfolding staked_above
nobody_above ps xs rows room none =
    let fewer = sum_by-below (λ (p : Participant). bit (ltb 9000000000 (money_of p.code xs))) (λ p. bit (ltb 9000000000 (stake_of p.code (holdings xs rows)))) ps
    (all_of (λ p. bit (ltb 9000000000 (money_of p.code xs)) ≤ bit (ltb 9000000000 (stake_of p.code (holdings xs rows))))
    (λ p. bit_below (ltb 9000000000 (money_of p.code xs)) (ltb 9000000000 (stake_of p.code (holdings xs rows))) (λ e. lt-ltb 9000000000 (stake_of p.code (holdings xs rows)) (omega (arith, ltb-true 9000000000 (money_of p.code xs) e, money_at_stake p.code xs rows room)))) ps) in
    omega (arith, fewer, none)
