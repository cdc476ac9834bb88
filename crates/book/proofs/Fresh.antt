-- A book with nothing told yet: nobody owes, nothing is outstanding. Assumes nothing.
use Rattle.std.proofs.Common.{◌≡◌, ℕ, zero, suc, ◌≤◌, ltb, List, [], ◌∷◌, map, length, replicate, sum_by, count_by, refl, ap, ◌∙◌, arith}
use Rattle.rows.proofs.Rows.{sum_by-map}
use Rattle.roll.specs.declared.participant.Participant.{Participant}
use Rattle.roll.specs.Holdable.{participants_above}
use Rattle.roll.specs.Standing.{Balance, Standing, held_by, money_of}
use Rattle.book.specs.declared.parts.Outstanding.{Outstanding}
use Rattle.book.specs.Holdings.{Member, Holding, members, holdings, stake_by, stake_of, staked_above}
use Rattle.book.specs.declared.parts.Period.TheVariants.{Closed}
use Rattle.book.specs.declared.parts.Termination.TheVariants.{Partial}
use Rattle.book.specs.Model.{Model, fresh, owing_nothing, nothing_outstanding}

-- nothing under any declaration
abbrev none : Outstanding
none = record { by_declaration = replicate 8 0 }

pub fresh_members : (ps : List Participant) (n : ℕ) → length ps ≤ n → members ps (replicate n 0) ≡ map owing_nothing ps
unfolding members
fresh_members [] n few = refl
fresh_members (p ∷ ps) zero few = absurd (omega arith)
fresh_members (p ∷ ps) (suc n) few = ap (λ l. owing_nothing p ∷ l) (fresh_members ps n (omega arith))

pub fresh_holdings : (xs : List Balance) (n : ℕ) → length xs ≤ n → holdings xs (replicate n none) ≡ map nothing_outstanding xs
unfolding holdings
fresh_holdings [] n few = refl
fresh_holdings (a ∷ xs) zero few = absurd (omega arith)
fresh_holdings (a ∷ xs) (suc n) few = ap (λ l. nothing_outstanding a ∷ l) (fresh_holdings xs n (omega arith))

-- with nothing outstanding, what is at stake is what the accounts hold
at_stake : (code : ℕ) (a : Balance) → stake_by code (nothing_outstanding a) ≡ held_by code a
at_stake code a = grind arith

all_at_stake : (code : ℕ) (xs : List Balance) → stake_of code (map nothing_outstanding xs) ≡ money_of code xs
all_at_stake code xs = sum_by-map (stake_by code) nothing_outstanding xs ∙ (λ i. sum_by (λ a. at_stake code a i) xs)

pub fresh_stakes : (ps : List Participant) (xs : List Balance) (n : ℕ) → length xs ≤ n → staked_above ps (holdings xs (replicate n none)) ≡ participants_above ps xs
unfolding staked_above
fresh_stakes ps xs n few = ap (staked_above ps) (fresh_holdings xs n few) ∙ (λ i. count_by (λ p. ltb 9000000000 (all_at_stake p.code xs i)) ps)

-- the model of a book with nothing told yet
abbrev pub untold : {B : Type 0} → B → List Member → List Holding → ℕ → Model B
untold basis ms hs defaults = record {
  basis = basis;
  members = ms;
  holdings = hs;
  period = Closed;
  defaults = defaults;
  declarations = 0;
  termination = Partial;
  entries = 0;
  lines = 0;
}

pub stands_fresh : {B : Type 0} (basis : B) (s : Standing) → length s.participants ≤ 64 → length s.accounts ≤ 128 → s.defaults ≡ 0
    → untold basis (members s.participants (replicate 64 0)) (holdings s.accounts (replicate 128 none)) s.defaults ≡ fresh basis s
unfolding fresh
stands_fresh basis s few small undefaulted = λ i. untold basis (fresh_members s.participants 64 few i) (fresh_holdings s.accounts 128 small i) (undefaulted i)
