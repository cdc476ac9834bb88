use Rattle.std.proofs.Common.{rules, ℕ, nat_eq, nat_lt, map-id, sym, ap, ◌∙◌}
use Rattle.std.proofs.lemmas.Iterator.{YieldsList-from_slice}
use Rattle.std.proofs.lemmas.Iterator.Search.{position_from_yields_List}
use Rattle.roll.specs.declared.account.Account.{Account}
use Rattle.roll.specs.declared.participant.Participant.{Participant}
use Rattle.roll.specs.Standing.{balance_of, standing, participants_with, money_of}
use Rattle.book.specs.Checks.{first_place}
use Rattle.book.proofs.Firsts.{first_by_code, first_by_number}
use Rattle.book.proofs.checks.RollCheck.place.Goals as goal

pub returns-in-ParticipantTwice-clause-first : goal.returns-in-ParticipantTwice-clause-first
returns-in-ParticipantTwice-clause-first c =
    c.first_twice.ensures.first
    ∙ first_by_code (λ p. p) _ _ (map-id _ ∙ c.participants-participants.ensures.are_its_participants) (λ p. p.code)
    ∙ ap (λ check. first_place check (standing c.args.roll.now)) (sym c.in-ParticipantTwice.is)

pub returns-in-AccountTwice-clause-first : goal.returns-in-AccountTwice-clause-first
returns-in-AccountTwice-clause-first c =
    c.first_twice-in-AccountTwice.ensures.first
    ∙ first_by_code balance_of _ _ c.accounts-accounts.ensures.are_its_accounts (λ a. a.code)
    ∙ ap (λ check. first_place check (standing c.args.roll.now)) (sym c.in-AccountTwice.is)

pub returns-in-OwnerUnknown-clause-first : goal.returns-in-OwnerUnknown-clause-first
returns-in-OwnerUnknown-clause-first c =
    let unknown = λ (n : ℕ). nat_eq (participants_with n (standing c.args.roll.now).participants) 0 in
    position_from_yields_List (λ (a : Account). unknown a.owner) _ _ _ c.position.ensures.ran (YieldsList-from_slice _ c.iter.ensures.rest) (λ x b q k. search rules)
    ∙ first_by_number balance_of _ _ c.accounts-accounts.ensures.are_its_accounts (λ a. a.owner) unknown
    ∙ ap (λ check. first_place check (standing c.args.roll.now)) (sym c.in-OwnerUnknown.is)

pub returns-in-AboveLimit-clause-first : goal.returns-in-AboveLimit-clause-first
returns-in-AboveLimit-clause-first c =
    let above = λ (n : ℕ). nat_lt 9000000000 (money_of n (standing c.args.roll.now).accounts) in
    position_from_yields_List (λ (p : Participant). above p.code) _ _ _ c.position-in-AboveLimit.ensures.ran (YieldsList-from_slice _ c.iter-in-AboveLimit.ensures.rest) (λ x b q k. search rules)
    ∙ first_by_number (λ p. p) _ _ (map-id _ ∙ c.participants-participants.ensures.are_its_participants) (λ p. p.code) above
    ∙ ap (λ check. first_place check (standing c.args.roll.now)) (sym c.in-AboveLimit.is)
