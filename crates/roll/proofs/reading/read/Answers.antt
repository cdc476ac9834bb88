use Rattle.std.proofs.Common.{map, Ok, sym, refl, ap, ◌∙◌, subst, rules}
use Rattle.std.proofs.lemmas.List.Folds.{map_fixed}
use Rattle.image.specs.Layout.{records_of}
use Rattle.roll.specs.Limits.{enrolled, opening_balance, admitted, roll_read, roll_bytes}
use Rattle.roll.specs.Read.{WithinLimits}
use Rattle.roll.specs.Standing.{balance_of}
use Rattle.roll.proofs.Enrolling.{refused_participant, refused_account, without_fault, viewed, stands_as_enrolled, within_limits, roll_has_the_bytes}
use Rattle.roll.proofs.reading.read.Goals as goal

pub returns-in_err-take_in-clause-reads_as_defined : goal.returns-in_err-take_in-clause-reads_as_defined
returns-in_err-take_in-clause-reads_as_defined c =
    let told = refused_participant (records_of c.in_ok-image.image) c.participants-records.result.now c.participants-records.ensures.are_its_participants _ c.in_err-take_in.ensures.refuses_the_first_fault
    ∙ ap roll_read c.in_ok-image.ensures.reads_as_defined in
    search rules

pub returns-in_err-take_in-2-clause-reads_as_defined : goal.returns-in_err-take_in-2-clause-reads_as_defined
returns-in_err-take_in-2-clause-reads_as_defined c =
    let told = refused_account (records_of c.in_ok-image.image) c.participants-records.result.now c.participants-records.ensures.are_its_participants c.accounts.result.now _ c.accounts.ensures.are_its_accounts refl c.in_ok-take_in.ensures.refuses_the_first_fault _ c.in_err-take_in-2.ensures.refuses_the_first_fault
    ∙ ap roll_read c.in_ok-image.ensures.reads_as_defined in
    search rules

pub returns : goal.returns
returns c =
    let r = records_of c.in_ok-image.image in
    let read = c.in_ok-image.ensures in
    let participants = c.participants-records.ensures.are_its_participants in
    let accounts = c.accounts.ensures.are_its_accounts in
    let faultless = without_fault r c.participants-records.result.now participants c.accounts.result.now _ accounts refl c.in_ok-take_in.ensures.refuses_the_first_fault c.in_ok-take_in-2.ensures.refuses_the_first_fault in
    let same = stands_as_enrolled r _
    (sym (map_fixed (λ p. p) _ (λ k d within. refl)) ∙ viewed _ (λ p. p) enrolled (λ x y h. h.1) _ _ c.in_ok-take_in.ensures.takes_in_each ∙ ap (map enrolled) participants)
    (viewed _ balance_of opening_balance (λ x y h. h.1) _ _ c.in_ok-take_in-2.ensures.takes_in_each ∙ ap (map opening_balance) accounts)
    refl in
    record {
      reads_as_defined = ap Ok same ∙ ap (admitted r) (sym faultless) ∙ ap roll_read read.reads_as_defined;
      records_have_the_bytes_read = ap roll_bytes same ∙ roll_has_the_bytes r faultless ∙ read.records_have_the_bytes_read;
      fields_are_within_limits = subst WithinLimits (sym same) (within_limits r faultless read.counts_are_within_limits);
    }
