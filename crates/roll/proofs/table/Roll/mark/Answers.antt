use Rattle.std.proofs.Common.{List, map, ap, rules}
use Rattle.rows.specs.Tables.{records}
use Rattle.roll.specs.declared.participant.Participant.{Participant}
use Rattle.roll.specs.Marks.{marked, blank}
use Rattle.roll.specs.Standing.{Standing, balance_of, standing}
use Rattle.roll.proofs.table.Roll.mark.Goals as goal

pub returns : goal.returns
unfolding standing
returns c =
    let with_participants : List Participant → Standing = λ ps. record { participants = ps; accounts = map balance_of (records c.args.self.now.accounts); defaults = c.args.self.now.defaults } in
    record { marks_just_that_participant = ap with_participants (c.change.ensures.changes_just_that_record marked blank (λ x y h. search rules)) }
