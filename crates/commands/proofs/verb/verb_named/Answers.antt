use Rattle.std.proofs.Common.{◌≡◌, codes, arith, rules}
use Rattle.std.proofs.lemmas.Slice.Eq.{text_from_reads}
use Rattle.commands.proofs.verb.verb_named.Goals as goal

pub returns-in-journal : goal.returns-in-journal
returns-in-journal c =
    let is : c.args.word.now ≡ codes "journal" = text_from_reads c.args.word.now (codes "journal") (omega arith) (search rules) in
    rw is
