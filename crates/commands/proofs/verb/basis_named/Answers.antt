use Rattle.std.proofs.Common.{◌≡◌, codes, arith, rules}
use Rattle.std.proofs.lemmas.Slice.Eq.{text_from_reads}
use Rattle.commands.proofs.verb.basis_named.Goals as goal

pub returns-in-commitment : goal.returns-in-commitment
returns-in-commitment c =
    let is : c.args.word.now ≡ codes "commitment" = text_from_reads c.args.word.now (codes "commitment") (omega arith) (search rules) in
    rw is
