use Rattle.std.proofs.Common.{rules, ◌≡◌, codes, arith}
use Rattle.std.proofs.lemmas.Slice.Eq.{text_from_reads}
use Rattle.console.proofs.verb.verb_named.Goals as goal

pub returns-in-explain : goal.returns-in-explain
returns-in-explain c = let e : c.args.word.now ≡ codes "explain" = text_from_reads c.args.word.now (codes "explain") (omega arith) (search rules) in rw e
