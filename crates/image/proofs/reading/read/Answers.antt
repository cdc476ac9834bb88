use Rattle.std.proofs.Common.{Ok, sym, ap, ◌∙◌, subst, arith}
use Rattle.image.specs.declared.reading.Counts.{Counts}
use Rattle.image.specs.Faults.{head_fault, unless}
use Rattle.image.specs.Head.{counts_of}
use Rattle.image.specs.Layout.{records_at, bytes_of, FewRecords}
use Rattle.image.proofs.Images.{headed, unless_ok, reads_the_records, records_have_the_bytes, few_records}
use Rattle.image.proofs.Numbers.{bytes_under}
use Rattle.image.proofs.reading.read.Goals as goal

pub returns : goal.returns
returns c =
    let bytes = c.args.bytes.now in
    let met = unless_ok (head_fault bytes) (counts_of bytes) c.in_ok-counts.counts c.in_ok-counts.ensures.as_defined in
    let ok = headed bytes met.0 in
    let same = reads_the_records bytes _ ok _ _ _ (ap (λ (k : Counts). k.participants) met.1) (ap (λ (k : Counts). k.accounts) met.1) (omega arith) c.read_in.ensures c.read_in-2.ensures in
    record {
      reads_as_defined = ap Ok same ∙ ap (λ o. unless o (records_at bytes)) (sym met.0);
      records_have_the_bytes_read = ap bytes_of same ∙ records_have_the_bytes bytes (bytes_under bytes c.type_inv.bytes) ok;
      counts_are_within_limits = subst FewRecords (sym same) (few_records bytes ok);
    }
