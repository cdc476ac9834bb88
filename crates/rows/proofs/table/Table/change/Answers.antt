use Rattle.std.proofs.Common.{◌<◌, length, get_or, take, set, sym, refl, ap, ◌∙◌, rules}
use lib.Seq.{take-set-lt}
use Rattle.std.proofs.lemmas.List.{get_or-take, get_or_default}
use Rattle.rows.proofs.table.Table.change.Goals as goal

pub returns-then-place-self : goal.returns-then-place-self
returns-then-place-self g c = record {
  changes_just_that_record = λ h d by.
      let t = c.args.self.now in
      let place = c.args.place in
      let within : place < length t.places = search rules in
      take-set-lt t.count t.places place _ c.if-place-self.true
      ∙ ap (λ y. set (take t.count t.places) place y)
      (by (get_or (take t.count t.places) place d) _ (record {
        shown = _;
        shows = get_or_default t.places place _ d within ∙ sym (get_or-take t.count t.places place d c.if-place-self.true);
        left = _;
        met = c.rule.ensures;
        leaves = refl;
      }));
}
