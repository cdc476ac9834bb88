use Rattle.std.proofs.Common.{[], ◌∷◌, ◌++◌, map, length, sym, ap, ◌∙◌, arith, rules}
use Rattle.std.specs.List.{range_with_len}
use Rattle.std.proofs.lemmas.List.{append_assoc, append-nil, length-append}
use Rattle.std.proofs.lemmas.List.FromFn.{map-range_with_len_more}
use Rattle.rows.specs.Tables.{records}
use Rattle.rows.proofs.table.Table.push_each.Goals as goal

pub loop-i-init : goal.loop-i-init
loop-i-init g c = record { many = omega arith; made = λ h gives. sym (append-nil (records c.args.self.now)) }

pub push-requires : goal.push-requires
push-requires g c = (search rules, omega (arith, c.loop-i.invariant.many, c.requires.room, c.loop-i-test.true))

pub loop-i-preserved : goal.loop-i-preserved
loop-i-preserved g c = record {
  many = omega (arith, ap length c.push.ensures.adds_it_at_the_end, length-append (records c.loop-i.self) (c.make.result ∷ []), c.loop-i.invariant.many);
  made = λ h gives.
      c.push.ensures.adds_it_at_the_end
      ∙ ap (λ l. l ++ c.make.result ∷ []) (c.loop-i.invariant.made h gives)
      ∙ append_assoc (records c.args.self.now) (map h (range_with_len 0 c.loop-i.i)) (c.make.result ∷ [])
      ∙ ap (λ x. records c.args.self.now ++ (map h (range_with_len 0 c.loop-i.i) ++ x ∷ [])) (gives c.loop-i.i c.make.result (record { met = c.make.ensures }))
      ∙ ap (λ l. records c.args.self.now ++ l) (sym (map-range_with_len_more h 0 c.loop-i.i c.loop-i.i (omega arith)));
}

pub returns : goal.returns
returns g c = record { adds_them_at_the_end = λ h gives. c.loop-i.invariant.made h gives ∙ ap (λ n. records c.args.self.now ++ map h (range_with_len 0 n)) (omega arith) }
