-- Finding the first fault of a table, record by record. Assumes nothing.
use Rattle.std.proofs.Common.{◌≡◌, ℕ, ◌+◌, ◌*◌, ◌<◌, ◌≤◌, List, [], ◌∷◌, length, get_or, drop, Some, None, Ok, Err, Option, Result, IsErrAnd, MatchResult, sym, refl, ap, subst, ◌∙◌, mul-add, mul-one, arith}
use Rattle.std.specs.List.{AllByRecursion}
use Rattle.std.proofs.lemmas.List.{at_drop_more, at_drop_all}
use Rattle.roll.specs.declared.fault.RollFault.TheVariants.{Field}
use Rattle.roll.specs.Limits.{from_place, first_of, first_fault, told}

-- the records before a place have no fault
module _ {R : Type 0} (fault : R → Option ℕ) (width from : ℕ) (records : List R) (i : ℕ) (so : first_fault fault width (from + width * i) (drop i records) ≡ first_fault fault width from records) where
  one_further : (r : R) → i < length records → r ≡ get_or records i r → first_of (from_place (from + width * i) (fault r)) (first_fault fault width (from + width * (i + 1)) (drop (i + 1) records)) ≡ first_fault fault width from records
  unfolding first_fault
  one_further r within read =
      let next : from + width * (i + 1) ≡ from + width * i + width = omega (arith, mul-add width i 1, mul-one width) in
      ap (λ x. first_of (from_place (from + width * i) (fault x)) (first_fault fault width (from + width * (i + 1)) (drop (i + 1) records))) read
      ∙ ap (λ place. first_of (from_place (from + width * i) (fault (get_or records i r))) (first_fault fault width place (drop (i + 1) records))) next
      ∙ sym (at_drop_more (first_fault fault width (from + width * i)) records i r within)
      ∙ so

  pub told_here : (r : R) (offset : ℕ) → i < length records → r ≡ get_or records i r → fault r ≡ Some offset → Err (Field (from + width * i + offset)) ≡ told (first_fault fault width from records)
  told_here r offset within read e =
      ap (λ o. told (first_of (from_place (from + width * i) o) (first_fault fault width (from + width * (i + 1)) (drop (i + 1) records)))) (sym e)
      ∙ ap told (one_further r within read)

  pub not_here : (r : R) → i < length records → r ≡ get_or records i r → fault r ≡ None → first_fault fault width (from + width * (i + 1)) (drop (i + 1) records) ≡ first_fault fault width from records
  not_here r within read e = ap (λ o. first_of (from_place (from + width * i) o) (first_fault fault width (from + width * (i + 1)) (drop (i + 1) records))) (sym e) ∙ one_further r within read

  pub nowhere : length records ≤ i → Ok tt ≡ told (first_fault fault width from records)
  unfolding first_fault
  nowhere past = ap told (sym (at_drop_all (first_fault fault width (from + width * i)) records i past) ∙ so)

-- a table without a fault has none in any record
pub not_first : (a b : Option ℕ) → first_of a b ≡ None → (a ≡ None) × (b ≡ None)
not_first None b e = (refl, e)
not_first (Some n) b e = absurd cc

not_moved : (place : ℕ) (o : Option ℕ) → from_place place o ≡ None → o ≡ None
not_moved place None e = refl
not_moved place (Some n) e = absurd cc

pub each_without : {R : Type 0} (fault : R → Option ℕ) (width place : ℕ) (records : List R) → first_fault fault width place records ≡ None → AllByRecursion (λ r. fault r ≡ None) records
unfolding first_fault
each_without fault width place [] e = tt
each_without fault width place (r ∷ rs) e =
    let p = not_first _ _ e in
    (not_moved place (fault r) p.0, each_without fault width (place + width) rs p.1)

-- a result whose error is told in other words
module _ {X E D : Type 0} (P : E → D → Type 0) where
  abbrev Retold : Result X E → Result X D → Type 0
  Retold r s = MatchResult r (λ x. s ≡ Ok x) (λ e. IsErrAnd s (P e))

  pub was_ok : (r : Result X E) (s : Result X D) (x : X) → Retold r s → s ≡ Ok x → r ≡ Ok x
  was_ok (Ok y) s x same is = cc
  was_ok (Err e) (Ok y) x same is = absurd same
  was_ok (Err e) (Err d) x same is = absurd cc

  pub was_error : (r : Result X E) (s : Result X D) (d : D) → Retold r s → s ≡ Err d → (e : E) × (r ≡ Err e) × P e d
  was_error (Ok y) s d same is = absurd cc
  was_error (Err e) (Ok y) d same is = absurd same
  was_error (Err e) (Err f) d same is = let one : f ≡ d = cc in (e, refl, subst (P e) one same)
