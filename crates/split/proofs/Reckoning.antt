-- The steps of a split, from the tested row to its reasons and shares. Assumes nothing.
use Rattle.std.proofs.Common.{◌≡◌, ℕ, ◌≤◌, List, ◌++◌, map, length, take, drop, sym, refl, ap, ◌∙◌, arith}
use Rattle.std.specs.List.{AllByRecursion}
use Rattle.std.proofs.ByRecursion.{All-from_get_or}
use Rattle.std.proofs.lemmas.List.{length-map, take_at}
use Rattle.std.proofs.lemmas.List.Sums.{get_or-le-sum_by}
use Rattle.split.specs.declared.bearer.Stake.{Stake}
use Rattle.split.specs.declared.division.Division.{Division}
use Rattle.split.specs.declared.reason.Reason.{Reason}
use Rattle.split.specs.Reasons.{reason, reasons, reckon}
use Rattle.split.specs.Shares.{divide, divisions, all_weights, odd_dollars, share, shares}
use Rattle.split.proofs.Blanks.{blank_division}
use Rattle.split.proofs.Quotients.{wholes, wholes_within}
use mathlib.Core.List.{map-map}
use Rattle.rows.proofs.Rows.{all_written}

-- what is divided of each bearer is the row of divisions
pub row_is : (sum total : ℕ) (xs : List Stake) (row : List Division) → total ≡ all_weights xs → row ≡ map (divide sum total) xs → row ≡ divisions sum xs
row_is sum total xs row weighs made = made ∙ ap (λ t. map (divide sum t) xs) weighs

-- its whole parts never come to more than the sum
pub row_within : (sum total : ℕ) (xs : List Stake) (row : List Division) → total ≡ all_weights xs → row ≡ map (divide sum total) xs → wholes row ≤ sum
row_within sum total xs row weighs made = omega (arith, ap wholes (row_is sum total xs row weighs made), wholes_within sum xs)

-- It stands in the first places of a table, as many as there are bearers.
module _ (sum total n : ℕ) (xs : List Stake) (table rest : List Division) (many : n ≡ length xs) (weighs : total ≡ all_weights xs) (written : table ≡ map (divide sum total) xs ++ rest) where
  in_table : take n table ≡ map (divide sum total) xs
  in_table = ap (take n) written ∙ take_at (map (divide sum total) xs) rest n (length-map xs (divide sum total) ∙ sym many)

  pub table_is : take n table ≡ divisions sum xs
  table_is = row_is sum total xs (take n table) weighs in_table

  pub table_within : wholes (take n table) ≤ sum
  table_within = row_within sum total xs (take n table) weighs in_table

-- no whole part is above all of them
pub wholes_small : (row : List Division) (most : ℕ) → wholes row ≤ most → AllByRecursion (λ d. d.whole ≤ most) row
wholes_small row most small =
    All-from_get_or (λ d. d.whole ≤ most) row blank_division
    (λ i within. omega (arith, small, get_or-le-sum_by (λ (d : Division). d.whole) row i blank_division within))

-- what is reckoned of each division is the reason of each bearer
pub reasons_are : (sum total odd : ℕ) (xs : List Stake) → total ≡ all_weights xs → odd ≡ odd_dollars sum (divisions sum xs) → map (reckon total odd (divisions sum xs)) (divisions sum xs) ≡ reasons sum xs
unfolding reason
reasons_are sum total odd xs weighs left =
    map-map (reckon total odd (divisions sum xs)) (divide sum (all_weights xs)) xs
    ∙ ap (λ t. map (λ x. reckon t odd (divisions sum xs) (divide sum (all_weights xs) x)) xs) weighs
    ∙ ap (λ o. map (λ x. reckon (all_weights xs) o (divisions sum xs) (divide sum (all_weights xs) x)) xs) left

-- a reason ends in the share
pub shares_are : (sum : ℕ) (xs : List Stake) → map (λ (r : Reason). r.share) (reasons sum xs) ≡ shares sum xs
unfolding reason share
shares_are sum xs = map-map (λ (r : Reason). r.share) (reason sum xs) xs

pub divisions_long : (sum : ℕ) (xs : List Stake) → length (divisions sum xs) ≡ length xs
divisions_long sum xs = length-map xs (divide sum (all_weights xs))

-- what was written, from the row on which it was reckoned
pub explained : (sum total odd : ℕ) (xs : List Stake) (row : List Division) (new old : List Reason) → row ≡ divisions sum xs → total ≡ all_weights xs → odd ≡ odd_dollars sum row → length xs ≤ length old →
    new ≡ map (reckon total odd row) (take (length old) row) ++ drop (length row) old → new ≡ reasons sum xs ++ drop (length (reasons sum xs)) old
explained sum total odd xs row new old is weighs left room written =
    written
    ∙ all_written (reckon total odd row) row old (omega (arith, ap length is, divisions_long sum xs, room))
    ∙ ap (λ o. map (reckon total o row) row ++ drop (length row) old) left
    ∙ ap (λ l. map (reckon total (odd_dollars sum l) l) l ++ drop (length l) old) is
    ∙ ap (λ l. l ++ drop (length (divisions sum xs)) old) (reasons_are sum total (odd_dollars sum (divisions sum xs)) xs weighs refl)
    ∙ ap (λ n. reasons sum xs ++ drop n old) (divisions_long sum xs ∙ sym (length-map xs (reason sum xs)))

-- the shares that were copied out of the reasons are the shares of the row
pub shared_out : (sum n : ℕ) (xs : List Stake) (table rest : List Reason) (new old : List ℕ) → n ≡ length xs → length xs ≤ length old → table ≡ reasons sum xs ++ rest →
    new ≡ map (λ (r : Reason). r.share) (take (length old) (take n table)) ++ drop (length (take n table)) old → new ≡ shares sum xs ++ drop (length (shares sum xs)) old
shared_out sum n xs table rest new old many room written copied =
    let part : take n table ≡ reasons sum xs = ap (take n) written ∙ take_at (reasons sum xs) rest n (length-map xs (reason sum xs) ∙ sym many) in
    copied
    ∙ ap (λ l. map (λ (r : Reason). r.share) (take (length old) l) ++ drop (length l) old) part
    ∙ all_written (λ (r : Reason). r.share) (reasons sum xs) old (omega (arith, length-map xs (reason sum xs), room))
    ∙ ap (λ l. l ++ drop (length (reasons sum xs)) old) (shares_are sum xs)
    ∙ ap (λ k. shares sum xs ++ drop k old) (length-map xs (reason sum xs) ∙ sym (length-map xs (share sum xs)))

-- a reason is of its bearer, and ends in its share
pub reason_code : (sum : ℕ) (xs : List Stake) (x : Stake) → (reason sum xs x).division.code ≡ x.code
unfolding reason
reason_code sum xs x = refl

pub reason_share : (sum : ℕ) (xs : List Stake) (x : Stake) → (reason sum xs x).share ≡ share sum xs x
unfolding reason share
reason_share sum xs x = refl
