-- The lines of an answer. Assumes nothing.
use Rattle.std.specs.Prelude.{ℕ, List, [], ◌∷◌, ◌++◌, Ok, Err, codes, decimal, Result}
use Prim.Native.String.{String}
use Rattle.roll.specs.Standing.{Balance}
use Rattle.book.specs.declared.fault.Layer.{Layer}
use Rattle.book.specs.declared.fault.Layer.TheVariants.{Image, Roll, Book}
use Rattle.book.specs.declared.fault.OpenFault.{OpenFault}
use Rattle.book.specs.Faults.{layer_of, number_of, place_of}

-- A line that is always the same.
abbrev pub plain_line : String → List ℕ
plain_line text = codes text ++ 10 ∷ []

-- `refused NUMBER place PLACE layer LAYER`.
abbrev pub layer_name : Layer → List ℕ
layer_name Image = codes "image"
layer_name Roll = codes "roll"
layer_name Book = codes "book"

abbrev pub fault_line : OpenFault → List ℕ
fault_line fault =
    codes "refused " ++ (decimal (number_of fault)
    ++ (codes " place " ++ (decimal (place_of fault)
    ++ (codes " layer " ++ (layer_name (layer_of fault) ++ 10 ∷ [])))))

-- `open ok`, or the refusal.
abbrev pub opening_line : {X : Type 0} → Result X OpenFault → List ℕ
opening_line (Ok x) = plain_line "open ok"
opening_line (Err fault) = fault_line fault

-- `check VALUE`.
abbrev pub check_line : ℕ → List ℕ
check_line value = codes "check " ++ (decimal value ++ 10 ∷ [])

-- `CODE FUNDS OVERNIGHT`.
abbrev pub funds_line : Balance → List ℕ
funds_line a = decimal a.code ++ (codes " " ++ (decimal a.funds ++ (codes " " ++ (decimal a.overnight ++ 10 ∷ []))))
