-- The lines that answer a split. Assumes nothing.
use Rattle.std.specs.Prelude.{ℕ, Bool, cond, List, [], ◌∷◌, ◌++◌, codes, decimal}
use Rattle.split.specs.declared.reason.Reason.{Reason}

-- `refused N`.
abbrev pub refusal_line : ℕ → List ℕ
refusal_line n = codes "refused " ++ (decimal n ++ 10 ∷ [])

-- `share CODE AMOUNT`.
abbrev pub share_line : ℕ → ℕ → List ℕ
share_line code amount = codes "share " ++ (decimal code ++ (codes " " ++ (decimal amount ++ 10 ∷ [])))

-- `# CODE: SUM x WEIGHT / TOTAL = WHOLE, remainder REMAINDER; rank RANK, odd dollars ODD: gets one`, or `none`.
abbrev pub division_part : ℕ → Reason → List ℕ
division_part sum r =
    codes "# " ++ (decimal r.division.code
    ++ (codes ": " ++ (decimal sum
    ++ (codes " x " ++ (decimal r.division.weight
    ++ (codes " / " ++ (decimal r.total
    ++ (codes " = " ++ decimal r.division.whole))))))))

abbrev pub rank_part : Reason → List ℕ
rank_part r =
    codes ", remainder " ++ (decimal r.division.remainder
    ++ (codes "; rank " ++ (decimal r.rank
    ++ (codes ", odd dollars " ++ decimal r.odd))))

abbrev pub gets_part : Bool → List ℕ
gets_part extra = cond extra (codes ": gets one" ++ 10 ∷ []) (codes ": gets none" ++ 10 ∷ [])

abbrev pub reason_line : ℕ → Reason → List ℕ
reason_line sum r = division_part sum r ++ (rank_part r ++ gets_part r.extra)

-- What is said of one bearer: its share, and while explanations are printed the reason of it.
abbrev pub told_lines : Bool → ℕ → Reason → List ℕ
told_lines explaining sum r = share_line r.division.code r.share ++ cond explaining (reason_line sum r) []
