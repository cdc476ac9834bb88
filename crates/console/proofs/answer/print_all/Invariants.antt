use Rattle.std.proofs.Common.{◌≡◌, ◌++◌, take, string_bytes}
use Rattle.std.specs.List.{flat_map}
use Rattle.console.specs.Lines.{told_lines}
use Rattle.console.proofs.answer.print_all.Given as goal

-- What was written so far is what is said of the bearers so far.
abbrev pub invariant-loop-reason : goal.invariant-loop-reason
invariant-loop-reason l =
    string_bytes l.out ≡ string_bytes l.initial.out ++ flat_map (told_lines l.explaining l.sum) (take l.reason-index l.reasons)
