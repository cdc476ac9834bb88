use Rattle.std.proofs.Common.{◌≡◌, ◌++◌, map, take, string_bytes}
use Rattle.std.specs.List.{flat_map}
use Rattle.roll.specs.Standing.{balance_of}
use Rattle.book_console.specs.Lines.{funds_line}
use Rattle.book_console.proofs.funds.print_funds.Given as goal

-- What was written so far is the lines of the accounts so far.
abbrev pub invariant-loop-account : goal.invariant-loop-account
invariant-loop-account l =
    string_bytes l.out ≡ string_bytes l.initial.out ++ flat_map funds_line (map balance_of (take l.account-index l.accounts))
