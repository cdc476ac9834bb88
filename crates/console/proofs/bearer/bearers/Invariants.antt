use Rattle.std.proofs.Common.{◌≡◌, map, drop, vec_items}
use Rattle.console.specs.Bearers.{bearers_of}
use Rattle.console.proofs.Gathering.{following}
use Rattle.console.proofs.bearer.bearers.Given as goal

-- The bearers found, followed by those of the words that are left, are the bearers of all the words.
abbrev pub invariant-loop-word : goal.invariant-loop-word
invariant-loop-word l =
    following (vec_items l.found) (bearers_of (map vec_items (drop l.word-index l.words))) ≡ bearers_of (map vec_items l.words)
