use Rattle.std.proofs.Common.{◌≡◌, ◌++◌, map, length, vec_items}
use Rattle.console.specs.Words.{words_of}
use Rattle.console.proofs.word.words.Given as goal

-- The words found, followed by those of the rest, are the words of the line.
abbrev pub invariant-loop-word : goal.invariant-loop-word
invariant-loop-word l = map vec_items (vec_items l.found) ++ words_of l.rest ≡ words_of l.fn.line

abbrev pub decreases-loop-word : goal.decreases-loop-word
decreases-loop-word l = length l.rest
