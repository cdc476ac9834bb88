-- The words that commands are told by. Assumes nothing.
use Rattle.std.specs.Prelude.{ℕ, Bool, true, false, cond, List, Some, None, codes, Option}
use Rattle.std.specs.Str.{bytes_eq}
use Rattle.console.specs.declared.verb.Verb.{Verb}
use Rattle.console.specs.declared.verb.Verb.TheVariants.{Explain, Split}

-- The verb that a word is.
abbrev pub verb_of : List ℕ → Option Verb
verb_of word =
    cond (bytes_eq word (codes "explain")) (Some Explain)
    (cond (bytes_eq word (codes "split")) (Some Split) None)

-- `on` is true, `off` false.
abbrev pub switch_of : List ℕ → Option Bool
switch_of word =
    cond (bytes_eq word (codes "on")) (Some true)
    (cond (bytes_eq word (codes "off")) (Some false) None)
