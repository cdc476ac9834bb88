-- How many records the head of an image counts. Assumes nothing.
use Rattle.std.specs.Prelude.{ℕ, List}
use Rattle.image.specs.declared.reading.Counts.{Counts}
use Rattle.image.specs.Layout.{participant_count, account_count}

abbrev pub counts_of : List ℕ → Counts
counts_of bytes = record { participants = participant_count bytes; accounts = account_count bytes }
