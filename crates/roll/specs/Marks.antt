-- A participant in default. Assumes nothing.
use Rattle.std.specs.Prelude.{ℕ, true, false, slice_index_or, slice_set}
use Rattle.roll.specs.declared.participant.Participant.{Participant}
use Rattle.roll.specs.Standing.{Standing}

-- What stands in a table's place before a participant is written there.
abbrev pub blank : Participant
blank = record { code = 0; futures = 0; otc = 0; margin = 0; adjusted = 0; in_scope = false; in_default = false }

-- The participant, in default, and else as it was.
abbrev pub marked : Participant → Participant
marked p = record {
  code = p.code;
  futures = p.futures;
  otc = p.otc;
  margin = p.margin;
  adjusted = p.adjusted;
  in_scope = p.in_scope;
  in_default = true;
}

-- The roll with the participant at a place in default; as it was where the place is beyond it.
abbrev pub marked_at : ℕ → Standing → Standing
marked_at place s = record {
  participants = slice_set s.participants place (marked (slice_index_or s.participants place blank));
  accounts = s.accounts;
  defaults = s.defaults;
}
