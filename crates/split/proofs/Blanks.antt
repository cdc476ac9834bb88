-- What stands in a table's place before anything is written there: the value that a read past a list gives. Assumes nothing.
use Rattle.split.specs.declared.bearer.Stake.{Stake}
use Rattle.split.specs.declared.division.Division.{Division}

abbrev pub blank_stake : Stake
blank_stake = record { code = 0; weight = 0 }

abbrev pub blank_division : Division
blank_division = record { code = 0; weight = 0; whole = 0; remainder = 0 }
