-- The model of a book: all that later calls can see, without the spare places of its tables. Assumes nothing.
use Rattle.std.specs.Prelude.{ℕ, List, [], map, replicate}
use Rattle.roll.specs.declared.participant.Participant.{Participant}
use Rattle.roll.specs.Standing.{Balance, Standing, standing}
use Rattle.book.specs.declared.parts.Period.{Period}
use Rattle.book.specs.declared.parts.Period.TheVariants.{Closed}
use Rattle.book.specs.declared.parts.Termination.{Termination}
use Rattle.book.specs.declared.parts.Termination.TheVariants.{Partial}
use Rattle.basis.specs.declared.basis.Basis.{Ghosts}
use Rattle.book.specs.declared.state.Book.{Book}
use Rattle.book.specs.Holdings.{Member, Holding, members, holdings}

pub record Model (B : Type 0) : Type 0 where
  pub basis : B
  pub members : List Member
  pub holdings : List Holding
  pub period : Period
  pub defaults : ℕ
  pub declarations : ℕ
  pub termination : Termination
  pub entries : ℕ
  pub lines : ℕ

-- The model of a book.
unfoldable pub model : {B : Type 0} {g : Ghosts B} → Book B g → Model B
model book = record {
  basis = book.basis;
  members = members (standing book.roll).participants book.owed;
  holdings = holdings (standing book.roll).accounts book.outstanding;
  period = book.period;
  defaults = (standing book.roll).defaults;
  declarations = book.declarations;
  termination = book.termination;
  entries = book.entries;
  lines = book.lines;
}

-- A participant who owes nothing, an account to which nothing is outstanding.
abbrev pub owing_nothing : Participant → Member
owing_nothing p = record { participant = p; owed = 0 }

abbrev pub nothing_outstanding : Balance → Holding
nothing_outstanding a = record { account = a; outstanding = replicate 8 0 }

-- A book opened afresh from a roll: no period, nothing owed, no declaration, partial terminations, no entry, no line.
unfoldable pub fresh : {B : Type 0} → B → Standing → Model B
fresh basis s = record {
  basis = basis;
  members = map owing_nothing s.participants;
  holdings = map nothing_outstanding s.accounts;
  period = Closed;
  defaults = 0;
  declarations = 0;
  termination = Partial;
  entries = 0;
  lines = 0;
}

-- A roll without records.
abbrev pub empty_roll : Standing
empty_roll = record { participants = []; accounts = []; defaults = 0 }

-- The roll of a model, as a basis may look at it.
abbrev pub standing_of : {B : Type 0} → Model B → Standing
standing_of m = record {
  participants = map (λ x. x.participant) m.members;
  accounts = map (λ h. h.account) m.holdings;
  defaults = m.defaults;
}
