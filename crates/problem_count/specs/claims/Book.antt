-- What a book is to its callers, and what each call makes of it.
use Rattle.std.specs.Prelude.{ℕ, Bool, false, Option, None}
use Rattle.due_model.specs.declared.options.OptionLetters.{OptionLetters}
use Rattle.due_model.specs.declared.rules.Last.{Last}
use Rattle.due_model.specs.declared.state.State.{State}
use Rattle.due_model.specs.declared.state.State.TheVariants.{Pending}
use Rattle.due_model.specs.claims.Rules.{no_letter}

-- what a book keeps
pub record BookValues : Type 0 where
  -- the object's last hard state, and since when the first delay runs
  pub state : State
  pub began : ℕ
  -- how many notices of that problem went out, and the last of them
  pub sent : ℕ
  pub last : Option Last
  -- the letters of the states that they told
  pub told : OptionLetters
  -- whether the wait after the last of them was ended
  pub ended : Bool
  -- when the clock next attempts the problem that runs; never, where that says so
  pub due : Option ℕ

-- of an object of which nothing is known yet
abbrev pub new_book : BookValues
new_book = record {
  state = Pending;
  began = 0;
  sent = 0;
  last = None;
  told = no_letter;
  ended = false;
  due = None;
}
