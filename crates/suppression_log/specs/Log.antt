-- What a log is to its callers.
use Rattle.std.specs.Prelude.{ℕ, List}
use Rattle.due_model.specs.declared.notice.Suppression.{Suppression}

-- the suppressions, the oldest first, and how many more are taken without asking for memory
pub record Lines : Type 0 where
  pub lines : List Suppression
  pub room : ℕ
