-- What is staged at an event.
use Rattle.std.specs.Prelude.{◌≡◌, ◌⊎◌, List, ◌++◌}
use Rattle.due_model.specs.declared.config.ObjectId.{ObjectId}
use Rattle.messages.specs.declared.entries.Entry.{Entry}
use Rattle.decider.specs.declared.staging.NewBook.{NewBook}
use Rattle.decider.specs.declared.staging.Pair.{Pair}
use Rattle.decider.specs.declared.staging.Staged.{Staged}

-- these two objects, in one order or the other
abbrev pub ArePair : (one other : ObjectId) → Pair → Type 0
ArePair one other pair =
    ((pair.first ≡ one) × (pair.second ≡ other)) ⊎ ((pair.first ≡ other) × (pair.second ≡ one))

-- these entries and books more
pub record Adds (more : List Entry) (after : List NewBook) (old new : Staged) : Type 0 where
  pub entries : new.entries.items ≡ old.entries.items ++ more
  pub books : new.books.items ≡ old.books.items ++ after
