-- The books that are kept, and those after an event.
use Rattle.std.specs.Prelude.{◌≡◌, ℕ, true, List, length, slice_get, slice_index_or, Some}
use Rattle.due_model.specs.declared.config.Config.{Config}
use Rattle.due_model.specs.declared.config.Object.{Object}
use Rattle.due_model.specs.declared.event.Event.{Event}
use Rattle.due_model.specs.declared.zone.Zone.{Zone}
use Rattle.problem_count.specs.claims.Book.{BookValues, new_book}
use Rattle.problem_count.specs.claims.Fits.{BookFits}
use Rattle.decider.specs.declared.share.Share.{Share}
use Rattle.decider.specs.claims.Share.{is_owned}

-- There is a book for each object, and that of each object of the share fits this past.
pub record BooksFit (c : Config) (zone : Zone) (share : Share) (past : List Event)
    (books : List BookValues) : Type 0 where
  pub count : length books ≡ length c.objects
  pub each : (o : ℕ) (settings : Object) → slice_get c.objects o ≡ Some settings
      → is_owned share o ≡ true
      → BookFits c zone o settings past (slice_index_or books o new_book)
