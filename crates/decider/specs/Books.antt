-- The books that are kept, and those after an event.
use Rattle.std.specs.Prelude.{ℕ, Bool, ◌||◌, List, [], ◌∷◌, length, flat_map, slice_get, slice_set, if◌then◌else◌}
use Rattle.std.specs.Option.{option_map_or}
use Rattle.due_model.specs.declared.config.Config.{Config}
use Rattle.due_model.specs.declared.config.Object.{Object}
use Rattle.due_model.specs.declared.event.Event.{Event}
use Rattle.due_model.specs.declared.zone.Zone.{Zone}
use Rattle.due_model.specs.claims.Histories.{repeats}
use Rattle.due_model.specs.claims.Readings.{moment}
use Rattle.problem_count.specs.claims.Book.{BookValues}
use Rattle.problem_count.specs.claims.Fits.{book_of}
use Rattle.problem_count.specs.Laws.{touches}
use Rattle.decider.specs.declared.share.Share.{Share}
use Rattle.decider.specs.declared.staging.NewBook.{NewBook}
use Rattle.decider.specs.claims.Share.{owned_numbers}

-- the book of object o after an event
abbrev pub book_after : Config → Zone → Event → List Event → (o : ℕ) → List NewBook
book_after c zone e past o =
    option_map_or
    (λ settings. record {
      object = record { 0 = o };
      book = book_of c zone o settings (e ∷ past);
    } ∷ [])
    (slice_get c.objects o) []

-- whether an event touches object o: it names it, it is the clock's and the object's problem is due, or it attempts
-- the object's problem again
abbrev pub is_touched : Config → Zone → Event → List Event → (o : ℕ) → Object → Bool
is_touched c zone e past o settings =
    repeats c o e.kind past
    || touches o e.kind (book_of c zone o settings past).due (moment (e ∷ past))

-- its book after the event, if the event touches it
abbrev pub new_books : Config → Zone → Event → List Event → (o : ℕ) → List NewBook
new_books c zone e past o =
    option_map_or
    (λ settings. if is_touched c zone e past o settings then book_after c zone e past o else [])
    (slice_get c.objects o) []

-- those of the objects of a share, in number order
abbrev pub share_books : Config → Zone → Share → Event → List Event → List NewBook
share_books c zone share e past =
    flat_map (new_books c zone e past) (owned_numbers share (length c.objects))

-- the books once these have taken their places
abbrev pub settled : List NewBook → List BookValues → List BookValues
settled [] books = books
settled (new ∷ more) books = settled more (slice_set books new.object.0 new.book)
