-- What a source gives.
use Rattle.std.specs.Prelude.{List, [], ◌∷◌}
use Rattle.due_model.specs.declared.event.Event.{Event}
use Rattle.engine_threads.specs.declared.source.Given.{Given}
use Rattle.engine_threads.specs.declared.source.Given.TheVariants as given

-- the event that it is, if it is one
abbrev pub event_in : Given → List Event
event_in (given.Event e) = e ∷ []
event_in given.Nothing = []
event_in given.Over = []
