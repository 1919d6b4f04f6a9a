-- What becomes of the channels of a lane: what each has taken is its record, and one is replaced only once a letter has failed.
use Rattle.std.specs.Prelude.{◌+◌, List, [], ◌∷◌, ◌++◌}
use Rattle.due_model.specs.declared.notice.Notice.{Notice}
use Rattle.undelivered.specs.Record.{Record}

-- the records, one for each channel that served
abbrev pub records_in : Record → List (List Notice)
records_in lane = lane.ended ++ lane.taken ∷ []
