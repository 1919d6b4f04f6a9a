-- What a line of a journal says, where it says something.
use Rattle.std.specs.Prelude.{Bool, false, List, [], ◌∷◌, Option, None, Some}
use Rattle.due_model.specs.declared.notice.Notice.{Notice}
use Rattle.journal_text.specs.declared.entry.Entry.{Entry}
use Rattle.journal_text.specs.declared.entry.Entry.TheVariants.{Begun, GivenUp, Taken}
use Rattle.journaled.specs.Claims.{settles}

-- what was taken or given up by it
abbrev pub settled_said : Option Entry → List Notice
settled_said None = []
settled_said (Some (Begun n)) = []
settled_said (Some (Taken n)) = n ∷ []
settled_said (Some (GivenUp n)) = n ∷ []

-- what was about to be handed over by it
abbrev pub begun_said : Option Entry → List Notice
begun_said None = []
begun_said (Some (Begun n)) = n ∷ []
begun_said (Some (Taken n)) = []
begun_said (Some (GivenUp n)) = []

-- whether it settles a notice
abbrev pub settles_said : Notice → Option Entry → Bool
settles_said n None = false
settles_said n (Some (Begun other)) = false
settles_said n (Some (Taken other)) = settles n other
settles_said n (Some (GivenUp other)) = settles n other
