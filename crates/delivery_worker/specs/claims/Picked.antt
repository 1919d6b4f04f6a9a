-- What a worker has picked, beside what it keeps of it.
use Rattle.std.specs.Prelude.{List, [], ◌∷◌, ◌++◌}
use Rattle.due_model.specs.declared.notice.Notice.{Notice}

-- several lists as one
abbrev pub join_lists : List (List Notice) → List Notice
join_lists [] = []
join_lists (ns ∷ rest) = ns ++ join_lists rest
