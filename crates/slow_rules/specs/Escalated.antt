-- What escalations of the configuration's list say, taken together.
use Rattle.std.specs.Prelude.{ℕ, Bool, true, false, List, [], ◌∷◌, fold, min, flat_map, Option, Some, None}
use Rattle.due_model.specs.declared.config.ContactId.{ContactId}
use Rattle.due_model.specs.declared.config.Escalation.{Escalation}

-- whether there is one
abbrev pub has_some : List Escalation → Bool
has_some [] = false
has_some (e ∷ es) = true

-- their contacts, as they stand there
abbrev pub named_by : List Escalation → List ContactId
named_by es = flat_map (λ e. e.contacts) es

-- their least interval, where there is one
abbrev pub least_of : List Escalation → Option ℕ
least_of [] = None
least_of (e ∷ es) = Some (fold (λ least x. min least x.interval) e.interval es)
