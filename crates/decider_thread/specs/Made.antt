-- What a decider's events make of the objects of its share, one event after another.
use Rattle.std.specs.Prelude.{ℕ, List, [], ◌∷◌, ◌++◌}
use Rattle.due_model.specs.declared.config.Config.{Config}
use Rattle.due_model.specs.declared.event.Event.{Event}
use Rattle.due_model.specs.declared.notice.Notice.{Notice}
use Rattle.due_model.specs.declared.notice.Suppression.{Suppression}
use Rattle.due_model.specs.declared.zone.Zone.{Zone}
use Rattle.decider.specs.declared.share.Share.{Share}
use Rattle.decider.specs.claims.Decider.{gained, suppressed_gained}

-- what these events, of which the newest is the first, have made due on lane l: by event, then object, then contact
abbrev pub made_due : Config → Zone → Share → (l : ℕ) → List Event → List Notice
made_due c zone share l [] = []
made_due c zone share l (e ∷ past) = made_due c zone share l past ++ gained c zone share l e past

-- what they have suppressed, in the same order
abbrev pub suppressed : Config → Zone → Share → List Event → List Suppression
suppressed c zone share [] = []
suppressed c zone share (e ∷ past) = suppressed c zone share past ++ suppressed_gained c zone share e past
