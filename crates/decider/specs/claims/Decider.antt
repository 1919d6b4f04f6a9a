-- What an event adds to the notices and the suppressions of the objects of a decider's share.
use Rattle.std.specs.Prelude.{ℕ, List, [], length, flat_map, slice_get}
use Rattle.std.specs.Option.{option_map_or}
use Rattle.due_model.specs.declared.config.Config.{Config}
use Rattle.due_model.specs.declared.event.Event.{Event}
use Rattle.due_model.specs.declared.notice.Notice.{Notice}
use Rattle.due_model.specs.declared.notice.Suppression.{Suppression}
use Rattle.due_model.specs.declared.zone.Zone.{Zone}
use Rattle.due_model.specs.claims.Due.{due_at, suppressed_at}
use Rattle.decider.specs.declared.share.Share.{Share}
use Rattle.decider.specs.claims.Share.{owned_numbers}

-- what an event adds to the notices of object o for lane l, whose settings are the configuration's
abbrev pub gain : Config → Zone → (l : ℕ) → Event → List Event → (o : ℕ) → List Notice
gain c zone l e past o =
    option_map_or (λ object. due_at c zone o object l e past) (slice_get c.objects o) []

-- what it adds to the suppressions of object o
abbrev pub suppressed_gain : Config → Zone → Event → List Event → (o : ℕ) → List Suppression
suppressed_gain c zone e past o =
    option_map_or (λ object. suppressed_at c zone o object e past) (slice_get c.objects o) []

-- what an event adds for lane l to the notices of the owned objects, in object order
abbrev pub gained : Config → Zone → Share → (l : ℕ) → Event → List Event → List Notice
gained c zone share l e past =
    flat_map (gain c zone l e past) (owned_numbers share (length c.objects))

-- what it adds to the suppressions of the owned objects, in object order
abbrev pub suppressed_gained : Config → Zone → Share → Event → List Event → List Suppression
suppressed_gained c zone share e past =
    flat_map (suppressed_gain c zone e past) (owned_numbers share (length c.objects))
