-- The entries of an event, for the objects of a share.
use Rattle.std.specs.Prelude.{List, length, flat_map}
use Rattle.due_model.specs.declared.config.Config.{Config}
use Rattle.due_model.specs.declared.event.Event.{Event}
use Rattle.due_model.specs.declared.zone.Zone.{Zone}
use Rattle.messages.specs.declared.entries.Entry.{Entry}
use Rattle.messages.specs.claims.Entries.{object_entries}
use Rattle.decider.specs.declared.share.Share.{Share}
use Rattle.decider.specs.claims.Share.{owned_numbers}

-- what an event adds for the objects of a share, in number order
abbrev pub share_entries : Config → Zone → Share → Event → List Event → List Entry
share_entries c zone share e past =
    flat_map (object_entries c zone e past) (owned_numbers share (length c.objects))
