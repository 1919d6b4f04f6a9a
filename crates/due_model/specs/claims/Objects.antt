-- Objects by name (chapter "Object Definitions"): a host has a name, and a service has a description
-- and the name of its host.
use Rattle.std.specs.Prelude.{ℕ, ◌-◌, Bool, false, ◌&&◌, List, Option, None, Some, slice_get}
use Rattle.std.specs.Option.{option_map, option_map_or}
use Rattle.std.specs.List.{position}
use Rattle.std.specs.Str.{bytes_eq}
use Rattle.due_model.specs.declared.config.Object.{Object}
use Rattle.due_model.specs.declared.config.ObjectId.{ObjectId}

-- the object's number, its place in the list
abbrev pub object_id : ℕ → ObjectId
object_id place = record { 0 = place }

-- the object of this number has this name; a number outside the list has none
abbrev pub has_name_at : List Object → List ℕ → ObjectId → Bool
has_name_at objects name id =
    option_map_or (λ object. bytes_eq object.name name) (slice_get objects id.0) false

-- a host by its name; a service by its host's name and its description, given the host of the object
-- and the object's own name
abbrev pub is_called : List Object → List ℕ → Option (List ℕ) → Option ObjectId → List ℕ → Bool
is_called objects host None None name = bytes_eq name host
is_called objects host None (Some id) name = false
is_called objects host (Some service) None name = false
is_called objects host (Some service) (Some id) name =
    has_name_at objects host id && bytes_eq name service

-- the object is the host of this name or, where a service is given, that service of the host of this name
abbrev pub is_named : List Object → List ℕ → Option (List ℕ) → Object → Bool
is_named objects host service object = is_called objects host service object.host object.name

-- the first object in number order that has the name
abbrev pub object_named : List Object → List ℕ → Option (List ℕ) → Option ObjectId
object_named objects host service =
    option_map object_id (position (is_named objects host service) objects)
