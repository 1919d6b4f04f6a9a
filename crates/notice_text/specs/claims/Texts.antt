-- What is said of a notice, as bytes.
use Rattle.std.specs.Prelude.{ℕ, ◌==◌, List, [], ◌++◌, codes, decimal, slice_get, Option, Some, None, if◌then◌else◌}
use Rattle.std.specs.Option.{option_map_or}
use Rattle.due_model.specs.declared.config.Config.{Config}
use Rattle.due_model.specs.declared.config.ObjectId.{ObjectId}

-- a number of a notice; a dash where there is none
abbrev pub number_text : ℕ → List ℕ
number_text n = if n == 0 then codes "-" else decimal n

-- an object's own name
abbrev pub own_name : Config → ℕ → List ℕ
own_name c o = option_map_or (λ object. object.name) (slice_get c.objects o) []

-- the name of its host, and a slash, before a service's
abbrev pub host_part : Config → Option ObjectId → List ℕ
host_part c None = []
host_part c (Some host) = own_name c host.0 ++ codes "/"

-- an object: `host`, or `host/service`
abbrev pub object_text : Config → ℕ → List ℕ
object_text c o =
    option_map_or (λ object. host_part c object.host ++ object.name) (slice_get c.objects o) []

abbrev pub contact_text : Config → ℕ → List ℕ
contact_text c k = option_map_or (λ contact. contact.name) (slice_get c.contacts k) []

abbrev pub lane_text : Config → ℕ → List ℕ
lane_text c l = option_map_or (λ lane. lane.name) (slice_get c.lanes l) []
