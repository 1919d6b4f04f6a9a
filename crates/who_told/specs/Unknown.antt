-- What isn't known of what is supposed.
use Rattle.std.specs.Prelude.{ℕ, Bool, not, List, find, is_some, option_map, Option, None, Some, if◌then◌else◌}
use Rattle.std.specs.Option.{option_copied, option_map_or, option_or}
use Rattle.due_model.specs.declared.config.Config.{Config}
use Rattle.due_model.specs.claims.Objects.{object_id, object_named}
use Rattle.event_feed.specs.claims.Line.{host_state_said, service_state_said}
use Rattle.made_feed.specs.declared.Supposed.{Supposed}
use Rattle.who_told.specs.declared.names.Unknown.{Unknown}
use Rattle.who_told.specs.declared.names.Unknown.TheVariants.{Host, Service, HostState, ServiceState}

-- an object of this name is known: a host or, where a service is given, that service of it
abbrev pub is_known : Config → (host : List ℕ) → Option (List ℕ) → Bool
is_known c host service = is_some (object_named c.objects host service)

-- a feed takes the word as a state of a host
abbrev pub is_host_state : List ℕ → Bool
is_host_state word = is_some (host_state_said (object_id 0) word)

-- it takes the word as a state of a service
abbrev pub is_service_state : List ℕ → Bool
is_service_state word = is_some (service_state_said (object_id 0) word)

-- the first host of those that are down that isn't known
abbrev pub unknown_down : Config → Supposed → Option Unknown
unknown_down c s = option_map Host (find (λ host. not (is_known c host.now None)) s.down.now)

-- the service that isn't known, of a host that is
abbrev pub unknown_service : Config → Supposed → Option Unknown
unknown_service c s =
    if is_known c s.host.now (option_copied s.service) then None
    else option_map (Service s.host) s.service

-- which of the names of the object isn't known
abbrev pub unknown_object : Config → Supposed → Option Unknown
unknown_object c s =
    if is_known c s.host.now None then unknown_service c s else Some (Host s.host)

-- the state, where it is none of such an object
abbrev pub unknown_state : Supposed → Option Unknown
unknown_state s =
    if is_some s.service
    then (if is_service_state s.state.now then None else Some (ServiceState s.state))
    else (if is_host_state s.state.now then None else Some (HostState s.state))

-- the first of all that: a host that is down, the object, its state
abbrev pub unknown_in : Config → Supposed → Option Unknown
unknown_in c s = option_or (unknown_down c s) (option_or (unknown_object c s) (unknown_state s))
