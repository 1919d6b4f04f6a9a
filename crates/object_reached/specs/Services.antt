-- The services of each host, and how they are kept (chapter "Object Definitions").
use Rattle.std.specs.Prelude.{◌≡◌, ℕ, ◌<◌, ◌==◌, List, [], length, map, filter, All, slice_index_or}
use Rattle.std.specs.List.{range_with_len}
use Rattle.graph.specs.declared.edges.Edge.{Edge}
use Rattle.object_services.specs.claims.Numbers.{Pair}

-- ---- how they are kept

abbrev pub edge : (from to : ℕ) → Edge
edge from to = record { from = from; to = to }

-- the host of each service
abbrev pub hosts_in : List Pair → List ℕ
hosts_in services = map (λ service. service.0) services

-- an edge from each service's host to the service, of the first so many
abbrev pub host_edges : (hosts : List ℕ) → (count : ℕ) → List Edge
host_edges hosts count =
    map (λ service. edge (slice_index_or hosts service 0) service) (range_with_len 0 count)

-- the services of a host, by their places, in order
abbrev pub services_on : List Pair → (host : ℕ) → List ℕ
services_on services host = filter (λ service. slice_index_or (hosts_in services) service 0 == host)
    (range_with_len 0 (length services))

-- a graph in which each host leads to its services, and no other node to any
pub record IsByHost (services : List Pair) (graph : List (List ℕ)) : Type 0 where
  pub hosts : All (λ host. host < length graph) (hosts_in services)
  pub ends : (host : ℕ) → host < length graph
      → slice_index_or graph host [] ≡ services_on services host
