-- Service groups and their members (chapter "Object Definitions").
use Rattle.std.specs.Prelude.{◌≡◌, ℕ, List, [], Some, slice_get, slice_index_or, Contains, ◌⊎◌}
use Rattle.graph.specs.claims.Chains.{Reaches}

-- Service groups, service blocks and services, each numbered from 0: for each group the services that its list of
-- members names, and the groups that it lists; for each block the groups that it names; and for each service the
-- block that gives it.
pub record Grouping : Type 0 where
  pub named : List (List ℕ)
  pub subgroups : List (List ℕ)
  pub own_groups : List (List ℕ)
  pub owners : List ℕ

-- a group lists another group
abbrev pub Includes : Grouping → (group other : ℕ) → Type 0
Includes g group other = Contains (slice_index_or g.subgroups group []) other

-- a group lists a service, or the service's block names the group
abbrev pub Holds : Grouping → (group service : ℕ) → Type 0
Holds g group service = Contains (slice_index_or g.named group []) service
    ⊎ ((block : ℕ) × (slice_get g.owners service ≡ Some block)
    × Contains (slice_index_or g.own_groups block []) group)

-- A service is a member of a group where a chain of groups, each listed by the one before, leads from the group to
-- one that lists the service or that its block names.
abbrev pub IsMember : Grouping → (group service : ℕ) → Type 0
IsMember g group service =
    (last : ℕ) × Reaches (Includes g) group last × Holds g last service
