-- Laws of groups, of any groups.
use Rattle.std.specs.Prelude.{◌≡◌, ℕ, ◌⊎◌, ◌↔◌}
use Rattle.graph.specs.claims.Chains.{Reaches}
use Rattle.object_groups.specs.claims.Members.{Grouping, Holds, Includes, IsMember}

-- the groups hold the same objects, and list the same groups but that `from` now lists `to` too
pub record AddsInclusion (g more : Grouping) (from to : ℕ) : Type 0 where
  pub holds : (group object : ℕ) → Holds more group object ↔ Holds g group object
  pub includes : (group other : ℕ) →
      Includes more group other ↔ (Includes g group other ⊎ ((group ≡ from) × (other ≡ to)))

-- A group's members don't change when a loop is added to it: when one of the groups that a chain leads to
-- from it lists it in turn.
abbrev pub LoopAddsNothing : Type 0
LoopAddsNothing = (g more : Grouping) (group last : ℕ)
    → Reaches (Includes g) group last → AddsInclusion g more last group
    → (object : ℕ) → IsMember more group object ↔ IsMember g group object
