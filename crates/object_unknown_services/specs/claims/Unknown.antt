-- Services that escalations and dependencies name and that no block gives (chapters "Notification Escalations" and
-- "Host and Service Dependencies").
use Rattle.std.specs.Prelude.{ℕ, List}
use Rattle.object_pairs.specs.claims.Members.{HasService}
use Rattle.object_reached.specs.declared.roles.Role.{Role}
use Rattle.object_reader.specs.declared.block.Block.{Block}
use Rattle.object_unknown_services.specs.claims.Named.{NamesService}

-- The block at the place names, in one of its roles, a host with a description, and the host has no service of that
-- description.
abbrev pub HasUnknownService : List Block → (place : ℕ) → Type 0
HasUnknownService blocks place = (role : Role) × (host : ℕ) × (description : List ℕ)
    × NamesService blocks role place host description × (HasService blocks host description → ⊥)
