-- Services that escalations and dependencies name by hosts and descriptions (chapters "Notification Escalations" and
-- "Host and Service Dependencies").
use Rattle.std.specs.Prelude.{◌≡◌, ℕ, List, [], if◌then◌else◌}
use Rattle.object_groups.specs.claims.Objects.{is_object_at, list_at}
use Rattle.object_reached.specs.declared.roles.Role.{Role}
use Rattle.object_reached.specs.Listed.{ServiceListingOf}
use Rattle.object_reached.specs.claims.Roles.{directives_of, service_kind}
use Rattle.object_reader.specs.declared.block.Block.{Block}
use Rattle.object_unknown_services.specs.claims.Named.{descriptions_in}

-- ---- how they are found

-- what all blocks list by the directives of the role
pub record IsNaming (blocks : List Block) (role : Role) (listing : ServiceListingOf) : Type 0 where
  pub listing_is : listing ≡ record { blocks = blocks; directives = directives_of role }

-- the descriptions that the block at the place names in that role; none where it isn't of the type
abbrev pub descriptions_at : List Block → Role → (place : ℕ) → List (List ℕ)
descriptions_at blocks role place = if is_object_at blocks (service_kind role) place
    then descriptions_in (list_at blocks (directives_of role).descriptions place) else []
