-- Of which blocks the contacts are asked for: of those that give objects or escalations, which have them.
use Rattle.std.specs.Prelude.{ℕ, Bool, ◌&&◌, ◌||◌, ◌==◌, not, List, [], length, map, slice_index_or}
use Rattle.std.specs.List.{range_with_len}
use Rattle.object_groups.specs.claims.Objects.{is_object_at}
use Rattle.object_listing.specs.Contacts.{AskedContacts}
use Rattle.object_reader.specs.declared.block.Block.{Block}
use Rattle.object_reader.specs.declared.block.BlockKind.TheVariants.{Host, Service}
use Rattle.object_services.specs.claims.Limits.{objects_below}

-- whether there are any
abbrev pub are_any : List ℕ → Bool
are_any numbers = not (length numbers == 0)

-- whether a block gives objects or escalations: it is a host, or a service block and these are its hosts, or these are
-- the objects of which it speaks
abbrev pub gives_any : (host service : Bool) → (hosts objects : List ℕ) → Bool
gives_any host service hosts objects = host || (service && are_any hosts) || are_any objects

-- The number of the service block at the place: so many stand before it.
abbrev pub service_number : List Block → (place : ℕ) → ℕ
service_number blocks place = length (objects_below blocks Service place)

-- The same of the block at the place, where these are the hosts of each service block, and the objects of which each
-- block speaks.
abbrev pub gives_any_at : List Block → (hosts spoken : List (List ℕ)) → (place : ℕ) → Bool
gives_any_at blocks hosts spoken place =
    gives_any (is_object_at blocks Host place) (is_object_at blocks Service place)
    (slice_index_or hosts (service_number blocks place) []) (slice_index_or spoken place [])

-- the flags of the blocks below the place
abbrev pub asked_below : List Block → (hosts spoken : List (List ℕ)) → (place : ℕ) → List Bool
asked_below blocks hosts spoken place =
    map (gives_any_at blocks hosts spoken) (range_with_len 0 place)

-- the contacts of the blocks, asked for of those that give any
abbrev pub asked_contacts : List Block → (hosts spoken : List (List ℕ)) → AskedContacts
asked_contacts blocks hosts spoken = record {
  blocks = blocks;
  asked = asked_below blocks hosts spoken (length blocks);
}
