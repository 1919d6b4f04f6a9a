-- Blocks that have the same lists of hosts, of host groups and of descriptions.
use Rattle.std.specs.Prelude.{◌≡◌, ℕ, ◌==◌, ◌&&◌, Bool, List, IfSome}
use Rattle.std.proofs.Common.{Bor, eqb}
use Rattle.std.specs.Map.{lookup}
use Rattle.object_groups.specs.Names.{name_eq}
use Rattle.object_groups.specs.claims.Objects.{list_at}
use Rattle.object_inheritance.specs.claims.Inherited.{own_entries}
use Rattle.object_reached.specs.declared.alike.Alike.{Alike}
use Rattle.object_reached.specs.declared.alike.Alikes.{Alikes}
use Rattle.object_reached.specs.claims.Listed.{ServiceDirectives}
use Rattle.object_reached.specs.Listed.{ServiceListingOf}
use Rattle.object_reader.specs.declared.block.Block.{Block}

-- The blocks at these places have the same lists of hosts, of host groups and of descriptions as the one at the place.
abbrev pub ListPlaces : Type 0
ListPlaces = (ℕ × ℕ) × ℕ

pub record HaveLists (blocks : List Block) (directives : ServiceDirectives) (place : ℕ)
    (others : ListPlaces) : Type 0 where
  pub hosts : list_at blocks directives.hosts others.0.0 ≡ list_at blocks directives.hosts place
  pub groups : list_at blocks directives.host_groups others.0.1
      ≡ list_at blocks directives.host_groups place
  pub descriptions : list_at blocks directives.descriptions others.1
      ≡ list_at blocks directives.descriptions place

abbrev pub places_eq : ListPlaces → ListPlaces → Bool
places_eq a b = (a.0.0 == b.0.0 && a.0.1 == b.0.1) && a.1 == b.1

-- ---- how they are found

-- For places of blocks the place of one whose list is the same; and for texts that of a block whose list has the text's
-- entries.
pub record AreAlike (blocks : List Block) (directive : List ℕ) (by_place : List (ℕ × ℕ))
    (by_text : List (Bor (List ℕ) × ℕ)) : Type 0 where
  pub places : (place : ℕ) → IfSome (lookup (eqb place) by_place)
      (λ other. list_at blocks directive other ≡ list_at blocks directive place)
  pub texts : (text : Bor (List ℕ)) → IfSome (lookup (name_eq text) by_text)
      (λ other. list_at blocks directive other ≡ own_entries text.now)

abbrev pub IsAlike : List Block → (directive : List ℕ) → Alike → Type 0
IsAlike blocks directive alike =
    AreAlike blocks directive alike.by_place.entries alike.by_text.entries

-- the same of the three lists
pub record AreListsAlike (listing : ServiceListingOf) (alikes : Alikes) : Type 0 where
  pub hosts : IsAlike listing.blocks listing.directives.hosts alikes.hosts
  pub groups : IsAlike listing.blocks listing.directives.host_groups alikes.host_groups
  pub descriptions : IsAlike listing.blocks listing.directives.descriptions alikes.descriptions
