-- Blocks that have the same lists list the same hosts.
use Rattle.std.proofs.Common.{ℕ, List, sym, subst, ◌∙◌, inl, inr}
use Rattle.object_groups.specs.declared.groups.GroupKind.TheVariants.{HostGroups}
use Rattle.object_groups.specs.claims.Groups.{group_kind, object_kind}
use Rattle.object_groups.specs.claims.Names.{Lists}
use Rattle.object_groups.specs.claims.Objects.{names_in}
use Rattle.object_listing.specs.claims.Listing.{IsListed}
use Rattle.object_reached.specs.Alike.{HaveLists, ListPlaces}
use Rattle.object_reached.specs.claims.Listed.{of_hosts, ServiceDirectives}
use Rattle.object_reader.specs.declared.block.Block.{Block}

pub listed-alike : (blocks : List Block) (directives : ServiceDirectives) (one other : ℕ) (others : ListPlaces) → HaveLists blocks directives one others → HaveLists blocks directives other others
    → (host : ℕ) → IsListed blocks (of_hosts directives) one host → IsListed blocks (of_hosts directives) other host
listed-alike blocks directives one other others of_one of_other host (inl has) =
    inl (subst (λ (entries : List (List ℕ)). Lists (names_in blocks (object_kind HostGroups)) entries host) (sym of_one.hosts ∙ of_other.hosts) has)
listed-alike blocks directives one other others of_one of_other host (inr some) =
    inr (some.0, subst (λ (entries : List (List ℕ)). Lists (names_in blocks (group_kind HostGroups)) entries some.0) (sym of_one.groups ∙ of_other.groups) some.1, some.2)
