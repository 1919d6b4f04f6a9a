-- What a block lists.
use Rattle.std.proofs.Common.{◌≡◌, ℕ, List, [], sym, subst, ◌⊎◌, inl, inr, ⊎_elim}
use Rattle.std.specs.Prelude.{Contains, true, ◌↔◌}
use Rattle.std.specs.List.Sorted.{IsStrictlyIncreasing}
use Rattle.lemmas.proofs.Elements.{Contains-none}
use Rattle.object_reached.specs.claims.Listed.{IsDescribed, is_named, IsServiceListed, of_hosts, ServiceDirectives}
use Rattle.object_reached.specs.Listed.{AddsMembers, AreServicesListed, IsOn, OfSome}
use Rattle.object_groups.specs.claims.Names.{numbers_of}
use Rattle.object_groups.specs.claims.Objects.{list_at, names_in}
use Rattle.object_listing.specs.claims.Listing.{AreThose, IsListed}
use Rattle.object_listing.specs.Listing.{Adds}
use Rattle.object_reader.specs.declared.block.Block.{Block}
use Rattle.object_reader.specs.declared.block.BlockKind.TheVariants.{ServiceGroup}
use Rattle.object_service_groups.specs.claims.Groups.{grouping}
use Rattle.object_service_groups.specs.claims.Members.{IsMember}
use Rattle.object_services.specs.claims.Numbers.{Pair}

-- what is on the hosts that a block lists, of descriptions that it lists
pub described-are : (blocks : List Block) (services : List Pair) (directives : ServiceDirectives) (place : ℕ) (listed : List ℕ) (entries : List (List ℕ)) (none found : List ℕ)
    → AreThose (IsListed blocks (of_hosts directives) place) listed → entries ≡ list_at blocks directives.descriptions place → none ≡ []
    → Adds (OfSome (IsOn services entries) listed) none found → Adds (IsDescribed blocks services directives place) [] found
described-are blocks services directives place listed entries none found hosts entries_are empty added k = (
  (λ at. ⊎_elim
      (λ (start : Contains none k). inl (subst (λ ns. Contains ns k) empty start))
      (λ (some : OfSome (IsOn services entries) listed k). inr (to some))
      ((added k).0 at)),
  (λ has. (added k).1 (⊎_elim
      (λ (start : Contains [] k). inl (subst (λ ns. Contains ns k) (sym empty) start))
      (λ (some : IsDescribed blocks services directives place k). inr (from some))
      has)),
)
  where
    to : OfSome (IsOn services entries) listed k → IsDescribed blocks services directives place k
    to (host, at, (description, there, named)) =
        (host, description, there, (hosts.exactly host).0 at, subst (λ (es : List (List ℕ)). is_named es description ≡ true) entries_are named)

    from : IsDescribed blocks services directives place k → OfSome (IsOn services entries) listed k
    from (host, description, there, has, named) =
        (host, (hosts.exactly host).1 has, (description, there, subst (λ (es : List (List ℕ)). is_named es description ≡ true) (sym entries_are) named))

pub those-are : (blocks : List Block) (services : List Pair) (directives : ServiceDirectives) (place : ℕ) (first grouped all found : List ℕ)
    → Adds (IsDescribed blocks services directives place) [] first
    → grouped ≡ numbers_of (names_in blocks ServiceGroup) (list_at blocks directives.groups place) → AddsMembers blocks (Contains grouped) first all
    → IsStrictlyIncreasing found → ((k : ℕ) → Contains found k ↔ Contains all k) → AreServicesListed blocks services directives place found
those-are blocks services directives place first grouped all found described grouped_are added rising same lists are services_are = record {
  rising = rising;
  exactly = λ k. ((λ at. to k ((added lists are k).0 ((same k).0 at))), (λ has. (same k).1 ((added lists are k).1 (from k has))));
}
  where
    to : (k : ℕ) → Contains first k ⊎ ((group : ℕ) × Contains grouped group × IsMember (grouping blocks lists) group k) → IsServiceListed blocks lists directives place k
    to k (inl at) = ⊎_elim
        (λ (start : Contains [] k). absurd (Contains-none k start))
        (λ (some : IsDescribed blocks services directives place k). inl (subst (λ (ss : List Pair). IsDescribed blocks ss directives place k) services_are some))
        ((described k).0 at)
    to k (inr some) = inr (some.0, subst (λ gs. Contains gs some.0) grouped_are some.1, some.2)

    from : (k : ℕ) → IsServiceListed blocks lists directives place k → Contains first k ⊎ ((group : ℕ) × Contains grouped group × IsMember (grouping blocks lists) group k)
    from k (inl has) = inl ((described k).1 (inr (subst (λ (ss : List Pair). IsDescribed blocks ss directives place k) (sym services_are) has)))
    from k (inr has) = inr (has.0, subst (λ gs. Contains gs has.0) (sym grouped_are) has.1, has.2)
