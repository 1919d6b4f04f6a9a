-- What a block names as services.
use Rattle.std.proofs.Common.{◌≡◌, ℕ, Bool, true, false, cond, List, [], length, refl, sym, ap, subst, ◌∙◌, ◌<◌}
use Rattle.std.specs.Prelude.{Contains}
use Rattle.lemmas.proofs.Elements.{Contains-none}
use Rattle.lemmas.proofs.Lists.{at-within}
use Rattle.object_groups.specs.claims.Names.{is_all}
use Rattle.object_groups.specs.claims.Objects.{is_object, is_object_at, list_at}
use Rattle.object_listing.specs.claims.Listing.{IsListed}
use Rattle.object_reached.specs.declared.roles.Role.{Role}
use Rattle.object_reached.specs.claims.Listed.{of_hosts}
use Rattle.object_reached.specs.claims.Roles.{directives_of, service_kind}
use Rattle.object_reader.specs.declared.block.Block.{Block}
use Rattle.object_unknown_services.specs.claims.Named.{descriptions_in, NamesService}
use Rattle.object_unknown_services.specs.Named.{descriptions_at}

-- ---- the entries of a list

pub all-none : (entries found : List (List ℕ)) → true ≡ is_all entries → found ≡ [] → found ≡ descriptions_in entries
all-none entries found is empty = empty ∙ ap (λ (b : Bool). cond b [] entries) is

pub not-all : (entries found : List (List ℕ)) → false ≡ is_all entries → found ≡ entries → found ≡ descriptions_in entries
not-all entries found is same = same ∙ ap (λ (b : Bool). cond b [] entries) is

-- ---- the descriptions of a block

pub described : (blocks : List Block) (role : Role) (place : ℕ) (found : List (List ℕ)) → is_object_at blocks (service_kind role) place ≡ true
    → found ≡ descriptions_in (list_at blocks (directives_of role).descriptions place) → found ≡ descriptions_at blocks role place
described blocks role place found is same = same ∙ ap (λ (b : Bool). cond b (descriptions_in (list_at blocks (directives_of role).descriptions place)) []) (sym is)

pub undescribed : (blocks : List Block) (role : Role) (place : ℕ) (found : List (List ℕ)) → is_object_at blocks (service_kind role) place ≡ false
    → found ≡ [] → found ≡ descriptions_at blocks role place
undescribed blocks role place found is empty = empty ∙ ap (λ (b : Bool). cond b (descriptions_in (list_at blocks (directives_of role).descriptions place)) []) (sym is)

-- ---- what is named

pub named-to : (blocks : List Block) (role : Role) (place host : ℕ) (description : List ℕ) → IsListed blocks (of_hosts (directives_of role)) place host
    → Contains (descriptions_at blocks role place) description → NamesService blocks role place host description
named-to blocks role place host description listed at = by_kind (is_object_at blocks (service_kind role) place) refl at
  where
    by_kind : (b : Bool) → is_object_at blocks (service_kind role) place ≡ b
        → Contains (cond b (descriptions_in (list_at blocks (directives_of role).descriptions place)) []) description → NamesService blocks role place host description
    by_kind true is there = (is, listed, there)
    by_kind false is there = absurd (Contains-none description there)

pub named-from : (blocks : List Block) (role : Role) (place host : ℕ) (description : List ℕ) → NamesService blocks role place host description
    → Contains (descriptions_at blocks role place) description
named-from blocks role place host description named =
    subst (λ (b : Bool). Contains (cond b (descriptions_in (list_at blocks (directives_of role).descriptions place)) []) description) (sym named.0) named.2

-- a block that names a description is there
pub named-low : (blocks : List Block) (role : Role) (place : ℕ) (description : List ℕ) → Contains (descriptions_at blocks role place) description → place < length blocks
named-low blocks role place description at = by_kind (is_object_at blocks (service_kind role) place) refl at
  where
    by_kind : (b : Bool) → is_object_at blocks (service_kind role) place ≡ b
        → Contains (cond b (descriptions_in (list_at blocks (directives_of role).descriptions place)) []) description → place < length blocks
    by_kind true is there = at-within (is_object (service_kind role)) blocks place is
    by_kind false is there = absurd (Contains-none description there)

pub named-object : (blocks : List Block) (role : Role) (place : ℕ) (description : List ℕ) → Contains (descriptions_at blocks role place) description
    → is_object_at blocks (service_kind role) place ≡ true
named-object blocks role place description at = by_kind (is_object_at blocks (service_kind role) place) refl at
  where
    by_kind : (b : Bool) → is_object_at blocks (service_kind role) place ≡ b
        → Contains (cond b (descriptions_in (list_at blocks (directives_of role).descriptions place)) []) description → is_object_at blocks (service_kind role) place ≡ true
    by_kind true is there = is
    by_kind false is there = absurd (Contains-none description there)
