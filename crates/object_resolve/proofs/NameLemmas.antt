-- The first block with a fault of names.
use Rattle.std.proofs.Common.{◌≡◌, ℕ, nat_eq, ◌<◌, ◌≤◌, Bool, true, false, cond, List, length, Option, Some, None, refl, sym, ap, subst, ◌∙◌, ◌⊎◌, inl, inr, ⊎_elim, eqb-true, eq-eqb, arith}
use Rattle.std.specs.Prelude.{nat_le, slice_get}
use Rattle.std.specs.Option.{option_eq}
use Rattle.std.proofs.lemmas.Bool.{cases_lt, leb-true, true≢false}
use Rattle.std.proofs.lemmas.Option.{none-some, same_Some, slice_get-get_or}
use Rattle.lemmas.proofs.Lists.{at-within}
use Rattle.object_groups.specs.claims.Objects.{is_object, objects_in}
use Rattle.object_groups.specs.Objects.{ObjectsOf}
use Rattle.object_groups.specs.ObjectLaws.{names-long}
use Rattle.object_groups.specs.claims.First.{IsFirst}
use Rattle.object_groups.specs.First.{lower}
use Rattle.object_names.specs.claims.Named.{block_kind}
use Rattle.object_names.specs.claims.Unknown.{names_unknown}
use Rattle.object_groups.specs.FirstLaws.{first-either}
use Rattle.object_reached.specs.claims.Roles.{service_kind}
use Rattle.object_reader.specs.declared.block.Block.{Block}
use Rattle.object_reader.specs.declared.block.BlockKind.TheVariants.{Service, ServiceGroup}
use Rattle.object_resolve.specs.Fault.{IsAmong, IsOfPlace}
use Rattle.object_resolve.specs.claims.Names.{GivesDoubledService, IsDoubledAt, IsFirstMisnamed, IsMisnamed, IsNameFault, IsUnknownAt}
use Rattle.object_faults.specs.declared.load_fault.BlockFault.{BlockFault}
use Rattle.object_faults.specs.declared.load_fault.BlockFault.TheVariants.{Doubled, UnknownName}
use Rattle.object_faults.specs.declared.load_fault.LoadFault.{LoadFault}
use Rattle.object_resolve.proofs.PlaceLemmas.{lower-before, object-within}
use Rattle.object_services.specs.claims.Doubled as services

-- ---- doubled services, by their places

-- a number of service blocks is within
pub number-within : (blocks : List Block) (number : ℕ) → services.IsDoubled blocks number → number < length (objects_in blocks Service)
number-within blocks number doubled = let within = doubled.within in let long = names-long blocks Service in omega (arith, within, long)

pub no-service : (blocks own : List Block) (number : Option ℕ) → own ≡ blocks → number ≡ None → IsFirst (services.IsDoubled own) number
    → IsFirst (GivesDoubledService blocks) None
no-service blocks own number same is first = λ place gives.
    subst (λ (found : Option ℕ). IsFirst (services.IsDoubled blocks) found) is
    (subst (λ (bs : List Block). IsFirst (services.IsDoubled bs) number) same first) gives.0 gives.1

pub first-service : (blocks : List Block) (number : ℕ) → IsFirst (services.IsDoubled blocks) (Some number)
    → IsFirst (GivesDoubledService blocks) (Some (services.place_of blocks number))
first-service blocks number first = (
  (number, first.0, refl),
  (λ k early gives.
      let before : services.place_of blocks gives.0 < services.place_of blocks number = let is = gives.2 in omega (arith, early, is) in
      first.1 gives.0 (lower-before blocks Service number gives.0 (number-within blocks gives.0 gives.1) before) gives.1),
)

-- ---- both kinds of fault

pub either-first : (P Q : ℕ → Type 0) (first second : Option ℕ) → IsFirst P first → IsFirst Q second → IsFirst (λ n. P n ⊎ Q n) (lower first second)
either-first P Q first second fp fq =
    first-either P Q (λ n. P n ⊎ Q n) first second (lower first second) refl (λ n said. said) (λ n said. said) fp fq

-- a misnamed block stands within
doubled-within : (blocks : List Block) (place : ℕ) → IsDoubledAt blocks place → place < length blocks
doubled-within blocks place (inl named) = at-within (is_object (block_kind named.0)) blocks place named.1.object
doubled-within blocks place (inr gives) =
    let low = number-within blocks gives.0 gives.1 in
    object-within blocks Service gives.0 place (slice_get-get_or (objects_in blocks Service) gives.0 0 low ∙ ap (λ (n : ℕ). Some n) gives.2)

unknown-within : (blocks : List Block) (place : ℕ) → IsUnknownAt blocks place → place < length blocks
unknown-within blocks place (inl named) = at-within (names_unknown blocks place) blocks place named
unknown-within blocks place (inr (inl member)) = at-within (is_object ServiceGroup) blocks place member.0
unknown-within blocks place (inr (inr service)) = at-within (is_object (service_kind service.0)) blocks place service.3.0

pub misnamed-within : (blocks : List Block) (place : ℕ) → IsMisnamed blocks place → place < length blocks
misnamed-within blocks place (inl doubled) = doubled-within blocks place doubled
misnamed-within blocks place (inr unknown) = unknown-within blocks place unknown

-- ---- which of the two it is

-- where the first place is that of the first unknown name, its block names something unknown
pub fault-unknown : (blocks : List Block) (unknown : Option ℕ) (place : ℕ) → IsFirst (IsUnknownAt blocks) unknown → unknown ≡ Some place
    → IsNameFault blocks place UnknownName
fault-unknown blocks unknown place first is = (subst (λ (found : Option ℕ). IsFirst (IsUnknownAt blocks) found) is first).0

-- else it doesn't, and is doubled
pub fault-doubled : (blocks : List Block) (doubled unknown : Option ℕ) (place : ℕ) → IsFirst (IsDoubledAt blocks) doubled → IsFirst (IsUnknownAt blocks) unknown
    → lower doubled unknown ≡ Some place → (unknown ≡ Some place → ⊥) → IsNameFault blocks place Doubled
fault-doubled blocks None None place fd fu is other = absurd (none-some place is)
fault-doubled blocks None (Some u) place fd fu is other = absurd (other is)
fault-doubled blocks (Some d) None place fd fu is other =
    (subst (λ (n : ℕ). IsDoubledAt blocks n) (same_Some d place is) fd.0, (λ unknown. fu place unknown))
fault-doubled blocks (Some d) (Some u) place fd fu is other = by_order (nat_le d u) refl is
  where
    by_order : (c : Bool) → nat_le d u ≡ c → cond c (Some d) (Some u) ≡ Some place → IsNameFault blocks place Doubled
    by_order false gt found = absurd (other found)
    by_order true le found =
        let same : d ≡ place = same_Some d place found in
        let low : d ≤ u = leb-true d u le in (
          subst (λ (n : ℕ). IsDoubledAt blocks n) same fd.0,
          (λ unknown. ⊎_elim
              (λ (less : place < u). fu.1 place less unknown)
              (λ (past : u ≤ place). let is_place : u ≡ place = omega (arith, same, low, past) in absurd (other (ap (λ (n : ℕ). Some n) is_place)))
              (cases_lt place u)),
        )

-- the fault of the first misnamed block is the refusal
pub misnamed-refused : (blocks : List Block) (place : ℕ) (fault : BlockFault) (found : LoadFault) → IsFirst (IsMisnamed blocks) (Some place)
    → IsNameFault blocks place fault → IsOfPlace blocks place fault found → IsAmong (IsFirstMisnamed blocks) found
misnamed-refused blocks place fault found first named of =
    subst (λ (f : LoadFault). IsAmong (IsFirstMisnamed blocks) f) (sym of.is)
    (record {
      first = record { place = place; block = of.block; here = of.here; at = refl; first = first };
      is = named;
    })

-- ---- as the code has them

-- the first place of either
pub first-misnamed : (blocks : List Block) (doubled unknown found : Option ℕ) → found ≡ lower doubled unknown → IsFirst (IsDoubledAt blocks) doubled
    → IsFirst (IsUnknownAt blocks) unknown → IsFirst (IsMisnamed blocks) found
first-misnamed blocks doubled unknown found is fd fu =
    subst (λ (f : Option ℕ). IsFirst (IsMisnamed blocks) f) (sym is) (either-first (IsDoubledAt blocks) (IsUnknownAt blocks) doubled unknown fd fu)

pub said-there : (doubled : Option ℕ) (place : ℕ) → option_eq nat_eq doubled (Some place) ≡ true → doubled ≡ Some place
said-there None place is = absurd (true≢false (sym is))
said-there (Some d) place is = ap (λ (n : ℕ). Some n) (eqb-true d place is)

pub said-other : (doubled : Option ℕ) (place : ℕ) → option_eq nat_eq doubled (Some place) ≡ false → doubled ≡ Some place → ⊥
said-other doubled place is same =
    true≢false (sym (eq-eqb place place refl) ∙ sym (ap (λ (f : Option ℕ). option_eq nat_eq f (Some place)) same) ∙ is)

-- the first service of both, by the place of its number
pub first-of_service : (blocks own : List Block) (number : ℕ) (objects : ObjectsOf) (found : Option ℕ) → own ≡ blocks
    → objects ≡ record { blocks = own; kind = Service } → found ≡ slice_get (objects_in objects.blocks objects.kind) number
    → IsFirst (services.IsDoubled own) (Some number) → IsFirst (GivesDoubledService blocks) found
first-of_service blocks own number objects found same kept is first =
    let mine : IsFirst (services.IsDoubled blocks) (Some number) = subst (λ (bs : List Block). IsFirst (services.IsDoubled bs) (Some number)) same first in
    let here = slice_get-get_or (objects_in blocks Service) number 0 (number-within blocks number mine.0) in
    subst (λ (f : Option ℕ). IsFirst (GivesDoubledService blocks) f)
    (sym (is ∙ ap (λ (o : ObjectsOf). slice_get (objects_in o.blocks o.kind) number) kept ∙ ap (λ (bs : List Block). slice_get (objects_in bs Service) number) same ∙ here))
    (first-service blocks number mine)
