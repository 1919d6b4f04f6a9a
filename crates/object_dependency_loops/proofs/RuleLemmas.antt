-- The rules of notification dependencies.
use Rattle.std.proofs.Common.{◌≡◌, ℕ, zero, suc, ◌+◌, ◌<◌, ◌≤◌, true, List, [], ◌∷◌, length, get_or, Some, sym, ap, subst, ◌∙◌, ◌⊎◌, inl, inr, arith}
use Rattle.std.specs.Prelude.{All, Contains, slice_get, ◌↔◌}
use Rattle.std.specs.List.{range_with_len}
use Rattle.std.proofs.lemmas.List.Elements.{All-from_get_or, Contains-get_or}
use Rattle.std.proofs.lemmas.List.FromFn.{get_or-range_with_len, length-range_with_len}
use Rattle.std.proofs.lemmas.Option.{get_or_from_slice_get, slice_get-get_or}
use Rattle.graph.specs.declared.edges.Edge.{Edge}
use Rattle.graph.specs.claims.Chains.{Reaches}
use Rattle.graph.specs.Edges.{IsWithin}
use Rattle.graph_rules.specs.declared.rules.Rules.{Rules}
use Rattle.graph_rules.specs.Rules.{edge, HasDependent, HasMaster, IsOfRule}
use Rattle.lemmas.proofs.Elements.{Contains-from_range, Contains-none}
use Rattle.object_dependencies.specs.claims.Pairs.{IsKept}
use Rattle.object_dependencies.specs.Pairs.{BlocksOf}
use Rattle.object_groups.specs.ListEdges.{IsEdge}
use Rattle.object_groups.specs.claims.Objects.{is_object_at}
use Rattle.object_reached.specs.declared.roles.Role.{Role}
use Rattle.object_reached.specs.declared.roles.Role.TheVariants.{Dependent, Master}
use Rattle.object_reached.specs.Laws.{SpokenAreObjects}
use Rattle.object_reached.specs.claims.Reached.{SpeaksOf}
use Rattle.object_reached.specs.claims.Roles.{host_kind, service_kind}
use Rattle.object_dependency_loops.specs.Base.{host_count, service_count}
use Rattle.object_dependency_loops.specs.Places.{AreRulesOf, kept_in, SpeakAs}
use Rattle.object_dependency_loops.proofs.RoleLemmas.{place-kept}

-- an object's node is its number
own-is : (count object own : ℕ) → slice_get (range_with_len 0 count) object ≡ Some own → (own ≡ object) × (object < count)
own-is count object own is =
    let low = low_at (range_with_len 0 count) object own is in
    let long = length-range_with_len 0 count in
    let few : object < count = omega (arith, low, long) in
    (sym (get_or_from_slice_get (range_with_len 0 count) object own 0 is) ∙ get_or-range_with_len 0 count object 0 few ∙ plus_none object, few)
  where
    low_at : (xs : List ℕ) (i x : ℕ) → slice_get xs i ≡ Some x → i < length xs
    low_at [] i x none = cc
    low_at (y ∷ xs) zero x here = omega arith
    low_at (y ∷ xs) (suc i) x here = let low = low_at xs i x here in omega (arith, low)

    plus_none : (n : ℕ) → 0 + n ≡ n
    plus_none n = omega arith

is-own : (count object : ℕ) → object < count → slice_get (range_with_len 0 count) object ≡ Some object
is-own count object few =
    let long = length-range_with_len 0 count in
    slice_get-get_or (range_with_len 0 count) object 0 (omega (arith, long, few)) ∙ ap (λ (n : ℕ). Some n) (get_or-range_with_len 0 count object 0 few ∙ plus_none object)
  where
    plus_none : (n : ℕ) → 0 + n ≡ n
    plus_none n = omega arith

-- what the links of a role say of rules
module _ (b : BlocksOf) (spoken : SpokenAreObjects) (objects : List ℕ) (links edges : List Edge) (role : Role) (own_are : objects ≡ range_with_len 0 (host_count b + service_count b))
    (speak : SpeakAs b role (host_count b + service_count b) links edges) where
  abbrev Has : (place object : ℕ) → Type 0
  Has place object = (node : ℕ) × Contains links (edge place node) × ((own : ℕ) × (slice_get objects object ≡ Some own) × Reaches (λ from to. Contains edges (edge from to)) node own)

  pub links-say : (place object : ℕ) → Has place object ↔ (IsKept b.blocks place × SpeaksOf b.blocks b.lists role place object)
  links-say place object = (
    (λ (has : Has place object).
        let at = own-is (host_count b + service_count b) object has.2.0 (subst (λ (os : List ℕ). slice_get os object ≡ Some has.2.0) own_are has.2.1) in
        (speak place object at.1).0 (has.0, has.1, subst (λ (n : ℕ). Reaches (IsEdge edges) has.0 n) at.0 has.2.2)),
    (λ (both : IsKept b.blocks place × SpeaksOf b.blocks b.lists role place object).
        let low = spoken b.blocks b.lists role place object both.1 in
        let speaks = (speak place object low).1 both in
        (speaks.0, speaks.1, (object, subst (λ (os : List ℕ). slice_get os object ≡ Some object) (sym own_are) (is-own (host_count b + service_count b) object low), speaks.2))),
  )

pub all-below : (count nodes : ℕ) (objects : List ℕ) → objects ≡ range_with_len 0 count → count ≤ nodes → All (λ node. node < nodes) objects
all-below count nodes objects are few = subst (λ (os : List ℕ). All (λ node. node < nodes) os) (sym are)
    (All-from_get_or (λ node. node < nodes) (range_with_len 0 count) 0
    (λ i low. let here = Contains-from_range count (get_or (range_with_len 0 count) i 0) (Contains-get_or (range_with_len 0 count) i 0 low) in omega (arith, here, few)))

pub rules-are : (b : BlocksOf) (rules : Rules) (count next objects : ℕ) → SpokenAreObjects → rules.count ≡ length b.blocks → objects ≡ host_count b + service_count b → objects ≤ rules.nodes
    → rules.objects.items ≡ range_with_len 0 objects → All (IsWithin rules.nodes) rules.members.items
    → All (IsOfRule (length b.blocks) rules.nodes) rules.dependents.items → All (IsOfRule (length b.blocks) rules.nodes) rules.masters.items
    → SpeakAs b Dependent objects rules.dependents.items rules.members.items → SpeakAs b Master objects rules.masters.items rules.members.items
    → AreRulesOf b rules
rules-are b rules count next objects spoken count_is objects_is few own_are members dependents masters one other = record {
  within = record {
    objects = all-below objects rules.nodes rules.objects.items own_are few;
    members = members;
    dependents = subst (λ (n : ℕ). All (IsOfRule n rules.nodes) rules.dependents.items) (sym count_is) dependents;
    masters = subst (λ (n : ℕ). All (IsOfRule n rules.nodes) rules.masters.items) (sym count_is) masters;
  };
  dependents = links-say b spoken rules.objects.items rules.dependents.items rules.members.items Dependent owns (subst (λ (n : ℕ). SpeakAs b Dependent n rules.dependents.items rules.members.items) objects_is one);
  masters = links-say b spoken rules.objects.items rules.masters.items rules.members.items Master owns (subst (λ (n : ℕ). SpeakAs b Master n rules.masters.items rules.members.items) objects_is other);
}
  where
    owns : rules.objects.items ≡ range_with_len 0 (host_count b + service_count b)
    owns = own_are ∙ ap (λ (n : ℕ). range_with_len 0 n) objects_is

abbrev Kind : BlocksOf → ℕ → Type 0
Kind b place = (is_object_at b.blocks (host_kind Dependent) place ≡ true) ⊎ (is_object_at b.blocks (service_kind Dependent) place ≡ true)

-- where there is no notification dependency
pub no-rules : (b : BlocksOf) (rules : Rules) (hosts services : List ℕ) → hosts ≡ kept_in b.blocks (host_kind Dependent) (length b.blocks) → services ≡ kept_in b.blocks (service_kind Dependent) (length b.blocks)
    → length hosts ≡ 0 → length services ≡ 0
    → rules.dependents.items ≡ [] → rules.masters.items ≡ [] → rules.members.items ≡ [] → rules.objects.items ≡ [] → AreRulesOf b rules
no-rules b rules hosts services hosts_are services_are no_hosts no_services dependents masters members objects = record {
  within = record {
    objects = none_all (λ node. node < rules.nodes) rules.objects.items objects;
    members = none_all (IsWithin rules.nodes) rules.members.items members;
    dependents = none_all (IsOfRule rules.count rules.nodes) rules.dependents.items dependents;
    masters = none_all (IsOfRule rules.count rules.nodes) rules.masters.items masters;
  };
  dependents = λ place object. (
    (λ (has : HasDependent rules place object). absurd (Contains-none (edge place has.0) (subst (λ (es : List Edge). Contains es (edge place has.0)) dependents has.1))),
    (λ (both : IsKept b.blocks place × SpeaksOf b.blocks b.lists Dependent place object). absurd (none_kept place both.0 (kind_of_dependent place object both.1))),
  );
  masters = λ place object. (
    (λ (has : HasMaster rules place object). absurd (Contains-none (edge place has.0) (subst (λ (es : List Edge). Contains es (edge place has.0)) masters has.1))),
    (λ (both : IsKept b.blocks place × SpeaksOf b.blocks b.lists Master place object). absurd (none_kept place both.0 (kind_of_master place object both.1))),
  );
}
  where
    none_all : {X : Type 0} (P : X → Type 0) (xs : List X) → xs ≡ [] → All P xs
    none_all P xs none = subst (λ ys. All P ys) (sym none) (λ k d at. absurd (omega (arith, at)))

    kind_of_dependent : (place object : ℕ) → SpeaksOf b.blocks b.lists Dependent place object → Kind b place
    kind_of_dependent place object (inl of) = inl of.0
    kind_of_dependent place object (inr of) = inr of.0

    kind_of_master : (place object : ℕ) → SpeaksOf b.blocks b.lists Master place object → Kind b place
    kind_of_master place object (inl of) = inl of.0
    kind_of_master place object (inr of) = inr of.0

    none_kept : (place : ℕ) → IsKept b.blocks place → Kind b place → ⊥
    none_kept place kept (inl is) =
        let at = subst (λ (ps : List ℕ). Contains ps place) (sym hosts_are) ((place-kept b.blocks (host_kind Dependent) place).1 (kept, is)) in
        let low = at.1 in omega (arith, low, no_hosts)
    none_kept place kept (inr is) =
        let at = subst (λ (ps : List ℕ). Contains ps place) (sym services_are) ((place-kept b.blocks (service_kind Dependent) place).1 (kept, is)) in
        let low = at.1 in omega (arith, low, no_services)
