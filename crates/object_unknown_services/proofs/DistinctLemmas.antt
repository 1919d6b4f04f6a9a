-- Blocks that name services, without those of which an earlier one has the same lists.
use Rattle.std.proofs.Common.{◌≡◌, ℕ, ◌+◌, ◌<◌, ◌≤◌, Bool, true, false, cond, ◌&&◌, List, [], ◌∷◌, ◌++◌, length, get_or, Option, Some, None, refl, sym, ap, subst, eqb, eqb-true, ⊎_elim, ◌∙◌, ◌⊎◌, inl, inr, arith}
use Rattle.std.specs.Prelude.{All, Contains, IfSome}
use Rattle.std.specs.Map.{lookup}
use Rattle.std.proofs.lemmas.Bool.{and_parts, cases_lt}
use Rattle.std.proofs.lemmas.List.Elements.{All-from_get_or, Contains-append_cases, Contains-append_left, Contains-append_right, Contains-get_or}
use Rattle.lemmas.proofs.Elements.{Contains-cases, Contains-here, Contains-none}
use Rattle.object_groups.specs.claims.Objects.{names_in}
use Rattle.object_reached.specs.declared.roles.Role.{Role}
use Rattle.object_reached.specs.Alike.{HaveLists, ListPlaces, places_eq}
use Rattle.object_reached.specs.claims.Roles.{directives_of}
use Rattle.object_reader.specs.declared.block.Block.{Block}
use Rattle.object_reader.specs.declared.block.BlockKind.TheVariants.{Service}
use Rattle.object_unknown_services.specs.Distinct.{AreDistinct, AreNamers, AreSame, entries_at, IsDistinct, IsNamer}
use Rattle.object_unknown_services.specs.Keys.{AreByKey, AreListsOf, HasKey, NamesFirst}
use Rattle.object_unknown_services.specs.claims.Named.{descriptions_in}
use Rattle.object_unknown_services.specs.Named.{descriptions_at}
use Rattle.object_unknown_services.proofs.NamedLemmas.{described, named-low, named-object}

-- ---- one block more

-- what is kept of a block, where something more was found
abbrev pub ByLists : List Block → Role → (found : List (ℕ × ℕ)) → (others : ListPlaces) → (first : ℕ) → Type 0
ByLists blocks role found others first = (list : ℕ) × Contains found (first, list) × HaveLists blocks (directives_of role) first others

abbrev pub ByDescriptions : List Block → Role → (found : List (ℕ × ℕ)) → (place list : ℕ) → Type 0
ByDescriptions blocks role found place list = Contains found (list, list) × (entries_at blocks role list ≡ entries_at blocks role place)

weaker : (P Q : ℕ → Type 0) (found : Option ℕ) → ((n : ℕ) → P n → Q n) → IfSome found P → IfSome found Q
weaker P Q None to is = is
weaker P Q (Some n) to is = to n is

pub found-at : (P : ℕ → Type 0) (found : Option ℕ) (n : ℕ) → IfSome found P → found ≡ Some n → P n
found-at P found n some is = subst (λ (f : Option ℕ). IfSome f P) is some

places-same : (one other : ListPlaces) → places_eq one other ≡ true → one ≡ other
places-same ((a, b), c) ((x, y), z) is =
    let both = and_parts (eqb a x && eqb b y) (eqb c z) is in
    let two = and_parts (eqb a x) (eqb b y) both.0 in
    ap (λ (k : ℕ). ((k, b), c)) (eqb-true a x two.0) ∙ ap (λ (k : ℕ). ((x, k), c)) (eqb-true b y two.1) ∙ ap (λ (k : ℕ). ((x, y), k)) (eqb-true c z both.1)

module _ (blocks : List Block) (role : Role) (bound : ℕ) (found : List (ℕ × ℕ)) (are : AreDistinct blocks role bound found) where
  grown : (place list : ℕ) → IsDistinct blocks role bound place list → IsDistinct blocks role (bound + 1) place list
  grown place list is =
      let low = is.low in
      let list_low = is.list_low in
      record { low = omega (arith, low); namer = is.namer; list_low = omega (arith, list_low); list_namer = is.list_namer; same = is.same }

  abbrev Met : List (ℕ × ℕ) → ℕ → Type 0
  Met pairs place = (first : ℕ) × (list : ℕ) × (first ≤ place) × Contains pairs (first, list) × AreSame blocks role first place

  by_bound : (pairs : List (ℕ × ℕ)) (place : ℕ) → place < bound + 1 → IsNamer blocks role place → (place < bound → Met pairs place) → (IsNamer blocks role bound → Met pairs bound) → Met pairs place
  by_bound pairs place low namer early last = ⊎_elim
      (λ (before : place < bound). early before)
      (λ (late : bound ≤ place).
      let same : bound ≡ place = omega (arith, late, low) in
      subst (Met pairs) same (last (subst (IsNamer blocks role) (sym same) namer)))
      (cases_lt place bound)

  -- a block that names no services
  pub distinct-past : (IsNamer blocks role bound → ⊥) → AreDistinct blocks role (bound + 1) found
  distinct-past none = record {
    each = λ place list at. grown place list (are.each place list at);
    lists = are.lists;
    all = λ place low namer. by_bound found place low namer (λ early. are.all place early namer) (λ is. absurd (none is));
  }

  -- a block with the same lists as an earlier one
  pub distinct-same : (others : ListPlaces) (first : ℕ) → ByLists blocks role found others first → HaveLists blocks (directives_of role) bound others → AreDistinct blocks role (bound + 1) found
  distinct-same others first (list, at, of_first) of = record {
    each = λ place other there. grown place other (are.each place other there);
    lists = are.lists;
    all = λ place low namer. by_bound found place low namer (λ early. are.all place early namer)
        (λ is. let before = (are.each first list at).low in (first, list, omega (arith, before), at, (others, of_first, of)));
  }

  module _ (list : ℕ) (others : ListPlaces) (of : HaveLists blocks (directives_of role) bound others) (is : IsDistinct blocks role (bound + 1) bound list)
      (at_list : Contains (found ++ (bound, list) ∷ []) (list, list)) where
    abbrev more : List (ℕ × ℕ)
    more = found ++ (bound, list) ∷ []

    here : Contains more (bound, list)
    here = Contains-append_right found ((bound, list) ∷ []) (bound, list) (Contains-here (bound, list) [])

    keeps : (pair : ℕ × ℕ) → Contains found pair → Contains more pair
    keeps pair at = Contains-append_left found ((bound, list) ∷ []) pair at

    cases : (pair : ℕ × ℕ) → Contains more pair → Contains found pair ⊎ ((bound, list) ≡ pair)
    cases pair at = ⊎_elim
        (λ (before : Contains found pair). inl before)
        (λ (last : Contains ((bound, list) ∷ []) pair). ⊎_elim (λ (same : (bound, list) ≡ pair). inr same) (λ (none : Contains [] pair). absurd (Contains-none pair none)) (Contains-cases (bound, list) pair [] last))
        (Contains-append_cases found ((bound, list) ∷ []) pair at)

    -- a block with other lists
    pub distinct-more : AreDistinct blocks role (bound + 1) more
    distinct-more = record {
      each = λ place other at. ⊎_elim
          (λ (before : Contains found (place, other)). grown place other (are.each place other before))
          (λ (same : (bound, list) ≡ (place, other)). subst (λ (pair : ℕ × ℕ). IsDistinct blocks role (bound + 1) pair.0 pair.1) same is)
          (cases (place, other) at);
      lists = λ place other at. ⊎_elim
          (λ (before : Contains found (place, other)). keeps (other, other) (are.lists place other before))
          (λ (same : (bound, list) ≡ (place, other)). subst (λ (l : ℕ). Contains more (l, l)) (ap (λ (pair : ℕ × ℕ). pair.1) same) at_list)
          (cases (place, other) at);
      all = λ place low namer. by_bound more place low namer
          (λ early. let first = are.all place early namer in (first.0, first.1, first.2, keeps (first.0, first.1) first.3, first.4))
          (λ namer. (bound, list, omega arith, here, (others, of, of)));
    }

    pub lists-more : (old new : List (ListPlaces × ℕ)) → ((other : ListPlaces) → IfSome (lookup (places_eq other) old) (ByLists blocks role found other))
        → ((other : ListPlaces) → lookup (places_eq other) new ≡ cond (places_eq others other) (Some bound) (lookup (places_eq other) old))
        → (other : ListPlaces) → IfSome (lookup (places_eq other) new) (ByLists blocks role more other)
    lists-more old new before updates other =
        subst (λ (first : Option ℕ). IfSome first (ByLists blocks role more other)) (sym (updates other)) (by_key (places_eq others other) refl)
      where
        by_key : (b : Bool) → places_eq others other ≡ b → IfSome (cond b (Some bound) (lookup (places_eq other) old)) (ByLists blocks role more other)
        by_key true same = (list, here, subst (HaveLists blocks (directives_of role) bound) (places-same others other same) of)
        by_key false differs = weaker (ByLists blocks role found other) (ByLists blocks role more other) (lookup (places_eq other) old)
            (λ first some. (some.0, keeps (first, some.0) some.1, some.2)) (before other)

    pub descriptions-stay : (entries : List (ℕ × ℕ)) → ((place : ℕ) → IfSome (lookup (eqb place) entries) (ByDescriptions blocks role found place))
        → (place : ℕ) → IfSome (lookup (eqb place) entries) (ByDescriptions blocks role more place)
    descriptions-stay entries before place =
        weaker (ByDescriptions blocks role found place) (ByDescriptions blocks role more place) (lookup (eqb place) entries) (λ first some. (keeps (first, first) some.0, some.1)) (before place)

    pub descriptions-more : (old new : List (ℕ × ℕ)) → list ≡ bound → ((place : ℕ) → IfSome (lookup (eqb place) old) (ByDescriptions blocks role found place))
        → ((place : ℕ) → lookup (eqb place) new ≡ cond (eqb others.1 place) (Some bound) (lookup (eqb place) old))
        → (place : ℕ) → IfSome (lookup (eqb place) new) (ByDescriptions blocks role more place)
    descriptions-more old new own before updates place =
        subst (λ (first : Option ℕ). IfSome first (ByDescriptions blocks role more place)) (sym (updates place)) (by_key (eqb others.1 place) refl)
      where
        by_key : (b : Bool) → eqb others.1 place ≡ b → IfSome (cond b (Some bound) (lookup (eqb place) old)) (ByDescriptions blocks role more place)
        by_key true same = (
          subst (λ (l : ℕ). Contains more (bound, l)) own here,
          sym of.descriptions ∙ ap (entries_at blocks role) (eqb-true others.1 place same),
        )
        by_key false differs = descriptions-stay old before place

-- the list of an earlier block
pub is-earlier : (blocks : List Block) (role : Role) (bound list : ℕ) (found : List (ℕ × ℕ)) (others : ListPlaces) → AreDistinct blocks role bound found → IsNamer blocks role bound
    → ByDescriptions blocks role found others.1 list → HaveLists blocks (directives_of role) bound others → IsDistinct blocks role (bound + 1) bound list
is-earlier blocks role bound list found others are namer (at, same) of =
    let is = are.each list list at in
    let low = is.low in
    record { low = omega arith; namer = namer; list_low = omega (arith, low); list_namer = is.namer; same = same ∙ of.descriptions }

-- its own
pub is-own : (blocks : List Block) (role : Role) (bound : ℕ) → IsNamer blocks role bound → IsDistinct blocks role (bound + 1) bound bound
is-own blocks role bound namer = record { low = omega arith; namer = namer; list_low = omega arith; list_namer = namer; same = refl }

pub found-none : (blocks : List Block) (role : Role) (found : List (ℕ × ℕ)) → found ≡ [] → AreDistinct blocks role 0 found
found-none blocks role found none = record {
  each = λ place list at. absurd (Contains-none (place, list) (subst (λ (ps : List (ℕ × ℕ)). Contains ps (place, list)) none at));
  lists = λ place list at. absurd (Contains-none (place, list) (subst (λ (ps : List (ℕ × ℕ)). Contains ps (place, list)) none at));
  all = λ place low namer. absurd (omega (arith, low));
}

pub lists-none : (blocks : List Block) (role : Role) (found : List (ℕ × ℕ)) (entries : List (ListPlaces × ℕ)) → entries ≡ []
    → (others : ListPlaces) → IfSome (lookup (places_eq others) entries) (ByLists blocks role found others)
lists-none blocks role found entries none others =
    subst (λ (kept : List (ListPlaces × ℕ)). IfSome (lookup (places_eq others) kept) (ByLists blocks role found others)) (sym none) tt

pub descriptions-none : (blocks : List Block) (role : Role) (found : List (ℕ × ℕ)) (entries : List (ℕ × ℕ)) → entries ≡ []
    → (place : ℕ) → IfSome (lookup (eqb place) entries) (ByDescriptions blocks role found place)
descriptions-none blocks role found entries none place =
    subst (λ (kept : List (ℕ × ℕ)). IfSome (lookup (eqb place) kept) (ByDescriptions blocks role found place)) (sym none) tt

-- ---- the blocks that name services

described-same : (blocks : List Block) (role : Role) (one other : ℕ) → IsNamer blocks role one → IsNamer blocks role other → entries_at blocks role one ≡ entries_at blocks role other
    → descriptions_at blocks role one ≡ descriptions_at blocks role other
described-same blocks role one other one_is other_is same =
    sym (described blocks role one (descriptions_in (entries_at blocks role one)) one_is refl)
    ∙ described blocks role other (descriptions_in (entries_at blocks role one)) other_is (ap descriptions_in same)

pub lists-low : (blocks : List Block) (role : Role) (bound : ℕ) (found : List (ℕ × ℕ)) → AreDistinct blocks role bound found → All (λ pair. pair.1 < bound) found
lists-low blocks role bound found are = All-from_get_or (λ (pair : ℕ × ℕ). pair.1 < bound) found (0, 0) (λ i low.
    let pair = get_or found i (0, 0) in
    (are.each pair.0 pair.1 (Contains-get_or found i (0, 0) low)).list_low)

pub firsts-low : (blocks : List Block) (role : Role) (found : List (ℕ × ℕ)) → AreDistinct blocks role (length blocks) found → (i : ℕ) → i < length found → (get_or found i (0, 0)).0 < length blocks
firsts-low blocks role found are i low =
    let pair = get_or found i (0, 0) in
    (are.each pair.0 pair.1 (Contains-get_or found i (0, 0) low)).low

pub namers-are : (blocks : List Block) (role : Role) (found : List (ℕ × ℕ)) (described_lists by_list : List (List ℕ)) → AreDistinct blocks role (length blocks) found
    → AreByKey (names_in blocks Service) (NamesFirst blocks role found) described_lists → AreListsOf (length blocks) (λ list place. Contains found (place, list)) by_list
    → AreNamers blocks role (record { described = described_lists; by_list = by_list })
namers-are blocks role found described_lists by_list are by_key of_list = record {
  keys = by_key.long;
  blocks_are = of_list.long;
  within = λ key list at. (are.each list list ((by_key.each key list).0 at).0).low;
  each = λ key list place at in_list.
      let is = are.each place list ((of_list.each list place).0 in_list) in
      subst (λ (ds : List (List ℕ)). HasKey (names_in blocks Service) ds key) (described-same blocks role list place is.list_namer is.namer is.same) ((by_key.each key list).0 at).1;
  all = λ key place names.
      let namer = named-object blocks role place names.0 names.1 in
      let low = named-low blocks role place names.0 names.1 in
      let some = are.all place low namer in
      let is = are.each some.0 some.1 some.3 in
      let same : descriptions_at blocks role place ≡ descriptions_at blocks role some.1 =
      described-same blocks role place some.1 namer is.list_namer (sym some.4.2.descriptions ∙ some.4.1.descriptions ∙ sym is.same) in (
        some.0,
        some.1,
        some.2,
        (by_key.each key some.1).1 (are.lists some.0 some.1 some.3, subst (λ (ds : List (List ℕ)). HasKey (names_in blocks Service) ds key) same names),
        (of_list.each some.1 some.0).1 some.3,
        some.4,
      );
}

pub numbers-within : (blocks : List Block) (role : Role) (described_lists by_list : List (List ℕ)) (key : ℕ) → AreNamers blocks role (record { described = described_lists; by_list = by_list })
    → All (λ number. number < length by_list) (get_or described_lists key [])
numbers-within blocks role described_lists by_list key are = All-from_get_or (λ (number : ℕ). number < length by_list) (get_or described_lists key []) 0 (λ i low.
    let within = are.within key (get_or (get_or described_lists key []) i 0) (Contains-get_or (get_or described_lists key []) i 0 low) in
    let long = are.blocks_are in
    omega (arith, within, long))
