-- Service groups with a pair that isn't found.
use Rattle.std.proofs.Common.{◌≡◌, ℕ, zero, suc, ◌+◌, ◌<◌, ◌≤◌, Bool, true, false, not, ◌&&◌, List, [], ◌∷◌, length, take, get_or, Option, Some, None, refl, sym, ap, subst, ⊎_elim, ◌∙◌, arith}
use Rattle.std.specs.Prelude.{All, AllPairs, Contains, codes, slice_get}
use Rattle.std.specs.List.{list_all, range_with_len}
use Rattle.std.specs.Option.{option_map_or}
use Rattle.std.proofs.lemmas.Bool.{cases_lt, false≢true}
use Rattle.std.proofs.lemmas.List.Elements.{All-cons, All-contains, All-nil, Contains-get_or}
use Rattle.std.proofs.lemmas.List.Folds.{list_all-append, list_all-map, list_all_at}
use Rattle.std.proofs.lemmas.List.Kept.{AllPairs-filter}
use Rattle.lemmas.proofs.Elements.{Contains-filter, Contains-from_filter, Contains-here, Contains-later, Contains-range}
use Rattle.lemmas.proofs.Lists.{range_increases}
use Rattle.object_groups.specs.claims.Names.{number_of}
use Rattle.object_groups.specs.claims.Objects.{is_object, is_object_at, list_at, names_in, objects_in}
use Rattle.object_groups.specs.Objects.{ObjectsOf}
use Rattle.object_inheritance.specs.Columns.{Column}
use Rattle.object_groups.specs.claims.First.{IsFirst}
use Rattle.object_reader.specs.declared.block.Block.{Block}
use Rattle.object_reader.specs.declared.block.BlockKind.TheVariants.{Host, ServiceGroup}
use Rattle.object_services.specs.Numbers.{Key}
use Rattle.object_pairs.specs.claims.Members.{AreServicePairs, HasUnknownMember, IsServicePair}
use Rattle.object_pairs.specs.claims.Pairs.{by_two, NamedPair}
use Rattle.object_pairs.specs.Pairs.{pairs_in}
use Rattle.object_pairs.specs.Wanted.{AreAllWanted, AreFound, AreWanted, has, is_found, IsWanted, lacks_at, lacks_pair, LacksPair}
use Rattle.object_pairs.proofs.PairLemmas.{front-more, Text}

-- ---- pairs that are found are services

module _ (blocks : List Block) (wanted found : List Key) (are_found : AreFound blocks wanted found) where
  abbrev pub hosts : List (List ℕ)
  hosts = names_in blocks Host

  found-service : (pair : NamedPair) → is_found hosts found pair ≡ true → IsServicePair blocks pair
  found-service pair is = by_host (number_of hosts pair.0) refl is
    where
      by_host : (given : Option ℕ) → number_of hosts pair.0 ≡ given → option_map_or (λ host. has found (host, pair.1)) given false ≡ true → IsServicePair blocks pair
      by_host None at none = absurd (false≢true none)
      by_host (Some host) at there = (host, at, ((are_found (host, pair.1)).0 there).1)

  service-found : (pair : NamedPair) → IsWanted hosts wanted pair → IsServicePair blocks pair → is_found hosts found pair ≡ true
  service-found pair is_wanted service =
      ap (λ (given : Option ℕ). option_map_or (λ host. has found (host, pair.1)) given false) service.1
      ∙ (are_found (service.0, pair.1)).1 (is_wanted service.0 service.1, service.2)

  all-services : (pairs : List NamedPair) → list_all (is_found hosts found) pairs ≡ true → All (IsServicePair blocks) pairs
  all-services [] all = All-nil (IsServicePair blocks)
  all-services (pair ∷ pairs) all = by_head (λ rest. all-services pairs rest) (is_found hosts found pair) refl all
    where
      by_head : (list_all (is_found hosts found) pairs ≡ true → All (IsServicePair blocks) pairs)
          → (b : Bool) → is_found hosts found pair ≡ b → (b && list_all (is_found hosts found) pairs) ≡ true → All (IsServicePair blocks) (pair ∷ pairs)
      by_head others true is rest = All-cons (IsServicePair blocks) pair pairs (found-service pair is) (others rest)
      by_head others false is rest = absurd (false≢true rest)

  all-found : (pairs : List NamedPair) → ((pair : NamedPair) → Contains pairs pair → is_found hosts found pair ≡ true) → list_all (is_found hosts found) pairs ≡ true
  all-found [] each = refl
  all-found (pair ∷ pairs) each =
      ap (λ (b : Bool). b && list_all (is_found hosts found) pairs) (each pair (Contains-here pair pairs))
      ∙ all-found pairs (λ other at. each other (Contains-later pair other pairs at))

  -- no pair is missing where all are services
  pub services-lack : (entries : List (List ℕ)) → AreWanted hosts wanted entries → AreServicePairs blocks entries → lacks_pair hosts found entries ≡ false
  services-lack entries are_wanted services =
      ap (λ (given : Option (List NamedPair)). option_map_or (λ pairs. not (list_all (is_found hosts found) pairs)) given true) services.1
      ∙ ap not (all-found services.0 (λ pair at. service-found pair
      (All-contains (IsWanted hosts wanted) services.0 pair (are_wanted services.0 services.1) at)
      (All-contains (IsServicePair blocks) services.0 pair services.2 at)))

  pub lack-services : (entries : List (List ℕ)) → lacks_pair hosts found entries ≡ false → AreServicePairs blocks entries
  lack-services entries lacks = by_pairs (by_two entries) refl lacks
    where
      true_from : (b : Bool) → not b ≡ false → b ≡ true
      true_from true is = refl
      true_from false is = absurd (false≢true (sym is))

      by_pairs : (given : Option (List NamedPair)) → by_two entries ≡ given → option_map_or (λ pairs. not (list_all (is_found hosts found) pairs)) given true ≡ false → AreServicePairs blocks entries
      by_pairs None at odd = absurd (false≢true (sym odd))
      by_pairs (Some pairs) at all = (pairs, at, all-services pairs (true_from (list_all (is_found hosts found) pairs) all))

-- ---- the service groups

past-none : (xs : List Block) (place : ℕ) → option_map_or (is_object ServiceGroup) (slice_get xs place) false ≡ true → place < length xs
past-none [] place is = absurd (false≢true is)
past-none (x ∷ xs) zero is = omega arith
past-none (x ∷ xs) (suc place) is = let low = past-none xs place is in omega (arith, low)

module _ (blocks : List Block) where
  groups-rise : AllPairs (λ m n. m < n) (objects_in blocks ServiceGroup)
  unfolding objects_in
  groups-rise = AllPairs-filter (λ m n. m < n) (is_object_at blocks ServiceGroup) (range_with_len 0 (length blocks)) (range_increases 0 (length blocks))

  is-group : (place : ℕ) → Contains (objects_in blocks ServiceGroup) place → is_object_at blocks ServiceGroup place ≡ true
  unfolding objects_in
  is-group place at = (Contains-from_filter (is_object_at blocks ServiceGroup) (range_with_len 0 (length blocks)) place at).1

  pub group-is : (place : ℕ) → is_object_at blocks ServiceGroup place ≡ true → Contains (objects_in blocks ServiceGroup) place
  unfolding objects_in
  group-is place is = Contains-filter (is_object_at blocks ServiceGroup) (range_with_len 0 (length blocks)) place (Contains-range (length blocks) place (past-none blocks place is)) is

  -- none of the first groups lacks a pair
  pub record NoneLacks (lacks : ℕ → Bool) (number : ℕ) : Type 0 where
    pub none : (k : ℕ) → k < number → lacks (get_or (objects_in blocks ServiceGroup) k 0) ≡ false

  pub none-lacks : (lacks : ℕ → Bool) → NoneLacks lacks 0
  none-lacks lacks = record { none = λ k low. absurd (omega (arith, low)) }

  pub none-more : (lacks : ℕ → Bool) (places : List ℕ) (number : ℕ) → places ≡ objects_in blocks ServiceGroup → NoneLacks lacks number → lacks (get_or places number 0) ≡ false → NoneLacks lacks (number + 1)
  none-more lacks places number listed before here = record {
    none = λ k low. ⊎_elim
        (λ (early : k < number). before.none k early)
        (λ (late : number ≤ k).
        let same : k ≡ number = omega (arith, low, late) in
        ap (λ (j : ℕ). lacks (get_or (objects_in blocks ServiceGroup) j 0)) same ∙ ap (λ (ps : List ℕ). lacks (get_or ps number 0)) (sym listed) ∙ here)
        (cases_lt k number);
  }

  -- where a group stands among them
  number-at : (place : ℕ) → is_object_at blocks ServiceGroup place ≡ true → (n : ℕ) × (n < length (objects_in blocks ServiceGroup)) × (get_or (objects_in blocks ServiceGroup) n 0 ≡ place)
  number-at place is = let at = group-is place is in (at.0, at.1, read (objects_in blocks ServiceGroup) at.0 place at.1 at.2)
    where
      read : (xs : List ℕ) (j x : ℕ) → j < length xs → get_or xs j x ≡ x → get_or xs j 0 ≡ x
      read [] j x long is_x = absurd (omega (arith, long))
      read (y ∷ ys) zero x long is_x = is_x
      read (y ∷ ys) (suc j) x long is_x = read ys j x (omega (arith, long)) is_x

  number-lower : (m n : ℕ) → m < length (objects_in blocks ServiceGroup) → n < length (objects_in blocks ServiceGroup)
      → get_or (objects_in blocks ServiceGroup) m 0 < get_or (objects_in blocks ServiceGroup) n 0 → m < n
  number-lower m n low high less = ⊎_elim
      (λ (early : m < n). early)
      (λ (late : n ≤ m). absurd (⊎_elim
      (λ (past : n < m). let above = groups-rise n m 0 past low in omega (arith, above, less))
      (λ (same_or : m ≤ n). let same : m ≡ n = omega (arith, late, same_or) in let here = ap (λ (j : ℕ). get_or (objects_in blocks ServiceGroup) j 0) same in omega (arith, here, less))
      (cases_lt n m)))
      (cases_lt m n)

  module _ (hosts : List (List ℕ)) (found : List Key) (values : Column) where
    pub first-here : (places : List ℕ) (number : ℕ) → places ≡ objects_in blocks ServiceGroup → number < length places → NoneLacks (lacks_at hosts found values) number → lacks_at hosts found values (get_or places number 0) ≡ true
        → IsFirst (LacksPair blocks hosts found values) (Some (get_or places number 0))
    first-here places number listed within before here =
        let ps = objects_in blocks ServiceGroup in
        let under : number < length ps = subst (λ (xs : List ℕ). number < length xs) listed within in
        subst (λ (xs : List ℕ). IsFirst (LacksPair blocks hosts found values) (Some (get_or xs number 0))) (sym listed) (
          (is-group (get_or ps number 0) (Contains-get_or ps number 0 under), subst (λ (xs : List ℕ). lacks_at hosts found values (get_or xs number 0) ≡ true) listed here),
          (λ k early other.
              let one = number-at k other.0 in
              let less : get_or ps one.0 0 < get_or ps number 0 = let there = one.2 in omega (arith, early, there) in
              let low = number-lower one.0 number one.1 under less in
              false≢true (sym (before.none one.0 low) ∙ ap (lacks_at hosts found values) one.2 ∙ other.1)),
        )

    pub first-none : (places : List ℕ) (number : ℕ) → places ≡ objects_in blocks ServiceGroup → length places ≤ number → NoneLacks (lacks_at hosts found values) number
        → IsFirst (LacksPair blocks hosts found values) None
    first-none places number listed all before = λ k other.
        let one = number-at k other.0 in
        let under = one.1 in
        let long : length places ≡ length (objects_in blocks ServiceGroup) = ap (λ (xs : List ℕ). length xs) listed in
        false≢true (sym (before.none one.0 (omega (arith, under, long, all))) ∙ ap (lacks_at hosts found values) one.2 ∙ other.1)

-- ---- what is found is what is said

pub first-unknown : (blocks : List Block) (wanted found : List Key) (first : Option ℕ) → AreFound blocks wanted found
    → AreAllWanted (names_in blocks Host) wanted (record { blocks = blocks; directive = codes "members" }) (objects_in blocks ServiceGroup)
    → IsFirst (LacksPair blocks (names_in blocks Host) found (record { blocks = blocks; directive = codes "members" })) first → IsFirst (HasUnknownMember blocks) first
first-unknown blocks wanted found first are_found all_wanted is = by_first first is
  where
    to : (place : ℕ) → LacksPair blocks (names_in blocks Host) found (record { blocks = blocks; directive = codes "members" }) place → HasUnknownMember blocks place
    to place lacks = (
      lacks.0,
      (λ services.
          let are_wanted = All-contains (λ p. AreWanted (names_in blocks Host) wanted (list_at blocks (codes "members") p)) (objects_in blocks ServiceGroup) place all_wanted (group-is blocks place lacks.0) in
          false≢true (sym (services-lack blocks wanted found are_found (list_at blocks (codes "members") place) are_wanted services) ∙ lacks.1)),
    )

    from : (place : ℕ) → HasUnknownMember blocks place → LacksPair blocks (names_in blocks Host) found (record { blocks = blocks; directive = codes "members" }) place
    from place unknown = (unknown.0, by_lack (lacks_pair (names_in blocks Host) found (list_at blocks (codes "members") place)) refl)
      where
        by_lack : (b : Bool) → lacks_pair (names_in blocks Host) found (list_at blocks (codes "members") place) ≡ b → lacks_pair (names_in blocks Host) found (list_at blocks (codes "members") place) ≡ true
        by_lack true lacks = lacks
        by_lack false lacks = absurd (unknown.1 (lack-services blocks wanted found are_found (list_at blocks (codes "members") place) lacks))

    by_first : (given : Option ℕ) → IsFirst (LacksPair blocks (names_in blocks Host) found (record { blocks = blocks; directive = codes "members" })) given → IsFirst (HasUnknownMember blocks) given
    by_first None none = λ n unknown. none n (from n unknown)
    by_first (Some place) found_first = (to place found_first.0, (λ k early unknown. found_first.1 k early (from k unknown)))

-- ---- one pair more that is found, or that isn't

pub pair-found : (p : NamedPair → Bool) (pairs : List (Text × Text)) (i : ℕ) (d : Text × Text) → i < length pairs → list_all p (pairs_in (take i pairs)) ≡ true
    → p ((get_or pairs i d).0.now, (get_or pairs i d).1.now) ≡ true → list_all p (pairs_in (take (i + 1) pairs)) ≡ true
pair-found p pairs i d within before here =
    let pair : NamedPair = ((get_or pairs i d).0.now, (get_or pairs i d).1.now) in
    ap (list_all p) (front-more pairs i d within) ∙ list_all-append p (pairs_in (take i pairs)) (pair ∷ [])
    ∙ ap (λ (b : Bool). b && (p pair && true)) before ∙ ap (λ (b : Bool). b && true) here

pub one-missing : (p : NamedPair → Bool) (pairs : List (Text × Text)) (i : ℕ) (d : Text × Text) → i < length pairs
    → p ((get_or pairs i d).0.now, (get_or pairs i d).1.now) ≡ false → false ≡ list_all p (pairs_in pairs)
one-missing p pairs i d within here =
    let each : Text × Text → NamedPair = λ pair. (pair.0.now, pair.1.now) in
    sym (list_all-map p each pairs ∙ list_all_at (λ pair. p (each pair)) pairs i d within here)

-- ---- what is read of a list

pub lacks-odd : (hosts : List (List ℕ)) (found : List Key) (entries : List (List ℕ)) → None ≡ by_two entries → true ≡ lacks_pair hosts found entries
lacks-odd hosts found entries is = ap (λ (given : Option (List NamedPair)). option_map_or (λ pairs. not (list_all (is_found hosts found) pairs)) given true) is

pub lacks-pairs : (hosts : List (List ℕ)) (found : List Key) (entries : List (List ℕ)) (pairs : List NamedPair) (all : Bool) → Some pairs ≡ by_two entries
    → all ≡ list_all (is_found hosts found) pairs → not all ≡ lacks_pair hosts found entries
lacks-pairs hosts found entries pairs all is are =
    ap not are ∙ ap (λ (given : Option (List NamedPair)). option_map_or (λ ps. not (list_all (is_found hosts found) ps)) given true) is

-- ---- what is kept of the blocks

abbrev pub column_of : List Block → List ℕ → Column
column_of blocks directive = record { blocks = blocks; directive = directive }

pub of-blocks : (blocks services : List Block) (groups : ObjectsOf) (early late : List (List ℕ)) (values : Column) (places : List ℕ) (wanted found : List Key) (first : Option ℕ)
    → services ≡ blocks → groups ≡ record { blocks = blocks; kind = ServiceGroup } → early ≡ names_in blocks Host → late ≡ names_in blocks Host
    → values ≡ record { blocks = blocks; directive = codes "members" } → places ≡ objects_in blocks ServiceGroup
    → AreFound services wanted found → AreAllWanted early wanted values places → IsFirst (LacksPair groups.blocks late found values) first → IsFirst (HasUnknownMember blocks) first
of-blocks blocks services groups early late values places wanted found first services_are groups_are early_are late_are values_are places_are are_found all_wanted is =
    first-unknown blocks wanted found first
    (subst (λ (bs : List Block). AreFound bs wanted found) services_are are_found)
    (subst (λ (ps : List ℕ). AreAllWanted (names_in blocks Host) wanted (record { blocks = blocks; directive = codes "members" }) ps) places_are
    (subst (λ (v : Column). AreAllWanted (names_in blocks Host) wanted v places) values_are
    (subst (λ (hs : List (List ℕ)). AreAllWanted hs wanted values places) early_are all_wanted)))
    (subst (λ (v : Column). IsFirst (LacksPair blocks (names_in blocks Host) found v) first) values_are
    (subst (λ (hs : List (List ℕ)). IsFirst (LacksPair blocks hs found values) first) late_are
    (subst (λ (o : ObjectsOf). IsFirst (LacksPair o.blocks late found values) first) groups_are is)))
