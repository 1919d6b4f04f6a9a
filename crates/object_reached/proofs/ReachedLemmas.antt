-- The objects of which a block speaks.
use Rattle.std.proofs.Common.{◌≡◌, ℕ, zero, suc, ◌+◌, ◌<◌, ◌^◌, true, false, List, [], ◌∷◌, ◌++◌, ◌-◌, length, map, take, take_all, drop, get_or, min, set, Some, refl, sym, ap, subst, eqb, eqb-true, ◌∙◌, inl, inr, arith}
use Rattle.std.specs.Prelude.{All, Contains, slice_get}
use Rattle.std.specs.List.{AllZip}
use Rattle.std.proofs.lemmas.Bool.{and_parts, false≢true}
use Rattle.std.proofs.lemmas.List.{append-nil, drop_all, drop_more, get_or_at, get_or-map, length-map, length-take}
use Rattle.std.proofs.lemmas.List.Edits.{map_over_more}
use Rattle.std.proofs.lemmas.List.Elements.{All-from_get_or, Contains-get_or}
use Rattle.lemmas.proofs.Elements.{Contains-from_map, Contains-map, Contains-none}
use Rattle.object_reached.specs.declared.roles.Role.{Role}
use Rattle.object_reached.specs.declared.roles.Role.TheVariants.{Dependent, Escalated, Master}
use Rattle.object_reached.specs.Laws.{SpokenAreObjects}
use Rattle.object_reached.specs.claims.Reached.{SpeaksOf}
use Rattle.object_reached.specs.Reached.{AreAfter, AreServicesOf, AreSpokenOf}
use Rattle.object_reached.specs.claims.Roles.{directives_of, host_kind, service_kind}
use Rattle.object_reached.specs.claims.Listed.{IsServiceListed, of_hosts, ServiceDirectives}
use Rattle.object_reached.specs.Listed.{AreServicesListed}
use Rattle.object_groups.specs.claims.Objects.{is_object, is_object_at, names_in}
use Rattle.object_groups.specs.ObjectLaws.{object-at}
use Rattle.object_inheritance.specs.claims.Templates.{kind_number}
use Rattle.object_listing.specs.Laws.{ListedAreObjects}
use Rattle.object_listing.specs.claims.Listing.{AreThose, host_directives, IsListed}
use Rattle.object_reader.specs.declared.block.Block.{Block}
use Rattle.object_reader.specs.declared.block.BlockKind.{BlockKind}
use Rattle.object_reader.specs.declared.block.BlockKind.TheVariants.{Host, Service}
use Rattle.object_service_groups.specs.Laws.{MembersAreServices}
use Rattle.object_services.specs.claims.Hosts.{AreHosts}
use Rattle.object_services.specs.claims.Numbers.{Pair, pairs_of}
use Rattle.object_reached.proofs.AddsLemmas.{place-there}

-- ---- services after the hosts

-- what a list is over which as many numbers were written
pub written-over : (old new : List ℕ) (count : ℕ) → count ≡ length old → length new ≡ length old → take count (new ++ drop (length new) old) ≡ new
written-over old new count count_is long =
    ap (λ (rest : List ℕ). take count (new ++ rest)) (drop_all (length new) old (omega (arith, long))) ∙ ap (take count) (append-nil new) ∙ take_all count new (omega (arith, count_is, long))

-- one more number, written over its place
pub after-more : (hosts : ℕ) (xs ys : List ℕ) (i one : ℕ) → i < length xs → hosts + get_or xs i 0 < 2 ^ 32 → ys ≡ map (λ s. hosts + s) (take i xs) ++ drop i xs
    → one ≡ min (hosts + get_or ys i 0) (2 ^ 64 - 1) → set ys i one ≡ map (λ s. hosts + s) (take (i + 1) xs) ++ drop (i + 1) xs
after-more hosts xs ys i one low few before is =
    let front = map (λ s. hosts + s) (take i xs) in
    let long : length front ≡ i = length-map (take i xs) (λ s. hosts + s) ∙ omega (arith, length-take i xs, low) in
    let parts = before ∙ ap (λ (l : List ℕ). front ++ l) (drop_more xs i 0 low) in
    let read : (d : ℕ) → get_or ys i d ≡ get_or xs i 0 = λ d. ap (λ (l : List ℕ). get_or l i d) parts ∙ get_or_at front _ _ d i long in
    let here = read 0 in
    let one_is : one ≡ hosts + get_or xs i 0 = omega (arith, is, here, few) in
    ap (λ (n : ℕ). set ys i n) one_is ∙ map_over_more (λ s. hosts + s) xs ys i (get_or xs i 0) low before (sym (read (get_or xs i 0)))

shift-those : (P : ℕ → Type 0) (n : ℕ) (xs : List ℕ) → AreThose P xs → AreThose (λ k. (s : ℕ) × (k ≡ n + s) × P s) (map (λ s. n + s) xs)
shift-those P n xs those = record {
  rising = λ k low. let long = length-map xs (λ s. n + s) in
      let here = get_or-map (λ s. n + s) xs k 0 0 (omega (arith, long, low)) in
      let next = get_or-map (λ s. n + s) xs (k + 1) 0 0 (omega (arith, long, low)) in
      let less = those.rising k (omega (arith, long, low)) in
      omega (arith, here, next, less);
  exactly = λ k. (
    (λ at. let on = Contains-from_map (λ s. n + s) xs k at in (on.0, sym on.2, (those.exactly on.0).0 on.1)),
    (λ some. subst (λ (m : ℕ). Contains (map (λ s. n + s) xs) m) (sym some.1) (Contains-map (λ s. n + s) xs some.0 ((those.exactly some.0).1 some.2))),
  );
}

listed-within : MembersAreServices → (blocks : List Block) (lists : List (List ℕ)) (directives : ServiceDirectives) (place service : ℕ) → IsServiceListed blocks lists directives place service
    → service < length (pairs_of (names_in blocks Service) lists)
listed-within members blocks lists directives place service (inl (host, description, there, listed, named)) = place-there (pairs_of (names_in blocks Service) lists) service (host, description) there
listed-within members blocks lists directives place service (inr (group, at, member)) = members blocks lists group service member

pub services-are : MembersAreServices → (blocks : List Block) (services : List Pair) (directives : ServiceDirectives) (place hosts : ℕ) (found given numbers : List ℕ)
    → AreServicesListed blocks services directives place found → given ≡ found → AreAfter hosts given numbers → hosts ≡ length (names_in blocks Host) → length (names_in blocks Host) + length services < 2 ^ 32
    → AreServicesOf blocks services directives place numbers
services-are members blocks services directives place hosts found given numbers listed same after hosts_are few lists are services_are =
    subst (λ (ns : List ℕ). AreThose (λ object. (service : ℕ) × (object ≡ length (names_in blocks Host) + service) × IsServiceListed blocks lists directives place service) ns)
    (sym (after all ∙ ap (λ (ns : List ℕ). map (λ s. hosts + s) ns) same ∙ ap (λ (n : ℕ). map (λ s. n + s) found) hosts_are))
    (shift-those (IsServiceListed blocks lists directives place) (length (names_in blocks Host)) found (listed lists are services_are))
  where
    all : All (λ service. hosts + service < 2 ^ 32) given
    all = subst (λ (ns : List ℕ). All (λ service. hosts + service < 2 ^ 32) ns) (sym same) (All-from_get_or (λ service. hosts + service < 2 ^ 32) found 0
        (λ i low. let at = ((listed lists are services_are).exactly (get_or found i 0)).0 (Contains-get_or found i 0 low) in
        let below = listed-within members blocks lists directives place (get_or found i 0) at in
        let count = ap (λ (ps : List Pair). length ps) services_are in
        omega (arith, below, count, hosts_are, few)))

-- ---- one block

-- a block isn't of both types
of_kind : (kind : BlockKind) (block : Block) → is_object kind block ≡ true → kind_number block.kind ≡ kind_number kind
of_kind kind block is = eqb-true (kind_number block.kind) (kind_number kind) (and_parts (eqb (kind_number block.kind) (kind_number kind)) _ is).0

kinds_differ : (role : Role) (n : ℕ) → n ≡ kind_number (host_kind role) → n ≡ kind_number (service_kind role) → ⊥
kinds_differ Escalated n one other = omega (arith, one, other)
kinds_differ Master n one other = omega (arith, one, other)
kinds_differ Dependent n one other = omega (arith, one, other)

apart : (blocks : List Block) (role : Role) (place : ℕ) (x : Block) → slice_get blocks place ≡ Some x → is_object_at blocks (host_kind role) place ≡ true → is_object_at blocks (service_kind role) place ≡ true → ⊥
apart blocks role place x here host service =
    kinds_differ role (kind_number x.kind)
    (of_kind (host_kind role) x (sym (object-at blocks (host_kind role) place x (is_object (host_kind role) x) here refl) ∙ host))
    (of_kind (service_kind role) x (sym (object-at blocks (service_kind role) place x (is_object (service_kind role) x) here refl) ∙ service))

module _ (blocks : List Block) (services : List Pair) (role : Role) (place : ℕ) (x : Block) (here : slice_get blocks place ≡ Some x) where
  pub of-hosts : (kind : BlockKind) (directives : ServiceDirectives) (found : List ℕ) → kind ≡ host_kind role → directives ≡ directives_of role → true ≡ is_object kind x
      → AreThose (IsListed blocks (of_hosts directives) place) found → AreSpokenOf blocks services role place found
  of-hosts kind directives found kind_is directives_are is_kind listed lists are services_are = record {
    rising = listed.rising;
    exactly = λ k. ((λ at. inl (object-at blocks (host_kind role) place x true here is, (those.exactly k).0 at)), from k);
  }
    where
      is : true ≡ is_object (host_kind role) x
      is = subst (λ (k : BlockKind). true ≡ is_object k x) kind_is is_kind

      those : AreThose (IsListed blocks (of_hosts (directives_of role)) place) found
      those = subst (λ (d : ServiceDirectives). AreThose (IsListed blocks (of_hosts d) place) found) directives_are listed

      from : (k : ℕ) → SpeaksOf blocks lists role place k → Contains found k
      from k (inl both) = (those.exactly k).1 both.1
      from k (inr both) = absurd (apart blocks role place x here (object-at blocks (host_kind role) place x true here is) both.0)

  pub of-services : (kind : BlockKind) (directives : ServiceDirectives) (found : List ℕ) → kind ≡ service_kind role → directives ≡ directives_of role → true ≡ is_object kind x
      → AreServicesOf blocks services directives place found → AreSpokenOf blocks services role place found
  of-services kind directives found kind_is directives_are is_kind given lists are services_are = record {
    rising = those.rising;
    exactly = λ k. ((λ at. inr (object-at blocks (service_kind role) place x true here is, (those.exactly k).0 at)), from k);
  }
    where
      is : true ≡ is_object (service_kind role) x
      is = subst (λ (k : BlockKind). true ≡ is_object k x) kind_is is_kind

      those : AreThose (λ object. (service : ℕ) × (object ≡ length (names_in blocks Host) + service) × IsServiceListed blocks lists (directives_of role) place service) found
      those = subst (λ (d : ServiceDirectives). AreServicesOf blocks services d place found) directives_are given lists are services_are

      from : (k : ℕ) → SpeaksOf blocks lists role place k → Contains found k
      from k (inl both) = absurd (apart blocks role place x here both.0 (object-at blocks (service_kind role) place x true here is))
      from k (inr both) = (those.exactly k).1 both.1

  pub of-none : (host service : BlockKind) (found : List ℕ) → host ≡ host_kind role → service ≡ service_kind role → found ≡ [] → false ≡ is_object host x → false ≡ is_object service x
      → AreSpokenOf blocks services role place found
  of-none host service found host_is service_is empty not_host not_service lists are services_are = subst (λ (ns : List ℕ). AreThose (SpeaksOf blocks lists role place) ns) (sym empty) (record {
    rising = λ k low. absurd (omega (arith, low));
    exactly = λ k. ((λ at. absurd (Contains-none k at)), none k);
  })
    where
      neither : (kind other : BlockKind) → kind ≡ other → false ≡ is_object kind x → is_object_at blocks other place ≡ true → ⊥
      neither kind other same not is =
          false≢true (sym (object-at blocks other place x false here (subst (λ (k : BlockKind). false ≡ is_object k x) same not)) ∙ is)

      none : (k : ℕ) → SpeaksOf blocks lists role place k → Contains [] k
      none k (inl both) = absurd (neither host (host_kind role) host_is not_host both.0)
      none k (inr both) = absurd (neither service (service_kind role) service_is not_service both.0)

-- ---- the hosts of services are hosts

pub hosts-below : ListedAreObjects → (blocks : List Block) (places : List ℕ) (lists : List (List ℕ)) → AllZip (AreHosts blocks) places lists → All (All (λ host. host < length (names_in blocks Host))) lists
hosts-below law blocks places lists are = All-from_get_or (All (λ host. host < length (names_in blocks Host))) lists [] (λ i low. each places lists i are low)
  where
    each : (ps : List ℕ) (ls : List (List ℕ)) (i : ℕ) → AllZip (AreHosts blocks) ps ls → i < length ls → All (λ host. host < length (names_in blocks Host)) (get_or ls i [])
    each ps [] i all low = absurd (omega (arith, low))
    each [] (l ∷ ls) i all low = absurd all
    each (p ∷ ps) (l ∷ ls) zero all low = All-from_get_or (λ host. host < length (names_in blocks Host)) l 0
        (λ k within. law blocks host_directives p (get_or l k 0) ((all.0.exactly (get_or l k 0)).0 (Contains-get_or l k 0 within)))
    each (p ∷ ps) (l ∷ ls) (suc i) all low = each ps ls i all.1 (omega (arith, low))

-- ---- what blocks speak of are objects

pub spoken-are-objects : ListedAreObjects → MembersAreServices → SpokenAreObjects
spoken-are-objects listed members blocks lists role place object (inl both) =
    let low : object < length (names_in blocks Host) = listed blocks (of_hosts (directives_of role)) place object both.1 in omega (arith, low)
spoken-are-objects listed members blocks lists role place object (inr (is, (service, number, at))) =
    let low = listed-within members blocks lists (directives_of role) place service at in omega (arith, number, low)
