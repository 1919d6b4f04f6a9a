-- What lists made of other lists contain, and how long they are.
use Rattle.std.proofs.Common.{◌≡◌, ℕ, zero, suc, ◌+◌, ◌<◌, ◌≤◌, ◌^◌, List, [], ◌∷◌, ◌++◌, length, map, replicate, get_or, Option, Some, None, refl, sym, ap, subst, ◌∙◌, ⊎_elim, arith}
use Rattle.std.specs.Prelude.{All, Contains, filter_map, unwrap_or, IfSome, slice_get}
use Rattle.std.specs.List.{cons_option, flat_map, range_with_len}
use Rattle.std.specs.Option.{option_and_then, option_map}
use Rattle.std.proofs.lemmas.Bool.{cases_lt}
use Rattle.std.proofs.lemmas.List.{get_or_past, get_or-map, length-append, length-map, length-replicate}
use Rattle.std.proofs.lemmas.List.Concat.{flat_map-cons}
use Rattle.std.proofs.lemmas.List.Elements.{All-from_get_or, Contains-get_or}
use Rattle.lemmas.proofs.Elements.{Contains-cases, Contains-from_flat_map, Contains-from_range, Contains-none}
use Rattle.lemmas.proofs.Searches.{position-within}
use Rattle.object_groups.specs.claims.Names.{number_of}
use Rattle.object_pairs.specs.claims.Members.{place_of_pair, places_of}
use Rattle.object_pairs.specs.claims.Pairs.{by_two, NamedPair}
use Rattle.object_services.specs.claims.Numbers.{is_pair, Pair, pairs_of, service_number}
use Rattle.object_service_groups.specs.claims.Groups.{owners_of}

-- ---- lists of lists

-- what lists contain that each are below a bound
pub mapped-within : (f : ℕ → List ℕ) (places : List ℕ) (bound : ℕ) → ((place k : ℕ) → Contains (f place) k → k < bound)
    → (i k : ℕ) → Contains (get_or (map f places) i []) k → k < bound
mapped-within f places bound each i k at = ⊎_elim
    (λ (low : i < length places). each (get_or places i 0) k (subst (λ ks. Contains ks k) (get_or-map f places i 0 [] low) at))
    (λ (past : length places ≤ i). absurd (none past))
    (cases_lt i (length places))
  where
    none : length places ≤ i → ⊥
    none past =
        let long = length-map places f in
        let beyond : length (map f places) ≤ i = omega (arith, long, past) in
        Contains-none k (subst (λ ks. Contains ks k) (get_or_past (map f places) i [] beyond) at)

flat-long : {X Y : Type 0} (f : ℕ → List X) (g : ℕ → List Y) → ((n : ℕ) → length (f n) ≡ length (g n)) → (ns : List ℕ) → length (flat_map f ns) ≡ length (flat_map g ns)
flat-long f g same [] = refl
flat-long {X} {Y} f g same (n ∷ ns) =
    let here = same n in
    let rest = flat-long f g same ns in
    let one = length-append (f n) (flat_map f ns) in
    let other = length-append (g n) (flat_map g ns) in
    let both : length (f n ++ flat_map f ns) ≡ length (g n ++ flat_map g ns) = omega (arith, here, rest, one, other) in
    ap (λ (xs : List X). length xs) (flat_map-cons f n ns) ∙ both ∙ sym (ap (λ (ys : List Y). length ys) (flat_map-cons g n ns))

-- ---- numbers of names, and places of services

found-one : (found : Option ℕ) (others : List ℕ) (bound k : ℕ) → IfSome found (λ n. n < bound) → (Contains others k → k < bound) → Contains (cons_option found others) k → k < bound
found-one None others bound k here rest at = rest at
found-one (Some n) others bound k here rest at = ⊎_elim
    (λ (same : n ≡ k). subst (λ (m : ℕ). m < bound) same here)
    (λ (later : Contains others k). rest later)
    (Contains-cases n k others at)

pub found-within : (f : NamedPair → Option ℕ) (bound k : ℕ) → ((pair : NamedPair) → IfSome (f pair) (λ n. n < bound)) → (pairs : List NamedPair) → Contains (filter_map f pairs) k → k < bound
found-within f bound k each [] at = absurd (Contains-none k at)
found-within f bound k each (pair ∷ pairs) at = found-one (f pair) (filter_map f pairs) bound k (each pair) (λ later. found-within f bound k each pairs later) at

pub place-within : (hosts : List (List ℕ)) (services : List Pair) (pair : NamedPair) → IfSome (place_of_pair hosts services pair) (λ n. n < length services)
place-within hosts services pair = by_host (number_of hosts pair.0)
  where
    by_host : (host : Option ℕ) → IfSome (option_and_then (λ h. service_number services h pair.1) host) (λ n. n < length services)
    by_host None = tt
    by_host (Some h) = position-within (is_pair h pair.1) services

pub places-within : (hosts : List (List ℕ)) (services : List Pair) (members : List (List ℕ)) (k : ℕ) → Contains (places_of hosts services members) k → k < length services
places-within hosts services members k at = by_pairs (by_two members) at
  where
    by_pairs : (found : Option (List NamedPair)) → Contains (unwrap_or (option_map (filter_map (place_of_pair hosts services)) found) []) k → k < length services
    by_pairs None on = absurd (Contains-none k on)
    by_pairs (Some pairs) on = found-within (place_of_pair hosts services) (length services) k (place-within hosts services) pairs on

pub all-places : (hosts : List (List ℕ)) (services : List Pair) (members : List (List ℕ)) (places : List ℕ) → places ≡ places_of hosts services members → All (λ s. s < length services) places
all-places hosts services members places is = All-from_get_or (λ s. s < length services) places 0
    (λ i low. places-within hosts services members (get_or places i 0) (subst (λ ps. Contains ps (get_or places i 0)) is (Contains-get_or places i 0 low)))

pub few-places : (bound : ℕ) (named places : List ℕ) → places ≡ named → All (λ s. s < bound) named → bound < 2 ^ 32 → All (λ s. s < 2 ^ 32) places
few-places bound named places same all few = subst (λ (ps : List ℕ). All (λ s. s < 2 ^ 32) ps) (sym same) (λ i d low. let at = all i d low in omega (arith, at, few))

-- ---- the blocks of services

same-replicate : (n x k : ℕ) → Contains (replicate n x) k → k ≡ x
same-replicate zero x k at = absurd (Contains-none k at)
same-replicate (suc n) x k at = ⊎_elim
    (λ (here : x ≡ k). sym here)
    (λ (later : Contains (replicate n x) k). same-replicate n x k later)
    (Contains-cases x k (replicate n x) at)

pub owners-within : (lists : List (List ℕ)) (k : ℕ) → Contains (owners_of lists) k → k < length lists
unfolding owners_of
owners-within lists k at =
    let on = Contains-from_flat_map (λ number. replicate (length (get_or lists number [])) number) (range_with_len 0 (length lists)) k at in
    let same : k ≡ on.0 = same-replicate (length (get_or lists on.0 [])) on.0 k on.2 in
    let low : on.0 < length lists = Contains-from_range (length lists) on.0 on.1 in
    omega (arith, same, low)

pub owners-long : (descriptions lists : List (List ℕ)) → length (owners_of lists) ≡ length (pairs_of descriptions lists)
unfolding owners_of
owners-long descriptions lists =
    flat-long (λ number. replicate (length (get_or lists number [])) number) (λ number. map (λ host. (host, get_or descriptions number [])) (get_or lists number []))
    (λ number. length-replicate (length (get_or lists number [])) number ∙ sym (length-map (get_or lists number []) (λ host. (host, get_or descriptions number []))))
    (range_with_len 0 (length lists))

pub all-owners : (lists : List (List ℕ)) (owners : List ℕ) (middle bound : ℕ) → owners ≡ owners_of lists → middle + length lists ≤ bound → All (λ owner. middle + owner < bound) owners
all-owners lists owners middle bound is few = All-from_get_or (λ owner. middle + owner < bound) owners 0
    (λ i low. let at = owners-within lists (get_or owners i 0) (subst (λ os. Contains os (get_or owners i 0)) is (Contains-get_or owners i 0 low)) in omega (arith, at, few))

-- a place that has an element is within
pub place-there : (xs : List ℕ) (k x : ℕ) → slice_get xs k ≡ Some x → k < length xs
place-there [] k x is = cc
place-there (y ∷ ys) zero x is = omega arith
place-there (y ∷ ys) (suc k) x is = let rest = place-there ys k x is in omega (arith, rest)
