-- Services by their hosts: the graph of them, and what stands at a place.
use Rattle.std.proofs.Common.{◌≡◌, ℕ, ◌+◌, ◌<◌, ◌≤◌, Bool, true, false, cond, eqb, eqb-true, eq-eqb, List, [], ◌∷◌, ◌++◌, length, map, filter, get_or, refl, sym, ap, subst, ◌∙◌, ⊎_elim, arith}
use Rattle.std.specs.Prelude.{All, Contains, slice_index_or, ◌↔◌}
use Rattle.std.specs.List.{flat_map, range_with_len}
use Rattle.std.proofs.lemmas.List.{get_or-map, length-map, map-append}
use Rattle.std.proofs.lemmas.List.Concat.{flat_map-cons}
use Rattle.std.proofs.lemmas.List.Elements.{All-contains, All-from_get_or, Contains-append_cases, Contains-get_or}
use Rattle.graph.specs.declared.edges.Edge.{Edge}
use Rattle.graph.specs.Edges.{HasEdges, IsWithin, ends_of}
use Rattle.lemmas.proofs.Elements.{Contains-filter, Contains-from_filter, Contains-from_map, Contains-from_range, Contains-here, Contains-later, Contains-none, Contains-range}
use Rattle.lemmas.proofs.Numbers.{below_more}
use Rattle.object_services.specs.claims.Numbers.{Pair, pairs_of}
use Rattle.object_services.specs.Numbers.{Key, pairs_in}
use Rattle.object_reached.specs.Services.{edge, host_edges, hosts_in, IsByHost, services_on}

-- ---- the host and the description at a place

pub long-in : (keys : List Key) → length (hosts_in (pairs_in keys)) ≡ length keys
long-in keys = length-map (pairs_in keys) (λ service. service.0) ∙ length-map {B = Pair} keys (λ key. (key.0, key.1.now))

pub pair-at : (keys : List Key) (i : ℕ) (d : Key) (e : Pair) → i < length keys → get_or (pairs_in keys) i e ≡ ((get_or keys i d).0, (get_or keys i d).1.now)
pair-at keys i d e within = get_or-map (λ key. (key.0, key.1.now)) keys i d e within

pub host-at : (keys : List Key) (i : ℕ) (d : Key) → i < length keys → get_or (hosts_in (pairs_in keys)) i 0 ≡ (get_or keys i d).0
host-at keys i d within =
    let long = length-map {B = Pair} keys (λ key. (key.0, key.1.now)) in
    get_or-map (λ service. service.0) (pairs_in keys) i (0, []) 0 (omega (arith, long, within)) ∙ ap (λ (p : Pair). p.0) (pair-at keys i d (0, []) within)

-- ---- each host is below a bound

-- each host in the services of blocks is one in the lists
pub pairs-within : (descriptions lists : List (List ℕ)) (bound : ℕ) → All (All (λ host. host < bound)) lists → (p : Pair) → Contains (pairs_of descriptions lists) p → p.0 < bound
pairs-within descriptions lists bound all p at =
    let on = from_flat_map (λ number. map (λ host. (host, slice_index_or descriptions number [])) (slice_index_or lists number [])) (range_with_len 0 (length lists)) p at in
    let host = Contains-from_map (λ host. (host, slice_index_or descriptions on.0 [])) (slice_index_or lists on.0 []) p on.2 in
    let low : host.0 < bound = All-contains (λ h. h < bound) (slice_index_or lists on.0 []) host.0 (all on.0 [] (Contains-from_range (length lists) on.0 on.1)) host.1 in
    let same : host.0 ≡ p.0 = ap (λ (q : Pair). q.0) host.2 in
    omega (arith, low, same)
  where
    from_flat_map : (f : ℕ → List Pair) (xs : List ℕ) (y : Pair) → Contains (flat_map f xs) y → (x : ℕ) × Contains xs x × Contains (f x) y
    from_flat_map f [] y at = absurd (Contains-none y at)
    from_flat_map f (x ∷ xs) y at = ⊎_elim
        (λ (here : Contains (f x) y). (x, Contains-here x xs, here))
        (λ (later : Contains (flat_map f xs) y). let more = from_flat_map f xs y later in (more.0, Contains-later x more.0 xs more.1, more.2))
        (Contains-append_cases (f x) (flat_map f xs) y (subst (λ ys. Contains ys y) (flat_map-cons f x xs) at))

pub keys-within : (descriptions lists : List (List ℕ)) (bound : ℕ) (keys : List Key) → All (All (λ host. host < bound)) lists → pairs_in keys ≡ pairs_of descriptions lists → All (λ key. key.0 < bound) keys
keys-within descriptions lists bound keys all are = λ i d within.
    let long = length-map {B = Pair} keys (λ key. (key.0, key.1.now)) in
    let p = get_or (pairs_in keys) i (0, []) in
    let at : Contains (pairs_in keys) p = Contains-get_or (pairs_in keys) i (0, []) (omega (arith, long, within)) in
    let low : p.0 < bound = pairs-within descriptions lists bound all p (subst (λ (ps : List Pair). Contains ps p) are at) in
    let same : p.0 ≡ (get_or keys i d).0 = ap (λ (q : Pair). q.0) (pair-at keys i d (0, []) within) in
    omega (arith, low, same)

hosts-within : (keys : List Key) (bound : ℕ) → All (λ key. key.0 < bound) keys → (i : ℕ) → i < length keys → get_or (hosts_in (pairs_in keys)) i 0 < bound
hosts-within [] bound all i within = absurd (omega (arith, within))
hosts-within (key ∷ keys) bound all i within = let low = all i key within in let same = host-at (key ∷ keys) i key within in omega (arith, low, same)

-- ---- the graph

pub edges-next : (hosts : List ℕ) (old new : List Edge) (n host : ℕ) → old ≡ host_edges hosts n → new ≡ old ++ edge host n ∷ [] → host ≡ get_or hosts n 0 → new ≡ host_edges hosts (n + 1)
edges-next hosts old new n host before more is =
    let f : ℕ → Edge = λ service. edge (get_or hosts service 0) service in
    more ∙ ap (λ (es : List Edge). es ++ edge host n ∷ []) before ∙ ap (λ (h : ℕ). host_edges hosts n ++ edge h n ∷ []) is
    ∙ sym (ap (map f) (below_more n) ∙ map-append f (range_with_len 0 n) (n ∷ []))

edge-at : (hosts : List ℕ) (count from to : ℕ) → Contains (host_edges hosts count) (edge from to) → (to < count) × (get_or hosts to 0 ≡ from)
edge-at hosts count from to at =
    let on = Contains-from_map (λ service. edge (get_or hosts service 0) service) (range_with_len 0 count) (edge from to) at in
    let low : on.0 < count = Contains-from_range count on.0 on.1 in
    let service : on.0 ≡ to = ap (λ (e : Edge). e.to) on.2 in
    let host : get_or hosts on.0 0 ≡ from = ap (λ (e : Edge). e.from) on.2 in
    (omega (arith, low, service), subst (λ (s : ℕ). get_or hosts s 0 ≡ from) service host)

pub edges-within : (keys : List Key) (bound nodes : ℕ) (edges : List Edge) → All (λ key. key.0 < bound) keys → bound + length keys ≤ nodes → edges ≡ host_edges (hosts_in (pairs_in keys)) (length keys)
    → All (IsWithin nodes) edges
edges-within keys bound nodes edges all few are = All-from_get_or (IsWithin nodes) edges (edge 0 0)
    (λ i low. let e = get_or edges i (edge 0 0) in
    let at = edge-at (hosts_in (pairs_in keys)) (length keys) e.from e.to (subst (λ es. Contains es e) are (Contains-get_or edges i (edge 0 0) low)) in
    let service = at.0 in
    let host = at.1 in
    let below = hosts-within keys bound all e.to service in
    record { from = omega (arith, below, host, few); to = omega (arith, service, few) })

-- where the edges from a host lead
ends-on : (host_of : ℕ → ℕ) (services : List ℕ) (host : ℕ) → ends_of (map (λ service. edge (host_of service) service) services) host ≡ filter (λ service. eqb (host_of service) host) services
ends-on host_of [] host = refl
ends-on host_of (s ∷ services) host =
    elim (eqb (host_of s) host) as (λ b. map (λ (e : Edge). e.to) (cond b (edge (host_of s) s ∷ filter (λ (e : Edge). eqb e.from host) (map (λ service. edge (host_of service) service) services)) (filter (λ (e : Edge). eqb e.from host) (map (λ service. edge (host_of service) service) services)))
    ≡ cond b (s ∷ filter (λ service. eqb (host_of service) host) services) (filter (λ service. eqb (host_of service) host) services)) [
      | true ↦ ap (λ (more : List ℕ). s ∷ more) (ends-on host_of services host)
      | false ↦ ends-on host_of services host
    ]

pub by-host : (keys : List Key) (bound nodes : ℕ) (edges : List Edge) (graph : List (List ℕ)) → All (λ key. key.0 < bound) keys → bound + length keys ≤ nodes
    → edges ≡ host_edges (hosts_in (pairs_in keys)) (length keys) → HasEdges nodes edges graph → IsByHost (pairs_in keys) graph
by-host keys bound nodes edges graph all few are has = record {
  hosts = All-from_get_or (λ host. host < length graph) (hosts_in (pairs_in keys)) 0 (λ i low.
      let long = long-in keys in
      let below = hosts-within keys bound all i (omega (arith, low, long)) in
      let count = has.count in
      omega (arith, below, few, count));
  ends = λ host low. let count = has.count in
      has.ends host (omega (arith, low, count))
      ∙ ap (λ (es : List Edge). ends_of es host) are
      ∙ ends-on (λ service. get_or (hosts_in (pairs_in keys)) service 0) (range_with_len 0 (length keys)) host
      ∙ ap (λ (n : ℕ). filter (λ service. eqb (get_or (hosts_in (pairs_in keys)) service 0) host) (range_with_len 0 n)) (sym (length-map {B = Pair} keys (λ key. (key.0, key.1.now))));
}

-- ---- the services of a host

filter-none : (p : ℕ → Bool) (xs : List ℕ) → ((k : ℕ) → Contains xs k → p k ≡ false) → filter p xs ≡ []
filter-none p [] never = refl
filter-none p (x ∷ xs) never = rw (never x (Contains-here x xs)) (filter-none p xs (λ k at. never k (Contains-later x k xs at)))

other-eqb : (a b : ℕ) → (a ≡ b → ⊥) → eqb a b ≡ false
other-eqb a b differ = elim (eqb a b) as (λ found. eqb a b ≡ found → found ≡ false) [
  | true ↦ λ same. absurd (differ (eqb-true a b same))
  | false ↦ λ other. refl
] refl

-- of a host that is no node there are none
pub none-on : (services : List Pair) (graph : List (List ℕ)) (host : ℕ) → IsByHost services graph → length graph ≤ host → [] ≡ services_on services host
none-on services graph host has past = sym (filter-none (λ service. eqb (get_or (hosts_in services) service 0) host) (range_with_len 0 (length services))
    (λ service at. other-eqb (get_or (hosts_in services) service 0) host (λ same.
    let long = length-map services (λ one. one.0) in
    let low = Contains-from_range (length services) service at in
    let below = has.hosts service 0 (omega (arith, low, long)) in
    omega (arith, below, same, past))))

-- they are exactly those that have the host
pub on-exactly : (services : List Pair) (host service : ℕ) → Contains (services_on services host) service ↔ ((service < length (hosts_in services)) × (get_or (hosts_in services) service 0 ≡ host))
on-exactly services host service = (to, from)
  where
    test : ℕ → Bool
    test one = eqb (get_or (hosts_in services) one 0) host

    long : length (hosts_in services) ≡ length services
    long = length-map services (λ one. one.0)

    to : Contains (services_on services host) service → (service < length (hosts_in services)) × (get_or (hosts_in services) service 0 ≡ host)
    to at =
        let on = Contains-from_filter test (range_with_len 0 (length services)) service at in
        let low = Contains-from_range (length services) service on.0 in
        (omega (arith, low, long), eqb-true (get_or (hosts_in services) service 0) host on.1)

    from : (service < length (hosts_in services)) × (get_or (hosts_in services) service 0 ≡ host) → Contains (services_on services host) service
    from (low, is) = Contains-filter test (range_with_len 0 (length services)) service
        (Contains-range (length services) service (omega (arith, low, long))) (eq-eqb (get_or (hosts_in services) service 0) host is)

pub exactly-of : (services : List Pair) (host : ℕ) (found : List ℕ) → found ≡ services_on services host
    → (service : ℕ) → Contains found service ↔ ((service < length (hosts_in services)) × (get_or (hosts_in services) service 0 ≡ host))
exactly-of services host found are service =
    subst (λ (on : List ℕ). Contains on service ↔ ((service < length (hosts_in services)) × (get_or (hosts_in services) service 0 ≡ host))) (sym are) (on-exactly services host service)
