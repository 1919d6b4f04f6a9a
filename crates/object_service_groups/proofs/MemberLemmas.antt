-- Lists of members, hosts and services by turns: the pairs of a list that is added to another, one list more, and that the
-- edges of lists by their parts stand for those of whole lists.
use Rattle.std.proofs.Common.{◌≡◌, ℕ, zero, suc, ◌+◌, ◌*◌, ◌/◌, ◌<◌, ◌≤◌, Bool, true, false, List, [], ◌∷◌, ◌++◌, length, length-take-le, map, take, get_or, Option, Some, None, Bor, refl, sym, ap, subst, ◌∙◌, inl, inr, ⊎_elim, arith}
use Rattle.std.specs.Prelude.{All, Contains, filter_map, IfSome, is_none, is_some, slice_get, unwrap_or}
use Rattle.std.specs.Option.{option_map, option_map_or, option_to_list}
use Rattle.std.proofs.lemmas.Bool.{false≢true}
use Rattle.std.proofs.Math.ListN.{get_or-map}
use Rattle.std.proofs.lemmas.List.{append-nil, length-map, map-append, take-map, take_more}
use Rattle.std.proofs.lemmas.List.Elements.{Contains-append_cases, Contains-append_left, Contains-append_right, filter_map-append}
use Rattle.std.proofs.lemmas.Option.{slice_get-get_or, slice_get_past}
use Rattle.graph.specs.declared.edges.Edge.{Edge}
use Rattle.graph.specs.Edges.{IsWithin}
use Rattle.lemmas.proofs.Elements.{Contains-cases, Contains-here, Contains-none}
use Rattle.lemmas.proofs.Lists.{some_at}
use Rattle.object_groups.specs.declared.lists.Direction.TheVariants.{ToNames}
use Rattle.object_groups.specs.declared.shared.Parts.{Parts}
use Rattle.object_groups.specs.declared.shared.SharedList.{SharedList}
use Rattle.object_groups.specs.ListEdges.{edge, LeadOver, list_edges, node_before}
use Rattle.object_groups.specs.claims.Objects.{list_at}
use Rattle.object_groups.specs.ReachLaws.{InParts, lead-over, OfList, StandFor}
use Rattle.object_groups.specs.Shared.{AreShared, AreSharedLists, HasParts, list_before, nearest_at, own_part, wholes_of}
use Rattle.object_groups.specs.SharedLaws.{before-taken, below-less, below-taken, shared-at, whole-at, whole-is, wholes-long}
use Rattle.object_pairs.specs.claims.Members.{place_of_pair, places_of}
use Rattle.object_pairs.specs.claims.Pairs.{by_two, NamedPair}
use Rattle.object_reader.specs.declared.block.Block.{Block}
use Rattle.object_services.specs.claims.Numbers.{Pair}
use Rattle.object_values.specs.Values.{texts}
use Rattle.object_service_groups.specs.Pairs.{entries_of, going_on, inner_nodes, left_over, lefts_in, named_by, nodes_by, paired, pair_nodes, services_at, shared_nodes, top_nodes, whole_nodes}
use Rattle.object_service_groups.proofs.ElementLemmas.{found-within, place-within, places-within}

-- ---- entries two by two

-- the even part, and the entry after it
pub even-taken : (half : ℕ) (entries : List (List ℕ)) → half * 2 ≤ length entries → length entries ≤ half * 2 + 1 → by_two (take (half * 2) entries) ≡ Some (paired entries)
even-taken zero [] low high = refl
even-taken zero (entry ∷ []) low high = refl
even-taken zero (host ∷ service ∷ entries) low high = absurd (omega (arith, high))
even-taken (suc half) [] low high = absurd (omega (arith, low))
even-taken (suc half) (entry ∷ []) low high = absurd (omega (arith, low))
even-taken (suc half) (host ∷ service ∷ entries) low high =
    let shift : suc half * 2 ≡ suc (suc (half * 2)) = omega arith in
    rw shift (ap (option_map (λ (pairs : List NamedPair). (host, service) ∷ pairs)) (even-taken half entries (omega (arith, low)) (omega (arith, high))))

pub left-at : (half : ℕ) (entries : List (List ℕ)) → half * 2 ≤ length entries → length entries ≤ half * 2 + 1 → slice_get entries (half * 2) ≡ left_over entries
left-at zero [] low high = refl
left-at zero (entry ∷ []) low high = refl
left-at zero (host ∷ service ∷ entries) low high = absurd (omega (arith, high))
left-at (suc half) [] low high = absurd (omega (arith, low))
left-at (suc half) (entry ∷ []) low high = absurd (omega (arith, low))
left-at (suc half) (host ∷ service ∷ entries) low high =
    let shift : suc half * 2 ≡ suc (suc (half * 2)) = omega arith in
    rw shift (left-at half entries (omega (arith, low)) (omega (arith, high)))

pub half-below : (n : ℕ) → n / 2 * 2 ≤ n
half-below n = omega arith

pub half-above : (n : ℕ) → n ≤ n / 2 * 2 + 1
half-above n = omega arith

pub texts-taken : (n : ℕ) (entries : List (Bor (List ℕ))) → texts (take n entries) ≡ take n (texts entries)
texts-taken n entries = sym (take-map (λ (entry : Bor (List ℕ)). entry.now) n entries)

texts-left : (entries : List (Bor (List ℕ))) → slice_get (texts entries) (length entries / 2 * 2) ≡ left_over (texts entries)
texts-left entries =
    let long = length-map entries (λ (entry : Bor (List ℕ)). entry.now) in
    let below = half-below (length entries) in
    let above = half-above (length entries) in
    left-at (length entries / 2) (texts entries) (omega (arith, long, below)) (omega (arith, long, above))

pub left-some : (entries : List (Bor (List ℕ))) (d : Bor (List ℕ)) → length entries / 2 * 2 < length entries → Some ((get_or entries (length entries / 2 * 2) d).now) ≡ left_over (texts entries)
left-some entries d low =
    let i = length entries / 2 * 2 in
    let long = length-map entries (λ (entry : Bor (List ℕ)). entry.now) in
    ap (λ (text : List ℕ). Some text) (sym (get_or-map (λ (entry : Bor (List ℕ)). entry.now) entries i d))
    ∙ sym (slice_get-get_or (texts entries) i (d.now) (omega (arith, long, low))) ∙ texts-left entries

pub left-none : (entries : List (Bor (List ℕ))) → length entries ≤ length entries / 2 * 2 → None ≡ left_over (texts entries)
left-none entries past =
    let long = length-map entries (λ (entry : Bor (List ℕ)). entry.now) in
    sym (slice_get_past (texts entries) (length entries / 2 * 2) (omega (arith, long, past))) ∙ texts-left entries

-- a list that is added to another goes on from what is left over of it
pub paired-on : (front own : List (List ℕ)) → paired (front ++ own) ≡ paired front ++ paired (going_on front own)
paired-on [] own = refl
paired-on (entry ∷ []) own = refl
paired-on (host ∷ service ∷ front) own = ap (λ (pairs : List NamedPair). (host, service) ∷ pairs) (paired-on front own)

pub left-on : (front own : List (List ℕ)) → left_over (front ++ own) ≡ left_over (going_on front own)
left-on [] own = refl
left-on (entry ∷ []) own = refl
left-on (host ∷ service ∷ front) own = left-on front own

by-two : (entries : List (List ℕ)) → is_none (left_over entries) ≡ true → by_two entries ≡ Some (paired entries)
by-two [] none = refl
by-two (entry ∷ []) none = absurd (false≢true none)
by-two (host ∷ service ∷ entries) none = ap (option_map (λ (pairs : List NamedPair). (host, service) ∷ pairs)) (by-two entries none)

by-two-none : (entries : List (List ℕ)) → is_some (left_over entries) ≡ true → by_two entries ≡ None
by-two-none [] some = absurd (false≢true some)
by-two-none (entry ∷ []) some = refl
by-two-none (host ∷ service ∷ entries) some = ap (option_map (λ (pairs : List NamedPair). (host, service) ∷ pairs)) (by-two-none entries some)

module _ (hosts : List (List ℕ)) (services : List Pair) where
  -- the services of the even part are those of the pairs
  pub named-even : (half : ℕ) (entries even : List (List ℕ)) → half * 2 ≤ length entries → length entries ≤ half * 2 + 1 → even ≡ take (half * 2) entries
      → places_of hosts services even ≡ named_by hosts services entries
  named-even half entries even low high is =
      ap (places_of hosts services) is
      ∙ ap (λ (pairs : Option (List NamedPair)). unwrap_or (option_map (filter_map (place_of_pair hosts services)) pairs) []) (even-taken half entries low high)

  pub named-entries : (entries : List (Bor (List ℕ))) → places_of hosts services (texts (take (length entries / 2 * 2) entries)) ≡ named_by hosts services (texts entries)
  named-entries entries =
      let long = length-map entries (λ (entry : Bor (List ℕ)). entry.now) in
      let below = half-below (length entries) in
      let above = half-above (length entries) in
      named-even (length entries / 2) (texts entries) (texts (take (length entries / 2 * 2) entries)) (omega (arith, long, below)) (omega (arith, long, above)) (texts-taken (length entries / 2 * 2) entries)

  pub named-within : (entries : List (List ℕ)) (k : ℕ) → Contains (named_by hosts services entries) k → k < length services
  named-within entries k at = found-within (place_of_pair hosts services) (length services) k (place-within hosts services) (paired entries) at

  -- the services of a whole list: those of the list before, and those of the pairs that go on from it
  named-on : (front own : List (List ℕ)) → named_by hosts services (front ++ own) ≡ named_by hosts services front ++ named_by hosts services (going_on front own)
  named-on front own = ap (filter_map (place_of_pair hosts services)) (paired-on front own) ∙ filter_map-append (place_of_pair hosts services) (paired front) (paired (going_on front own))

  places-none : (entries : List (List ℕ)) (left : Option (List ℕ)) → left_over entries ≡ left → is_some left ≡ true → places_of hosts services entries ≡ []
  places-none entries left is some =
      ap (λ (pairs : Option (List NamedPair)). unwrap_or (option_map (filter_map (place_of_pair hosts services)) pairs) []) (by-two-none entries (ap is_some is ∙ some))

  places-all : (entries : List (List ℕ)) → left_over entries ≡ None → places_of hosts services entries ≡ named_by hosts services entries
  places-all entries none =
      ap (λ (pairs : Option (List NamedPair)). unwrap_or (option_map (filter_map (place_of_pair hosts services)) pairs) []) (by-two entries (ap is_none none))

-- ---- what is left over of lists

-- one list more
lefts-more : (wholes : List (List (List ℕ))) (i : ℕ) (lefts more : List (Option (Bor (List ℕ)))) (left : Option (Bor (List ℕ))) (entries : List (List ℕ)) → i < length wholes
    → lefts_in lefts ≡ map left_over (take i wholes) → option_map (λ (entry : Bor (List ℕ)). entry.now) left ≡ left_over entries → left_over entries ≡ left_over (get_or wholes i []) → more ≡ lefts ++ left ∷ []
    → lefts_in more ≡ map left_over (take (i + 1) wholes)
lefts-more wholes i lefts more left entries low before is are all =
    ap lefts_in all ∙ map-append (option_map (λ (entry : Bor (List ℕ)). entry.now)) lefts (left ∷ [])
    ∙ ap (λ (ls : List (Option (List ℕ))). ls ++ option_map (λ (entry : Bor (List ℕ)). entry.now) left ∷ []) before
    ∙ ap (λ (l : Option (List ℕ)). map left_over (take i wholes) ++ l ∷ []) (is ∙ are)
    ∙ sym (ap (map left_over) (take_more wholes i [] low) ∙ map-append left_over (take i wholes) (get_or wholes i [] ∷ []))

module _ (blocks : List Block) (directive : List ℕ) (lists : List SharedList) (shared : AreSharedLists blocks directive lists) where
  taken-long : (i : ℕ) (lefts : List (Option (Bor (List ℕ)))) → i < length lists → lefts_in lefts ≡ map left_over (take i (wholes_of blocks directive lists)) → length lefts ≡ i
  taken-long i lefts low before =
      let wholes = wholes_of blocks directive lists in
      let long = wholes-long blocks directive lists in
      sym (length-map lefts (option_map (λ (entry : Bor (List ℕ)). entry.now))) ∙ ap (λ (ls : List (Option (List ℕ))). length ls) before
      ∙ length-map (take i wholes) left_over ∙ length-take-le i wholes (omega (arith, low, long))

  pub lefts-before : (i : ℕ) (d : SharedList) (lefts given : List (Option (Bor (List ℕ)))) → i < length lists → lefts_in lefts ≡ map left_over (take i (wholes_of blocks directive lists)) → given ≡ lefts
      → IfSome (get_or lists i d).before (λ k. k < length given)
  lefts-before i d lefts given low before same =
      below-taken (get_or lists i d).before i (length given) (sym (ap (λ (ls : List (Option (Bor (List ℕ)))). length ls) same ∙ taken-long i lefts low before))
      (shared-at blocks directive lists shared i d low).before

  pub lefts-on : (i : ℕ) (d : SharedList) (lefts more given : List (Option (Bor (List ℕ)))) (front left : Option (Bor (List ℕ))) (own entries : List (List ℕ)) → i < length lists
      → lefts_in lefts ≡ map left_over (take i (wholes_of blocks directive lists)) → given ≡ lefts
      → ((wholes : List (List (List ℕ))) → lefts_in given ≡ map left_over wholes → option_map (λ (entry : Bor (List ℕ)). entry.now) front ≡ left_over (list_before wholes (get_or lists i d).before))
      → own ≡ nearest_at blocks directive (get_or lists i d).place → entries ≡ option_to_list (option_map (λ (entry : Bor (List ℕ)). entry.now) front) ++ own
      → option_map (λ (entry : Bor (List ℕ)). entry.now) left ≡ left_over entries → more ≡ lefts ++ left ∷ []
      → lefts_in more ≡ map left_over (take (i + 1) (wholes_of blocks directive lists))
  lefts-on i d lefts more given front left own entries low before same front_is own_is entries_are left_is all =
      let wholes = wholes_of blocks directive lists in
      let list = get_or lists i d in
      let long = wholes-long blocks directive lists in
      let one = shared-at blocks directive lists shared i d low in
      let first = front_is (take i wholes) (ap lefts_in same ∙ before) ∙ ap left_over (before-taken wholes i list.before one.before) in
      lefts-more wholes i lefts more left entries (omega (arith, low, long)) before left_is
      (ap left_over (entries_are ∙ ap (λ (found : Option (List ℕ)). option_to_list found ++ own) first)
      ∙ sym (left-on (list_before wholes list.before) own)
      ∙ ap (λ (es : List (List ℕ)). left_over (list_before wholes list.before ++ es)) own_is
      ∙ sym (ap left_over (whole-at blocks directive lists i d low ∙ one.entries)))
      all

-- what is left over of the list of that number
pub left-read : (wholes : List (List (List ℕ))) (lefts : List (Option (Bor (List ℕ)))) (before : Option ℕ) (number : ℕ) → before ≡ Some number → lefts_in lefts ≡ map left_over wholes
    → option_map (λ (entry : Bor (List ℕ)). entry.now) (get_or lefts number None) ≡ left_over (list_before wholes before)
left-read wholes lefts before number is are =
    sym (get_or-map (option_map (λ (entry : Bor (List ℕ)). entry.now)) lefts number None) ∙ ap (λ (ls : List (Option (List ℕ))). get_or ls number None) are
    ∙ get_or-map left_over wholes number [] ∙ ap (λ (found : Option ℕ). left_over (list_before wholes found)) (sym is)

-- the entries that go on from a list before
pub entries-are : (wholes : List (List (List ℕ))) (before : Option ℕ) (left : Option (Bor (List ℕ))) (own entries mine : List (List ℕ)) → option_map (λ (entry : Bor (List ℕ)). entry.now) left ≡ left_over (list_before wholes before)
    → entries ≡ option_to_list (option_map (λ (entry : Bor (List ℕ)). entry.now) left) ++ own → own ≡ mine → entries ≡ going_on (list_before wholes before) mine
entries-are wholes before left own entries mine left_is are own_is =
    are ∙ ap (λ (found : Option (List ℕ)). option_to_list found ++ own) left_is ∙ ap (λ (es : List (List ℕ)). going_on (list_before wholes before) es) own_is

-- the nodes of a list of which an entry is left over, and of one of which none is
module _ (hosts : List (List ℕ)) (services : List Pair) (before : Option ℕ) (count : ℕ) where
  nodes-left : (left : Option (List ℕ)) (entries : List (List ℕ)) → is_some left ≡ true → whole_nodes hosts services left entries before count ≡ []
  nodes-left None entries some = absurd (false≢true some)
  nodes-left (Some entry) entries some = refl

  nodes-all : (left : Option (List ℕ)) (entries : List (List ℕ)) → is_some left ≡ false → whole_nodes hosts services left entries before count ≡ pair_nodes hosts services entries before count
  nodes-all None entries none = refl
  nodes-all (Some entry) entries none = absurd (false≢true (sym none))

  is-some : (left : Option (Bor (List ℕ))) → is_some (option_map (λ (entry : Bor (List ℕ)). entry.now) left) ≡ is_some left
  is-some None = refl
  is-some (Some entry) = refl

  left-same : (left : Option (Bor (List ℕ))) (given entries : List (List ℕ)) (b : Bool) → option_map (λ (entry : Bor (List ℕ)). entry.now) left ≡ left_over given → given ≡ entries → b ≡ is_some left
      → is_some (left_over entries) ≡ b
  left-same left given entries b left_is same is =
      ap (λ (es : List (List ℕ)). is_some (left_over es)) (sym same) ∙ ap is_some (sym left_is) ∙ is-some left ∙ sym is

  pub list-none : (node : ℕ) (edges : List Edge) (left : Option (Bor (List ℕ))) (given entries : List (List ℕ)) (b : Bool) → option_map (λ (entry : Bor (List ℕ)). entry.now) left ≡ left_over given
      → given ≡ entries → b ≡ is_some left → b ≡ true → edges ≡ edges ++ map (edge node) (whole_nodes hosts services (left_over entries) entries before count)
  list-none node edges left given entries b left_is same is some =
      sym (ap (λ (ends : List ℕ). edges ++ map (edge node) ends) (nodes-left (left_over entries) entries (left-same left given entries b left_is same is ∙ some)) ∙ append-nil edges)

  pub list-all : (node : ℕ) (edges new : List Edge) (left : Option (Bor (List ℕ))) (given entries told : List (List ℕ)) (b : Bool) → option_map (λ (entry : Bor (List ℕ)). entry.now) left ≡ left_over given
      → given ≡ entries → b ≡ is_some left → b ≡ false → told ≡ entries → new ≡ edges ++ map (edge node) (pair_nodes hosts services told before count)
      → new ≡ edges ++ map (edge node) (whole_nodes hosts services (left_over entries) entries before count)
  list-all node edges new left given entries told b left_is same is none told_is more =
      more ∙ ap (λ (es : List (List ℕ)). edges ++ map (edge node) (pair_nodes hosts services es before count)) told_is
      ∙ sym (ap (λ (ends : List ℕ). edges ++ map (edge node) ends) (nodes-all (left_over entries) entries (left-same left given entries b left_is same is ∙ none)))

pub lefts-long : (wholes : List (List (List ℕ))) (lefts : List (Option (Bor (List ℕ)))) → lefts_in lefts ≡ map left_over wholes → length lefts ≡ length wholes
lefts-long wholes lefts are =
    sym (length-map lefts (option_map (λ (entry : Bor (List ℕ)). entry.now))) ∙ ap (λ (ls : List (Option (List ℕ))). length ls) are ∙ length-map wholes left_over

pub lefts-within : (wholes : List (List (List ℕ))) (lefts : List (Option (Bor (List ℕ)))) (before : Option ℕ) → lefts_in lefts ≡ map left_over wholes → IfSome before (λ k. k < length wholes)
    → IfSome before (λ k. k < length lefts)
lefts-within wholes lefts before are low = below-taken before (length wholes) (length lefts) (sym (lefts-long wholes lefts are)) low

pub lefts-inner : (blocks : List Block) (directive : List ℕ) (lists : List SharedList) (lefts : List (Option (Bor (List ℕ)))) (i : ℕ) (d : SharedList) → AreSharedLists blocks directive lists
    → lefts_in lefts ≡ map left_over (wholes_of blocks directive lists) → i < length lists → IfSome (get_or lists i d).before (λ k. k < length lefts)
lefts-inner blocks directive lists lefts i d shared are low =
    below-less (get_or lists i d).before i (length lefts) (let long = lefts-long (wholes_of blocks directive lists) lefts are in let count = wholes-long blocks directive lists in omega (arith, long, count, low))
    (shared-at blocks directive lists shared i d low).before

-- ---- the edges of one list more

pub inner-is : (hosts : List (List ℕ)) (services : List Pair) (blocks : List Block) (directive : List ℕ) (wholes : List (List (List ℕ))) (count : ℕ) (lists : List SharedList) (j : ℕ) (d : SharedList)
    → j < length lists → inner_nodes hosts services blocks directive wholes count lists j ≡ shared_nodes hosts services blocks directive wholes count (get_or lists j d)
inner-is hosts services blocks directive wholes count lists j d low =
    ap (λ (found : Option SharedList). option_map_or (shared_nodes hosts services blocks directive wholes count) found []) (slice_get-get_or lists j d low)

pub top-is : (hosts : List (List ℕ)) (services : List Pair) (blocks : List Block) (directive : List ℕ) (wholes : List (List (List ℕ))) (count : ℕ) (places : List ℕ) (parts : List Parts) (k place : ℕ) (one d : Parts)
    → k < length parts → one ≡ get_or parts k d → place ≡ get_or places k 0
    → top_nodes hosts services blocks directive wholes count places parts k ≡ nodes_by hosts services blocks directive wholes count place one
top-is hosts services blocks directive wholes count places parts k place one d low is at =
    ap (λ (found : Option Parts). option_map_or (nodes_by hosts services blocks directive wholes count (get_or places k 0)) found []) (slice_get-get_or parts k d low)
    ∙ ap (nodes_by hosts services blocks directive wholes count (get_or places k 0)) (sym is)
    ∙ ap (λ (p : ℕ). nodes_by hosts services blocks directive wholes count p one) (sym at)

-- ---- parts stand for whole lists

module _ (hosts : List (List ℕ)) (services : List Pair) (count : ℕ) (wholes : List (List (List ℕ))) where
  abbrev pub whole_named : ℕ → List ℕ
  whole_named j = named_by hosts services (get_or wholes j [])

  in-front : (list front own : List (List ℕ)) (y : ℕ) → list ≡ front ++ own → Contains (named_by hosts services front) y → Contains (named_by hosts services list) y
  in-front list front own y is at =
      subst (λ ys. Contains ys y) (sym (ap (named_by hosts services) is ∙ named-on hosts services front own))
      (Contains-append_left (named_by hosts services front) (named_by hosts services (going_on front own)) y at)

  in-own : (list front own : List (List ℕ)) (y : ℕ) → list ≡ front ++ own → Contains (named_by hosts services (going_on front own)) y → Contains (named_by hosts services list) y
  in-own list front own y is at =
      subst (λ ys. Contains ys y) (sym (ap (named_by hosts services) is ∙ named-on hosts services front own))
      (Contains-append_right (named_by hosts services front) (named_by hosts services (going_on front own)) y at)

  from-before : (list own : List (List ℕ)) (before : Option ℕ) (bound x : ℕ) → list ≡ list_before wholes before ++ own → IfSome before (λ k. k < bound)
      → Contains (node_before count before) x → OfList count bound whole_named (named_by hosts services list) x
  from-before list own None bound x is low at = absurd (Contains-none x at)
  from-before list own (Some r) bound x is low at = ⊎_elim
      (λ (here : count + r ≡ x). inr (r, low, sym here, (λ y on. in-front list (get_or wholes r []) own y is on)))
      (λ (none : Contains [] x). absurd (Contains-none x none))
      (Contains-cases (count + r) x [] at)

  parts-only : (list own : List (List ℕ)) (before : Option ℕ) (bound x : ℕ) → list ≡ list_before wholes before ++ own → IfSome before (λ k. k < bound)
      → Contains (pair_nodes hosts services (going_on (list_before wholes before) own) before count) x → OfList count bound whole_named (named_by hosts services list) x
  parts-only list own before bound x is low at = ⊎_elim
      (λ (mine : Contains (named_by hosts services (going_on (list_before wholes before) own)) x). inl (in-own list (list_before wholes before) own x is mine))
      (λ (other : Contains (node_before count before) x). from-before list own before bound x is low other)
      (Contains-append_cases (named_by hosts services (going_on (list_before wholes before) own)) (node_before count before) x at)

  to-before : (entries : List (List ℕ)) (before : Option ℕ) (bound y : ℕ) → IfSome before (λ k. k < bound) → Contains (named_by hosts services (list_before wholes before)) y
      → InParts count bound whole_named (pair_nodes hosts services entries before count) y
  to-before entries None bound y low at = absurd (Contains-none y at)
  to-before entries (Some r) bound y low at =
      inr (r, low, Contains-append_right (named_by hosts services entries) ((count + r) ∷ []) (count + r) (Contains-here (count + r) []), at)

  parts-each : (list own : List (List ℕ)) (before : Option ℕ) (bound y : ℕ) → list ≡ list_before wholes before ++ own → IfSome before (λ k. k < bound)
      → Contains (named_by hosts services list) y → InParts count bound whole_named (pair_nodes hosts services (going_on (list_before wholes before) own) before count) y
  parts-each list own before bound y is low at =
      let entries = going_on (list_before wholes before) own in
      ⊎_elim
      (λ (front : Contains (named_by hosts services (list_before wholes before)) y). to-before entries before bound y low front)
      (λ (mine : Contains (named_by hosts services entries) y). inl (Contains-append_left (named_by hosts services entries) (node_before count before) y mine))
      (Contains-append_cases (named_by hosts services (list_before wholes before)) (named_by hosts services entries) y
      (subst (λ ys. Contains ys y) (ap (named_by hosts services) is ∙ named-on hosts services (list_before wholes before) own) at))

  -- the same of a list of which an entry may be left over
  tops-only : (list own : List (List ℕ)) (left : Option (List ℕ)) (before : Option ℕ) (bound x : ℕ) → list ≡ list_before wholes before ++ own → IfSome before (λ k. k < bound)
      → left_over list ≡ left → Contains (whole_nodes hosts services left (going_on (list_before wholes before) own) before count) x → OfList count bound whole_named (places_of hosts services list) x
  tops-only list own None before bound x is low none at =
      subst (λ ys. OfList count bound whole_named ys x) (sym (places-all hosts services list none)) (parts-only list own before bound x is low at)
  tops-only list own (Some entry) before bound x is low some at = absurd (Contains-none x at)

  tops-each : (list own : List (List ℕ)) (left : Option (List ℕ)) (before : Option ℕ) (bound y : ℕ) → list ≡ list_before wholes before ++ own → IfSome before (λ k. k < bound)
      → left_over list ≡ left → Contains (places_of hosts services list) y → InParts count bound whole_named (whole_nodes hosts services left (going_on (list_before wholes before) own) before count) y
  tops-each list own None before bound y is low none at =
      parts-each list own before bound y is low (subst (λ ys. Contains ys y) (places-all hosts services list none) at)
  tops-each list own (Some entry) before bound y is low some at =
      absurd (Contains-none y (subst (λ ys. Contains ys y) (places-none hosts services list (Some entry) some refl) at))

module _ (hosts : List (List ℕ)) (services : List Pair) (blocks : List Block) (directive : List ℕ) (places : List ℕ) (parts : List Parts) (lists : List SharedList) (count : ℕ)
    (are : AreShared blocks directive places parts lists) (few : length services ≤ count) where
  abbrev wholes : List (List (List ℕ))
  wholes = wholes_of blocks directive lists

  abbrev plain : ℕ → List ℕ
  plain = services_at hosts services blocks directive places

  abbrev tops : ℕ → List ℕ
  tops = top_nodes hosts services blocks directive wholes count places parts

  abbrev inner : ℕ → List ℕ
  inner = inner_nodes hosts services blocks directive wholes count lists

  abbrev whole : ℕ → List ℕ
  whole = whole_named hosts services count wholes

  part-there : (k : ℕ) → k < length places → (one : Parts) × (slice_get parts k ≡ Some one)
  part-there k there = some_at parts k (let long = are.long in omega (arith, long, there))

  top-nodes : (k : ℕ) (one : Parts) → slice_get parts k ≡ Some one → tops k ≡ nodes_by hosts services blocks directive wholes count (get_or places k 0) one
  top-nodes k one at = ap (λ (found : Option Parts). option_map_or (nodes_by hosts services blocks directive wholes count (get_or places k 0)) found []) at

  before-here : (before : Option ℕ) → IfSome before (λ k. k < length wholes) → IfSome before (λ k. k < length lists)
  before-here before within = below-taken before (length wholes) (length lists) (wholes-long blocks directive lists) within

  inner-nodes : (j : ℕ) (one : SharedList) → slice_get lists j ≡ Some one → inner j ≡ shared_nodes hosts services blocks directive wholes count one
  inner-nodes j one at = ap (λ (found : Option SharedList). option_map_or (shared_nodes hosts services blocks directive wholes count) found []) at

  -- the whole list of that number is the one before and the entries after it
  whole-parts : (j : ℕ) (one : SharedList) → slice_get lists j ≡ Some one → get_or wholes j [] ≡ list_before wholes one.before ++ nearest_at blocks directive one.place
  whole-parts j one at = whole-is blocks directive lists j one at ∙ (are.shared j one at).entries

  left-is : (place : ℕ) (one : Parts) → HasParts blocks directive wholes place one → left_over (list_at blocks directive place) ≡ left_over (entries_of blocks directive wholes place one)
  left-is place one has = ap left_over has.entries ∙ left-on (list_before wholes one.before) (own_part blocks directive place one.own)

  stand-for : StandFor count (length places) (length lists) plain tops inner whole
  stand-for = record {
    top_only = λ k x there at.
        let place = get_or places k 0 in
        let one = part-there k there in
        let has = are.have.each k one.0 one.1 in
        tops-only hosts services count wholes (list_at blocks directive place) (own_part blocks directive place one.0.own) (left_over (entries_of blocks directive wholes place one.0)) one.0.before (length lists) x
        has.entries (before-here one.0.before has.before) (left-is place one.0 has) (subst (λ ys. Contains ys x) (top-nodes k one.0 one.1) at);
    top_each = λ k y there at.
        let place = get_or places k 0 in
        let one = part-there k there in
        let has = are.have.each k one.0 one.1 in
        subst (λ ys. InParts count (length lists) whole ys y) (sym (top-nodes k one.0 one.1))
        (tops-each hosts services count wholes (list_at blocks directive place) (own_part blocks directive place one.0.own) (left_over (entries_of blocks directive wholes place one.0)) one.0.before (length lists) y
        has.entries (before-here one.0.before has.before) (left-is place one.0 has) at);
    inner_only = λ j x there at.
        let one = some_at lists j there in
        let shared = are.shared j one.0 one.1 in
        parts-only hosts services count wholes (get_or wholes j []) (nearest_at blocks directive one.0.place) one.0.before (length lists) x (whole-parts j one.0 one.1)
        (below-less one.0.before j (length lists) there shared.before) (subst (λ ys. Contains ys x) (inner-nodes j one.0 one.1) at);
    inner_each = λ j y there at.
        let one = some_at lists j there in
        let shared = are.shared j one.0 one.1 in
        subst (λ ys. InParts count j whole ys y) (sym (inner-nodes j one.0 one.1))
        (parts-each hosts services count wholes (get_or wholes j []) (nearest_at blocks directive one.0.place) one.0.before j y (whole-parts j one.0 one.1) shared.before at);
    plain_within = λ k y there at. let low = places-within hosts services (list_at blocks directive (get_or places k 0)) y at in omega (arith, low, few);
    whole_within = λ j y there at. let low = named-within hosts services (get_or wholes j []) y at in omega (arith, low, few);
  }

  -- the edges of the parts lead over the nodes of shared lists
  pub lists-lead : (old one all : List Edge) (given : List SharedList) (first next : ℕ) → first + length places ≤ count → All (IsWithin count) old → given ≡ lists
      → one ≡ old ++ list_edges ToNames first (length places) tops
      → all ≡ one ++ list_edges ToNames count (length given) (inner_nodes hosts services blocks directive (wholes_of blocks directive given) count given) → next ≡ count + length given
      → LeadOver count (old ++ list_edges ToNames first (length places) plain) next all
  lists-lead old one all given first next below inside same top last is =
      subst (λ (es : List Edge). LeadOver count (old ++ list_edges ToNames first (length places) plain) next es)
      (sym (last ∙ ap (λ (ls : List SharedList). one ++ list_edges ToNames count (length ls) (inner_nodes hosts services blocks directive (wholes_of blocks directive ls) count ls)) same
      ∙ ap (λ (es : List Edge). es ++ list_edges ToNames count (length lists) inner) top))
      (lead-over ToNames count first (length places) (length lists) plain tops inner old whole stand-for below inside next
      (is ∙ ap (λ (ls : List SharedList). count + length ls) same))
