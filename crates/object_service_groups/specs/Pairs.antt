-- Lists of members that are shared: the pairs of a list that is added to another, and the edges of such lists.
use Rattle.std.specs.Prelude.{ℕ, List, [], ◌∷◌, ◌++◌, filter_map, map, Option, None, Some, slice_get, slice_index_or}
use Rattle.std.proofs.Common.{Bor}
use Rattle.std.specs.Option.{option_map, option_map_or, option_to_list}
use Rattle.object_groups.specs.declared.shared.Parts.{Parts}
use Rattle.object_groups.specs.declared.shared.SharedList.{SharedList}
use Rattle.object_groups.specs.ListEdges.{node_before}
use Rattle.object_groups.specs.claims.Objects.{list_at}
use Rattle.object_groups.specs.Shared.{list_before, nearest_at, own_part}
use Rattle.object_pairs.specs.claims.Members.{place_of_pair, places_of}
use Rattle.object_pairs.specs.claims.Pairs.{NamedPair}
use Rattle.object_reader.specs.declared.block.Block.{Block}
use Rattle.object_services.specs.claims.Numbers.{Pair}

-- the entries two by two, without one that is left over
abbrev pub paired : List (List ℕ) → List NamedPair
paired [] = []
paired (entry ∷ []) = []
paired (host ∷ service ∷ entries) = (host, service) ∷ paired entries

-- the entry that is left over, if there is one
abbrev pub left_over : List (List ℕ) → Option (List ℕ)
left_over [] = None
left_over (entry ∷ []) = Some entry
left_over (host ∷ service ∷ entries) = left_over entries

-- the places of the services that the pairs of the entries name
abbrev pub named_by : (hosts : List (List ℕ)) → (services : List Pair) → List (List ℕ) → List ℕ
named_by hosts services entries = filter_map (place_of_pair hosts services) (paired entries)

-- entries that go on from a list: first the one that it leaves over
abbrev pub going_on : (before entries : List (List ℕ)) → List (List ℕ)
going_on before entries = option_to_list (left_over before) ++ entries

-- the same of each list, borrowed
abbrev pub lefts_in : List (Option (Bor (List ℕ))) → List (Option (List ℕ))
lefts_in lefts = map (option_map (λ entry. entry.now)) lefts

-- ---- the edges of shared lists

-- the services that the list of the block at one of the places names
abbrev pub services_at : (hosts : List (List ℕ)) → (services : List Pair) → List Block → List ℕ
    → (places : List ℕ) → ℕ → List ℕ
services_at hosts services blocks directive places k =
    places_of hosts services (list_at blocks directive (slice_index_or places k 0))

-- the nodes of a list's parts: the services of the pairs of the entries that go on from the list before, and the node
-- of that list, where the node of the first shared list is `count`
abbrev pub pair_nodes : (hosts : List (List ℕ)) → (services : List Pair)
    → (entries : List (List ℕ)) → (before : Option ℕ) → (count : ℕ) → List ℕ
pair_nodes hosts services entries before count =
    named_by hosts services entries ++ node_before count before

-- the same of a whole list: none where an entry is left over
abbrev pub whole_nodes : (hosts : List (List ℕ)) → (services : List Pair) → (left : Option (List ℕ))
    → (entries : List (List ℕ)) → (before : Option ℕ) → (count : ℕ) → List ℕ
whole_nodes hosts services None entries before count =
    pair_nodes hosts services entries before count
whole_nodes hosts services (Some entry) entries before count = []

-- the entries of a list's own that go on from the list before
abbrev pub entries_of : List Block → List ℕ → (wholes : List (List (List ℕ))) → (place : ℕ)
    → Parts → List (List ℕ)
entries_of blocks directive wholes place parts = going_on (list_before wholes parts.before)
    (own_part blocks directive place parts.own)

-- the nodes of the list of a block that has these parts
abbrev pub nodes_by : (hosts : List (List ℕ)) → (services : List Pair) → List Block → List ℕ
    → (wholes : List (List (List ℕ))) → (count place : ℕ) → Parts → List ℕ
nodes_by hosts services blocks directive wholes count place parts = whole_nodes hosts services
    (left_over (entries_of blocks directive wholes place parts))
    (entries_of blocks directive wholes place parts) parts.before count

-- and of a shared list
abbrev pub shared_nodes : (hosts : List (List ℕ)) → (services : List Pair) → List Block → List ℕ
    → (wholes : List (List (List ℕ))) → (count : ℕ) → SharedList → List ℕ
shared_nodes hosts services blocks directive wholes count list = pair_nodes hosts services
    (going_on (list_before wholes list.before) (nearest_at blocks directive list.place))
    list.before count

-- those of the list of each block, and of each shared list, by their numbers
abbrev pub top_nodes : (hosts : List (List ℕ)) → (services : List Pair) → List Block → List ℕ
    → (wholes : List (List (List ℕ))) → (count : ℕ) → (places : List ℕ) → List Parts → ℕ → List ℕ
top_nodes hosts services blocks directive wholes count places parts k = option_map_or
    (nodes_by hosts services blocks directive wholes count (slice_index_or places k 0))
    (slice_get parts k) []

abbrev pub inner_nodes : (hosts : List (List ℕ)) → (services : List Pair) → List Block → List ℕ
    → (wholes : List (List (List ℕ))) → (count : ℕ) → List SharedList → ℕ → List ℕ
inner_nodes hosts services blocks directive wholes count lists j = option_map_or
    (shared_nodes hosts services blocks directive wholes count) (slice_get lists j) []
