-- Services by their hosts and descriptions (chapter "Object Definitions").
use Rattle.std.specs.Prelude.{ℕ, Bool, ◌&&◌, ◌==◌, List, [], length, map, flat_map, Option, slice_index_or}
use Rattle.std.specs.List.{position, range_with_len}
use Rattle.std.specs.Str.{bytes_eq}

-- a service: its host by number, and its description
abbrev pub Pair : Type 0
Pair = ℕ × List ℕ

-- The services, where these are the descriptions of the service blocks and the lists of their hosts: block by
-- block, and within a block host by host.
abbrev pub pairs_of : (descriptions : List (List ℕ)) → (lists : List (List ℕ)) → List Pair
pairs_of descriptions lists = flat_map (λ number.
    map (λ host. (host, slice_index_or descriptions number [])) (slice_index_or lists number []))
    (range_with_len 0 (length lists))

-- whether a service is the one of that host and description
abbrev pub is_pair : (host : ℕ) → (description : List ℕ) → Pair → Bool
is_pair host description pair = pair.0 == host && bytes_eq pair.1 description

-- Its place among them: the first, where there are several.
abbrev pub service_number : List Pair → (host : ℕ) → (description : List ℕ) → Option ℕ
service_number pairs host description = position (is_pair host description) pairs
