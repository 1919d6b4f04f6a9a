-- Objects by name (chapter "Object Definitions"): a host has a name, and a service has a description
-- and the name of its host.
use Rattle.std.specs.Prelude.{◌≡◌, ℕ, ◌-◌, ◌/◌, ◌%◌, ◌*◌, ◌^◌, ◌<◌, Bool, false, ◌&&◌, ◌==◌, List, [], length, map, drop, filter, fold, bit_xor, nat_lt, if◌then◌else◌, Option, None, Some, slice_get, slice_index_or}
use Rattle.std.specs.Int.{from_le_bytes, w64}
use Rattle.std.specs.Option.{option_map_or}
use Rattle.std.specs.List.{range_with_len}
use Rattle.std.specs.Simd.{first_chunks}
use Rattle.due_model.specs.declared.config.Object.{Object}
use Rattle.due_model.specs.declared.config.ObjectId.{ObjectId}
use Rattle.due_model.specs.claims.Objects.{object_id, is_named}

-- the same of the object of this number
abbrev pub is_named_at : List Object → List ℕ → Option (List ℕ) → ObjectId → Bool
is_named_at objects host service id =
    option_map_or (is_named objects host service) (slice_get objects id.0) false

-- ---- how an index of the names is kept

-- a number of 128 bits, one half of them laid upon the other
abbrev pub folded : ℕ → ℕ
folded product = bit_xor (product % 2 ^ 64) (product / 2 ^ 64 % 2 ^ 64)

-- a word, mixed into a hash
abbrev pub mixed : ℕ → ℕ → ℕ
mixed hash word = folded (bit_xor hash word * 11400714819323198485 % 2 ^ 128)

-- a hash of the bytes, going on from another: fewer than eight one by one, else eight by eight, and then the last eight
unfoldable pub hash_of : ℕ → List ℕ → ℕ
hash_of seed bytes =
    if nat_lt (length bytes) 8 then fold mixed seed bytes
    else mixed
    (fold (λ hash word. mixed hash (from_le_bytes w64 word)) seed
    (first_chunks 8 (length bytes / 8) bytes))
    (from_le_bytes w64 (drop (length bytes - 8) bytes))

-- the hash of a name: of the host's name and, for a service, of a mark that parts it from the description, and of that
abbrev pub name_hash : List ℕ → Option (List ℕ) → ℕ
name_hash host None = hash_of 14695981039346656037 host
name_hash host (Some service) =
    hash_of (bit_xor (hash_of 14695981039346656037 host) 255) service

-- the hash of an object's name, given its host and its own name; a service whose host isn't in the list
-- has no name
abbrev pub called_hash : List Object → Option ObjectId → List ℕ → ℕ
called_hash objects None name = name_hash name None
called_hash objects (Some id) name =
    option_map_or (λ host. name_hash host.name (Some name)) (slice_get objects id.0) 0

abbrev pub object_hash : List Object → Object → ℕ
object_hash objects object = called_hash objects object.host object.name

-- whether this is the hash of that number
abbrev pub has_hash_at : List ℕ → ℕ → ObjectId → Bool
has_hash_at hashes hash id = option_map_or (λ found. found == hash) (slice_get hashes id.0) false

-- the object of this number has the hash and the name
abbrev pub is_hashed_name : List Object → List ℕ → ℕ → List ℕ → Option (List ℕ) → ObjectId → Bool
is_hashed_name objects hashes hash host service id =
    has_hash_at hashes hash id && is_named_at objects host service id

-- whether the object of this number goes into this bucket
abbrev pub is_in_bucket : List Object → ℕ → ℕ → ObjectId → Bool
is_in_bucket objects buckets bucket id =
    option_map_or (λ object. (object_hash objects object % buckets) == bucket)
    (slice_get objects id.0) false

-- the numbers below this one, in order
abbrev pub ids_below : ℕ → List ObjectId
ids_below count = map object_id (range_with_len 0 count)

-- each bucket lists, in order, the numbers below `count` of the objects whose hash leads to it
pub record IsIndexUpTo (objects : List Object) (count : ℕ)
    (buckets : List (List ObjectId)) : Type 0 where
  pub some : 0 < length buckets
  pub each : (bucket : ℕ) → bucket < length buckets
      → slice_index_or buckets bucket []
      ≡ filter (is_in_bucket objects (length buckets) bucket) (ids_below count)
