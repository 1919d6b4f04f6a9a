-- The index of the objects' names: how it grows by an object, and that a look-up in one bucket finds what
-- a look-up among all objects does.
use Rattle.std.proofs.Common.{◌≡◌, ℕ, zero, suc, ◌+◌, ◌%◌, ◌<◌, ◌≤◌, Bool, true, false, cond, eqb, List, [], ◌∷◌, ◌++◌, length, map, get_or, set, replicate, Option, None, Some, refl, sym, ap, ◌∙◌, ⊎_elim, arith}
use Rattle.std.specs.Prelude.{slice_get, find, filter, ◌&&◌}
use Rattle.std.specs.Option.{option_map, option_map_or}
use Rattle.std.specs.List.{position_from, range_with_len}
use Rattle.std.specs.Str.{bytes_eq}
use Rattle.std.proofs.lemmas.Bool.{and_parts, cases_eq, ne_eqb, eq-eqb}
use Rattle.std.proofs.lemmas.Nat.{mod_below}
use Rattle.std.proofs.lemmas.List.{length-replicate, length-set, get_or-set_other, append-nil, get_or-map}
use Rattle.std.proofs.lemmas.Option.{slice_get-map, slice_get_cases}
use Rattle.std.proofs.lemmas.List.FromFn.{filter_of_map_range_with_len_more}
use Rattle.std.proofs.lemmas.Iterator.Adapters.{position_from-zero}
use Rattle.std.proofs.lemmas.Grind.{get_or-set_at}
use Rattle.std.proofs.lemmas.Slice.Eq.{bytes_eq-Decides}
use Rattle.due_model.specs.declared.config.Object.{Object}
use Rattle.due_model.specs.declared.config.ObjectId.{ObjectId}
use Rattle.due_model.specs.claims.Objects.{object_id, has_name_at, is_called, is_named, object_named}
use Rattle.due_model.specs.Objects.{is_named_at, name_hash, called_hash, object_hash, is_in_bucket, ids_below, IsIndexUpTo, has_hash_at, is_hashed_name}

pub get_or-replicate_nil : {A : Type 0} (n k : ℕ) → get_or (replicate {A = List A} n []) k [] ≡ []
get_or-replicate_nil zero k = refl
get_or-replicate_nil (suc n) zero = refl
get_or-replicate_nil (suc n) (suc k) = get_or-replicate_nil n k

-- a look-up among the elements that pass a weaker test finds the same
pub find-filter : {X : Type 0} (p q : X → Bool) → ((x : X) → p x ≡ true → q x ≡ true) → (xs : List X) → find p (filter q xs) ≡ find p xs
find-filter p q weaker [] = refl
find-filter {X} p q weaker (x ∷ xs) =
    let same : find p (filter q xs) ≡ find p xs = find-filter p q weaker xs in
    elim (q x) as (λ b. q x ≡ b → find p (cond b (x ∷ filter q xs) (filter q xs)) ≡ cond (p x) (Some x) (find p xs)) [
      | true ↦ λ kept. ap (λ (r : Option X). cond (p x) (Some x) r) same
      | false ↦ λ left. elim (p x) as (λ b. p x ≡ b → find p (filter q xs) ≡ cond b (Some x) (find p xs)) [
        | true ↦ λ named. absurd (let kept : q x ≡ true = weaker x named in cc)
        | false ↦ λ other. same
      ] refl
    ] refl

-- a look-up among the places, by a test of what stands there
pub find-places : {X : Type 0} (f : ℕ → ObjectId) (p : ObjectId → Bool) (q : X → Bool) (start : ℕ) (xs : List X)
    → ((k : ℕ) (x : X) → slice_get xs k ≡ Some x → p (f (start + k)) ≡ q x)
    → find p (map f (range_with_len start (length xs))) ≡ option_map f (position_from q start xs)
find-places f p q start [] same = refl
find-places f p q start (x ∷ xs) same =
    let here : p (f start) ≡ q x = let none : start + 0 ≡ start = omega arith in rw none at (same 0 x refl) in
    let rest : find p (map f (range_with_len (start + 1) (length xs))) ≡ option_map f (position_from q (start + 1) xs) =
    find-places f p q (start + 1) xs (λ k y at. let shift : (start + 1) + k ≡ start + suc k = omega arith in rw shift (same (suc k) y at)) in
    rw (here, rest) (elim (q x) as (λ b. cond b (Some (f start)) (option_map f (position_from q (start + 1) xs)) ≡ option_map f (cond b (Some start) (position_from q (start + 1) xs))) [ true ↦ refl | false ↦ refl ])

pub IsIndexUpTo-none : (objects : List Object) (buckets : ℕ) → 0 < buckets → IsIndexUpTo objects 0 (replicate buckets [])
IsIndexUpTo-none objects buckets some = record {
  some = rw (length-replicate {A = List ObjectId} buckets []) some;
  each = λ bucket _. get_or-replicate_nil buckets bucket;
}

-- a bucket after an object went to the end of one
pushed : (buckets : List (List ObjectId)) (bucket at : ℕ) (id : ObjectId) → at < length buckets
    → get_or (set buckets bucket (get_or buckets bucket [] ++ id ∷ [])) at [] ≡ get_or buckets at [] ++ cond (eqb bucket at) (id ∷ []) []
pushed buckets bucket at id within =
    ⊎_elim
    (λ (same : at ≡ bucket). let yes : eqb bucket at ≡ true = eq-eqb bucket at (sym same) in
    rw (get_or-set_at buckets bucket at (get_or buckets bucket [] ++ id ∷ []) [] same (omega arith), yes, same) refl)
    (λ (other : at ≡ bucket → ⊥). let no : eqb bucket at ≡ false = ne_eqb bucket at (λ e. other (sym e)) in
    rw (get_or-set_other buckets bucket at (get_or buckets bucket [] ++ id ∷ []) [] other, no, append-nil (get_or buckets at [])) refl)
    (cases_eq at bucket)

-- one more object goes to the end of its bucket
pub IsIndexUpTo-more : (objects : List Object) (count : ℕ) (buckets : List (List ObjectId)) (object : Object) (bucket : ℕ)
    → IsIndexUpTo objects count buckets → slice_get objects count ≡ Some object → bucket ≡ object_hash objects object % length buckets
    → IsIndexUpTo objects (count + 1) (set buckets bucket (get_or buckets bucket [] ++ object_id count ∷ []))
IsIndexUpTo-more objects count buckets object bucket index here leads =
    let long : length (set buckets bucket (get_or buckets bucket [] ++ object_id count ∷ [])) ≡ length buckets = length-set buckets bucket _ in
    record {
      some = rw long index.some;
      each = λ at within. rw long (
          let within' : at < length buckets = omega (arith, long) in
          let test : is_in_bucket objects (length buckets) at (object_id count) ≡ eqb bucket at = rw (here, leads) refl in
          let more : filter (is_in_bucket objects (length buckets) at) (ids_below (count + 1))
          ≡ filter (is_in_bucket objects (length buckets) at) (ids_below count) ++ cond (eqb bucket at) (object_id count ∷ []) [] =
          filter_of_map_range_with_len_more (is_in_bucket objects (length buckets) at) object_id 0 count count (omega arith)
          ∙ ap (λ b. filter (is_in_bucket objects (length buckets) at) (ids_below count) ++ cond b (object_id count ∷ []) []) test in
          pushed buckets bucket at (object_id count) within' ∙ ap (λ front. front ++ cond (eqb bucket at) (object_id count ∷ []) []) (index.each at within') ∙ sym more);
    }

owner_hash : (host name : List ℕ) (owner : Option Object) → option_map_or (λ object. bytes_eq object.name host) owner false ≡ true
    → option_map_or (λ object. name_hash object.name (Some name)) owner 0 ≡ name_hash host (Some name)
owner_hash host name None named = cc
owner_hash host name (Some object) named = ap (λ (h : List ℕ). name_hash h (Some name)) ((bytes_eq-Decides object.name host).0 named)

called_hash-is : (objects : List Object) (host : List ℕ) (service : Option (List ℕ)) (owner : Option ObjectId) (name : List ℕ)
    → is_called objects host service owner name ≡ true → called_hash objects owner name ≡ name_hash host service
called_hash-is objects host None None name named = ap (λ (h : List ℕ). name_hash h None) ((bytes_eq-Decides name host).0 named)
called_hash-is objects host None (Some id) name named = cc
called_hash-is objects host (Some service) None name named = cc
called_hash-is objects host (Some service) (Some id) name named =
    let parts : (has_name_at objects host id ≡ true) × (bytes_eq name service ≡ true) = and_parts _ _ named in
    let own : name ≡ service = (bytes_eq-Decides name service).0 parts.1 in
    owner_hash host name (slice_get objects id.0) parts.0 ∙ ap (λ (n : List ℕ). name_hash host (Some n)) own

-- the same, where the hashes are kept
pub IsIndexUpTo-hashed : (objects : List Object) (count : ℕ) (buckets : List (List ObjectId)) (hashes : List ℕ) (bucket : ℕ)
    → IsIndexUpTo objects count buckets → count < length objects → hashes ≡ map (object_hash objects) objects → bucket ≡ get_or hashes count 0 % length buckets
    → IsIndexUpTo objects (count + 1) (set buckets bucket (get_or buckets bucket [] ++ object_id count ∷ []))
IsIndexUpTo-hashed objects count buckets hashes bucket index within kept leads =
    ⊎_elim
    (λ (here : (x : Object) × (count < length objects) × (slice_get objects count ≡ Some x) × (get_or objects count x ≡ x)).
    let hash : get_or hashes count 0 ≡ object_hash objects here.0 =
    ap (λ (all : List ℕ). get_or all count 0) kept ∙ get_or-map (object_hash objects) objects count here.0 0 within ∙ ap (object_hash objects) here.3 in
    IsIndexUpTo-more objects count buckets here.0 bucket index here.2 (leads ∙ ap (λ h. h % length buckets) hash))
    (λ (past : (length objects ≤ count) × (slice_get objects count ≡ None)). absurd (omega (arith, past.0, within)))
    (slice_get_cases objects count).1

-- an object of the name has the name's hash
pub object_hash-named : (objects : List Object) (host : List ℕ) (service : Option (List ℕ)) (object : Object)
    → is_named objects host service object ≡ true → object_hash objects object ≡ name_hash host service
object_hash-named objects host service object named = called_hash-is objects host service object.host object.name named

at_named : (objects : List Object) (host : List ℕ) (service : Option (List ℕ)) (buckets bucket : ℕ) (found : Option Object)
    → bucket ≡ name_hash host service % buckets
    → option_map_or (is_named objects host service) found false ≡ true
    → option_map_or (λ object. eqb (object_hash objects object % buckets) bucket) found false ≡ true
at_named objects host service buckets bucket None leads named = cc
at_named objects host service buckets bucket (Some object) leads named =
    eq-eqb _ _ (ap (λ h. h % buckets) (object_hash-named objects host service object named) ∙ sym leads)

-- the name's bucket is enough to look in
pub find-bucket : (objects : List Object) (buckets : List (List ObjectId)) (host : List ℕ) (service : Option (List ℕ)) (bucket : ℕ)
    → IsIndexUpTo objects (length objects) buckets → bucket ≡ name_hash host service % length buckets
    → find (is_named_at objects host service) (get_or buckets bucket []) ≡ object_named objects host service
find-bucket objects buckets host service bucket index leads =
    let within : bucket < length buckets = rw leads (mod_below (name_hash host service) (length buckets) index.some) in
    ap (λ (ids : List ObjectId). find (is_named_at objects host service) ids) (index.each bucket within)
    ∙ find-filter (is_named_at objects host service) (is_in_bucket objects (length buckets) bucket)
    (λ id named. at_named objects host service (length buckets) bucket (slice_get objects id.0) leads named) (ids_below (length objects))
    ∙ find-places object_id (is_named_at objects host service) (is_named objects host service) 0 objects
    (λ k object here. let none : 0 + k ≡ k = omega arith in rw (none, here) refl)
    ∙ ap (λ (place : Option ℕ). option_map object_id place) (sym (position_from-zero (is_named objects host service) objects))

-- ---- hashes that are kept

-- a look-up by a test that is tried only where a weaker one passes
pub find-also : {X : Type 0} (p q : X → Bool) → ((x : X) → p x ≡ true → q x ≡ true) → (xs : List X) → find (λ x. q x && p x) xs ≡ find p xs
find-also p q weaker [] = refl
find-also {X} p q weaker (x ∷ xs) =
    let same : find (λ y. q y && p y) xs ≡ find p xs = find-also p q weaker xs in
    elim (p x) as (λ b. p x ≡ b → cond (q x && b) (Some x) (find (λ y. q y && p y) xs) ≡ cond b (Some x) (find p xs)) [
      | true ↦ λ named. let kept : q x ≡ true = weaker x named in rw kept refl
      | false ↦ λ other. elim (q x) as (λ d. cond (d && false) (Some x) (find (λ y. q y && p y) xs) ≡ find p xs) [ true ↦ same | false ↦ same ]
    ] refl

hash_at : (objects : List Object) (host : List ℕ) (service : Option (List ℕ)) (found : Option Object)
    → option_map_or (is_named objects host service) found false ≡ true
    → option_map_or (λ hash. eqb hash (name_hash host service)) (option_map (object_hash objects) found) false ≡ true
hash_at objects host service None named = cc
hash_at objects host service (Some object) named = eq-eqb _ _ (object_hash-named objects host service object named)

-- an object of the name has the name's hash among those that are kept
pub has_hash-named : (objects : List Object) (hashes : List ℕ) (host : List ℕ) (service : Option (List ℕ)) (hash : ℕ) (id : ObjectId)
    → hashes ≡ map (object_hash objects) objects → hash ≡ name_hash host service → is_named_at objects host service id ≡ true → has_hash_at hashes hash id ≡ true
has_hash-named objects hashes host service hash id kept is named =
    rw (kept, is, slice_get-map) (hash_at objects host service (slice_get objects id.0) named)

pub find-hashed : (objects : List Object) (hashes : List ℕ) (hash : ℕ) (host : List ℕ) (service : Option (List ℕ)) (ids : List ObjectId)
    → hashes ≡ map (object_hash objects) objects → hash ≡ name_hash host service
    → find (is_hashed_name objects hashes hash host service) ids ≡ find (is_named_at objects host service) ids
find-hashed objects hashes hash host service ids kept is =
    find-also (is_named_at objects host service) (has_hash_at hashes hash) (λ id named. has_hash-named objects hashes host service hash id kept is named) ids
