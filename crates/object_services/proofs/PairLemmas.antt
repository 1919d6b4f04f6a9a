-- The table of services, one service more.
use Rattle.std.proofs.Common.{◌≡◌, ℕ, ◌+◌, ◌<◌, Bool, true, false, cond, ◌&&◌, List, [], ◌∷◌, ◌++◌, append_assoc, length, map, take, get_or, Option, Some, None, refl, sym, ap, eqb, eqb-true, ◌∙◌, Bor}
use Rattle.std.specs.Prelude.{slice_index_or, unwrap_or}
use Rattle.std.specs.List.{flat_map, range_with_len}
use Rattle.std.specs.Map.{lookup}
use Rattle.std.specs.Option.{option_or}
use Rattle.std.specs.Str.{bytes_eq}
use Rattle.std.proofs.lemmas.Bool.{and_parts}
use Rattle.std.proofs.lemmas.Cmp.{nat_list_eq_equiv}
use Rattle.std.specs.HashMap.Eq.{lookup_congr}
use Rattle.std.proofs.lemmas.List.{append-nil, map-append, take_more}
use Rattle.lemmas.proofs.Numbers.{flat_range_more}
use Rattle.lemmas.proofs.Searches.{or-none, position-snoc}
use Rattle.object_services.specs.claims.Numbers.{is_pair, Pair, service_number}
use Rattle.object_services.specs.Numbers.{HasPlaces, Key, key_eq, pairs_in}

key_alike : (x y z : Key) → key_eq x y ≡ true → key_eq x z ≡ key_eq y z
key_alike x y z is =
    let both = and_parts (eqb x.0 y.0) (bytes_eq x.1.now y.1.now) is in
    ap (λ (n : ℕ). eqb n z.0 && bytes_eq x.1.now z.1.now) (eqb-true x.0 y.0 both.0)
    ∙ ap (λ (b : Bool). eqb y.0 z.0 && b) (nat_list_eq_equiv.congr x.1.now y.1.now z.1.now both.1)

module _ (pairs : List Pair) (key : Key) (old : List (Key × ℕ)) (has : HasPlaces pairs old) where
  alike : (other : Key) → key_eq key other ≡ true → lookup (key_eq key) old ≡ service_number pairs other.0 other.1.now
  alike other same = lookup_congr key_eq key_alike old key other same ∙ has other

  one_more : (other : Key) → service_number (pairs ++ (key.0, key.1.now) ∷ []) other.0 other.1.now
      ≡ option_or (service_number pairs other.0 other.1.now) (cond (key_eq key other) (Some (length pairs)) None)
  one_more other = position-snoc (is_pair other.0 other.1.now) pairs (key.0, key.1.now)

  -- it has its place, if none of them has it before
  pub places-entered : (new : List (Key × ℕ)) (place : ℕ) → length pairs ≡ place
      → ((other : Key) → lookup (key_eq other) new ≡ cond (key_eq key other) (Some (unwrap_or (lookup (key_eq key) old) place)) (lookup (key_eq other) old))
      → HasPlaces (pairs ++ (key.0, key.1.now) ∷ []) new
  places-entered new place long updates other = updates other ∙ by_key (key_eq key other) refl ∙ sym (one_more other)
    where
      entered : (found : Option ℕ) → Some (unwrap_or found place) ≡ option_or found (Some (length pairs))
      entered None = ap (λ (n : ℕ). Some n) (sym long)
      entered (Some first) = refl

      by_key : (b : Bool) → key_eq key other ≡ b → cond b (Some (unwrap_or (lookup (key_eq key) old) place)) (lookup (key_eq other) old)
          ≡ option_or (service_number pairs other.0 other.1.now) (cond b (Some (length pairs)) None)
      by_key true same = entered (lookup (key_eq key) old) ∙ ap (λ (found : Option ℕ). option_or found (Some (length pairs))) (alike other same)
      by_key false differs = has other ∙ sym (or-none (service_number pairs other.0 other.1.now))

-- ---- one host more

pub hosts-none : (pairs : List Pair) → pairs ≡ pairs ++ []
hosts-none pairs = sym (append-nil pairs)

pub hosts-more : (first : List Pair) (description : Bor (List ℕ)) (old new : List Key) (hosts : List ℕ) (i d : ℕ) → i < length hosts
    → pairs_in old ≡ first ++ map (λ host. (host, description.now)) (take i hosts) → new ≡ old ++ (get_or hosts i d, description) ∷ []
    → pairs_in new ≡ first ++ map (λ host. (host, description.now)) (take (i + 1) hosts)
hosts-more first description old new hosts i d within before is =
    let each : ℕ → Pair = λ host. (host, description.now) in
    ap pairs_in is ∙ map-append (λ key. (key.0, key.1.now)) old ((get_or hosts i d, description) ∷ [])
    ∙ ap (λ (pairs : List Pair). pairs ++ (get_or hosts i d, description.now) ∷ []) before
    ∙ append_assoc first (map each (take i hosts)) ((get_or hosts i d, description.now) ∷ [])
    ∙ ap (λ (pairs : List Pair). first ++ pairs) (sym (ap (map each) (take_more hosts i d within) ∙ map-append each (take i hosts) (get_or hosts i d ∷ [])))

-- one block more
pub blocks-more : (descriptions lists : List (List ℕ)) (old new : List Pair) (number : ℕ) (hosts : List ℕ) (description : List ℕ)
    → old ≡ flat_map (λ n. map (λ host. (host, slice_index_or descriptions n [])) (slice_index_or lists n [])) (range_with_len 0 number)
    → hosts ≡ slice_index_or lists number [] → description ≡ slice_index_or descriptions number []
    → new ≡ old ++ map (λ host. (host, description)) hosts
    → new ≡ flat_map (λ n. map (λ host. (host, slice_index_or descriptions n [])) (slice_index_or lists n [])) (range_with_len 0 (number + 1))
blocks-more descriptions lists old new number hosts description before hosts_are description_is more =
    let each : ℕ → List Pair = λ n. map (λ host. (host, slice_index_or descriptions n [])) (slice_index_or lists n []) in
    more ∙ ap (λ (pairs : List Pair). pairs ++ map (λ host. (host, description)) hosts) before
    ∙ ap (λ (pairs : List Pair). flat_map each (range_with_len 0 number) ++ pairs)
    (ap (λ (hs : List ℕ). map (λ host. (host, description)) hs) hosts_are ∙ ap (λ (name : List ℕ). map (λ host. (host, name)) (slice_index_or lists number [])) description_is)
    ∙ sym (flat_range_more each number)

-- one service more of those that are there
pub places-more : (keys : List Key) (i : ℕ) (d : Key) → i < length keys → pairs_in (take (i + 1) keys) ≡ pairs_in (take i keys) ++ ((get_or keys i d).0, (get_or keys i d).1.now) ∷ []
places-more keys i d within = ap pairs_in (take_more keys i d within) ∙ map-append (λ key. (key.0, key.1.now)) (take i keys) (get_or keys i d ∷ [])
