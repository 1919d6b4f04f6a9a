-- Which blocks objects come from.
use Rattle.std.proofs.Common.{◌≡◌, ℕ, ◌+◌, ◌<◌, List, [], ◌∷◌, ◌++◌, append_assoc, length, map, take, get_or, flat_map, sym, ap, ◌∙◌}
use Rattle.std.specs.List.{range_with_len}
use Rattle.std.proofs.lemmas.List.{map_more}
use Rattle.lemmas.proofs.Numbers.{flat_range_more}
use Rattle.value_places.specs.Origins.{origins_of, service_origin, services_at}
use Rattle.value_places.specs.declared.origins.Origin.{Origin}

-- one more of what f gives
pub made-more : {A : Type 0} (f : ℕ → A) (places : List ℕ) (i : ℕ) (old mid new : List A) (made : A) → i < length places → mid ≡ old ++ map f (take i places)
    → made ≡ f (get_or places i 0) → new ≡ mid ++ made ∷ [] → new ≡ old ++ map f (take (i + 1) places)
made-more {A} f places i old mid new made within so_far is more =
    more ∙ ap (λ (x : A). mid ++ x ∷ []) is ∙ ap (λ (xs : List A). xs ++ f (get_or places i 0) ∷ []) so_far
    ∙ append_assoc old (map f (take i places)) (f (get_or places i 0) ∷ []) ∙ ap (λ (xs : List A). old ++ xs) (sym (map_more f places i 0 within))

-- the services of one block more
pub services-more : (hosts places : List ℕ) (lists : List (List ℕ)) (number : ℕ) (old mid new : List Origin) (place : ℕ) (numbers : List ℕ)
    → mid ≡ old ++ flat_map (services_at hosts places lists) (range_with_len 0 number) → place ≡ get_or places number 0 → numbers ≡ get_or lists number []
    → new ≡ mid ++ map (service_origin hosts place) numbers → new ≡ old ++ flat_map (services_at hosts places lists) (range_with_len 0 (number + 1))
services-more hosts places lists number old mid new place numbers so_far here these more =
    let at : ℕ → List Origin = services_at hosts places lists in
    more ∙ ap (λ (p : ℕ). mid ++ map (service_origin hosts p) numbers) here ∙ ap (λ (ns : List ℕ). mid ++ map (service_origin hosts (get_or places number 0)) ns) these
    ∙ ap (λ (xs : List Origin). xs ++ at number) so_far ∙ append_assoc old (flat_map at (range_with_len 0 number)) (at number)
    ∙ ap (λ (xs : List Origin). old ++ xs) (sym (flat_range_more at number))

-- of hosts and services that are the same
pub origins-same : (hosts others services rest : List ℕ) (lists : List (List ℕ)) (origins : List Origin) → hosts ≡ others → services ≡ rest → origins ≡ origins_of hosts services lists
    → origins ≡ origins_of others rest lists
origins-same hosts others services rest lists origins same alike are =
    are ∙ ap (λ (places : List ℕ). origins_of places services lists) same ∙ ap (λ (places : List ℕ). origins_of others places lists) alike
