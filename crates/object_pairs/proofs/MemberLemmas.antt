-- The services that members name, where they are pairs and where they aren't.
use Rattle.std.proofs.Common.{◌≡◌, ℕ, List, [], Option, Some, None, ap, ◌∙◌}
use Rattle.std.specs.Prelude.{filter_map, unwrap_or}
use Rattle.std.specs.Option.{option_map}
use Rattle.object_services.specs.claims.Numbers.{Pair}
use Rattle.object_pairs.specs.claims.Members.{place_of_pair, places_of}
use Rattle.object_pairs.specs.claims.Pairs.{by_two, NamedPair}

pub places-odd : (hosts : List (List ℕ)) (services : List Pair) (members : List (List ℕ)) (places : List ℕ) → places ≡ [] → None ≡ by_two members → places ≡ places_of hosts services members
places-odd hosts services members places none is =
    none ∙ ap (λ (given : Option (List NamedPair)). unwrap_or (option_map (filter_map (place_of_pair hosts services)) given) []) is

pub places-pairs : (hosts : List (List ℕ)) (services : List Pair) (members : List (List ℕ)) (pairs : List NamedPair) (places : List ℕ)
    → Some pairs ≡ by_two members → places ≡ filter_map (place_of_pair hosts services) pairs → places ≡ places_of hosts services members
places-pairs hosts services members pairs places is are =
    are ∙ ap (λ (given : Option (List NamedPair)). unwrap_or (option_map (filter_map (place_of_pair hosts services)) given) []) is
