-- Laws of the hosts that service blocks give, and of the services.
use Rattle.std.proofs.Common.{[], ap, length, List, map, refl, ℕ, ◌∙◌, ◌∷◌, ◌≡◌}
use Rattle.std.specs.Prelude.{slice_index_or}
use Rattle.std.specs.List.{sum_by}
use Rattle.std.proofs.lemmas.List.{length-map}
use Rattle.lemmas.proofs.Numbers.{all-count}
use Rattle.object_listing.specs.ListingLaws.{those-one}
use Rattle.object_reader.specs.declared.block.Block.{Block}
use Rattle.object_services.specs.claims.Hosts.{HasHost}
use Rattle.object_services.specs.claims.Limits.{AreHostLists}
use Rattle.object_services.specs.claims.Numbers.{Pair, pairs_of}

pub hosts-one : (blocks : List Block) (places : List ℕ) (one other : List (List ℕ)) → AreHostLists blocks places one → AreHostLists blocks places other → one ≡ other
hosts-one blocks [] [] [] a b = refl
hosts-one blocks [] [] (y ∷ ys) a b = absurd b
hosts-one blocks [] (x ∷ xs) ys a b = absurd a
hosts-one blocks (p ∷ ps) [] ys a b = absurd a
hosts-one blocks (p ∷ ps) (x ∷ xs) [] a b = absurd b
hosts-one blocks (p ∷ ps) (x ∷ xs) (y ∷ ys) a b =
    ap (λ (hosts : List ℕ). hosts ∷ xs) (those-one (HasHost blocks p) x y a.0 b.0) ∙ ap (λ (lists : List (List ℕ)). y ∷ lists) (hosts-one blocks ps xs ys a.1 b.1)

pub pairs-count : (names lists : List (List ℕ)) → length (pairs_of names lists) ≡ sum_by length lists
pairs-count names lists = all-count (λ number. map (λ host. (host, slice_index_or names number [])) (slice_index_or lists number [])) lists
    (λ n. length-map {B = Pair} (slice_index_or lists n []) (λ host. (host, slice_index_or names n [])))
