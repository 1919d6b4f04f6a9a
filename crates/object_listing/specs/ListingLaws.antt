-- Laws of lists in number order.
use Rattle.std.proofs.Common.{List, ℕ, ◌≡◌}
use Rattle.std.proofs.lemmas.List.Kept.{AllPairs-from_increasing}
use Rattle.lemmas.proofs.Rising.{rising-one}
use Rattle.object_listing.specs.claims.Listing.{AreThose}

pub those-one : (P : ℕ → Type 0) (xs ys : List ℕ) → AreThose P xs → AreThose P ys → xs ≡ ys
those-one P xs ys one other =
    rising-one xs ys (AllPairs-from_increasing xs one.rising) (AllPairs-from_increasing ys other.rising)
    (λ k. ((λ at. (other.exactly k).1 ((one.exactly k).0 at)), (λ at. (one.exactly k).1 ((other.exactly k).0 at))))
