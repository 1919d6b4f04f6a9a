-- Entries of a list, two by two.
use Rattle.std.specs.Prelude.{ℕ, List, map}
use Rattle.std.proofs.Common.{Bor}
use Rattle.object_pairs.specs.claims.Pairs.{NamedPair}

-- what borrowed pairs are
abbrev pub pairs_in : List (Bor (List ℕ) × Bor (List ℕ)) → List NamedPair
pairs_in borrowed = map (λ pair. (pair.0.now, pair.1.now)) borrowed
