-- What the directives of a block say (chapter "Object Definitions").
use Rattle.std.specs.Prelude.{ℕ, ◌-◌, List, map}
use Rattle.std.proofs.Common.{Bor}

-- what borrowed texts hold
abbrev pub texts : List (Bor (List ℕ)) → List (List ℕ)
texts borrowed = map (λ text. text.now) borrowed
