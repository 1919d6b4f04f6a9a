-- The names of a command line.
use Rattle.std.specs.Prelude.{ℕ, ◌≢◌, List, EachIndex, slice_index}

-- the byte stands nowhere in the text
abbrev pub Lacks : (byte : ℕ) → List ℕ → Type 0
Lacks byte text = EachIndex text (λ i. slice_index text i ≢ byte)
