-- Lists that are kept one after another in one list.
use Rattle.std.proofs.Common.{◌≡◌, ℕ, zero, suc, ◌+◌, ◌<◌, ◌≤◌, List, [], ◌∷◌, length, get_or, refl, arith}
use Rattle.std.specs.Prelude.{slice_range}
use Rattle.graph.specs.Lists.{parts, AreStarts}

pub length-parts : {X : Type 0} (starts : List ℕ) (xs : List X) (len : ℕ) → AreStarts starts len → length (parts starts xs) + 1 ≡ length starts
length-parts [] xs len rising = absurd rising
length-parts (start ∷ []) xs len rising = refl
length-parts (start ∷ end ∷ more) xs len rising = omega (arith, length-parts (end ∷ more) xs len rising.2)

pub get_or-parts : {X : Type 0} (starts : List ℕ) (xs : List X) (k : ℕ) → k + 1 < length starts
    → get_or (parts starts xs) k [] ≡ slice_range xs (get_or starts k 0) (get_or starts (k + 1) 0)
get_or-parts [] xs k within = absurd (omega arith)
get_or-parts (start ∷ []) xs k within = absurd (omega arith)
get_or-parts (start ∷ end ∷ more) xs zero within = refl
get_or-parts (start ∷ end ∷ more) xs (suc k) within = let next : suc k + 1 ≡ suc (k + 1) = omega arith in rw next (get_or-parts (end ∷ more) xs k (omega arith))

pub starts-rise : (starts : List ℕ) (len k : ℕ) → AreStarts starts len → k + 1 < length starts
    → (get_or starts k 0 ≤ get_or starts (k + 1) 0) × (get_or starts (k + 1) 0 ≤ len)
starts-rise [] len k rising within = absurd rising
starts-rise (start ∷ []) len k rising within = absurd (omega arith)
starts-rise (start ∷ end ∷ more) len zero rising within = (rising.0, rising.1)
starts-rise (start ∷ end ∷ more) len (suc k) rising within = let next : suc k + 1 ≡ suc (k + 1) = omega arith in rw next (starts-rise (end ∷ more) len k rising.2 (omega arith))
