-- Laws of pairs of a dependent and a master.
use Rattle.std.proofs.Common.{[], ap, List, map, subst, sym, ℕ, ⊎_elim, ◌++◌, ◌∷◌, ◌≡◌}
use Rattle.std.proofs.lemmas.List.Concat.{flat_map-cons}
use Rattle.std.specs.Prelude.{Contains}
use Rattle.std.proofs.lemmas.List.Elements.{Contains-append_cases, Contains-append_left, Contains-append_right}
use Rattle.lemmas.proofs.Elements.{Contains-cases, Contains-from_map, Contains-here, Contains-later, Contains-map, Contains-none}
use Rattle.object_dependencies.specs.claims.Pairs.{Pair}
use Rattle.object_dependencies.specs.Pairs.{paired}

pub paired-cons : (d : ℕ) (ds ms : List ℕ) → paired (d ∷ ds) ms ≡ map (λ master. (d, master)) ms ++ paired ds ms
paired-cons d ds ms = flat_map-cons (λ dependent. map (λ master. (dependent, master)) ms) d ds

pub paired-from : (ds ms : List ℕ) (p : Pair) → Contains (paired ds ms) p → Contains ds p.0 × Contains ms p.1
paired-from [] ms p at = absurd (Contains-none p at)
paired-from (x ∷ ds) ms p at = ⊎_elim
    (λ (here : Contains (map (λ master. (x, master)) ms) p).
    let on = Contains-from_map (λ master. (x, master)) ms p here in
    (subst (λ (y : ℕ). Contains (x ∷ ds) y) (ap (λ (q : Pair). q.0) on.2) (Contains-here x ds), subst (λ (y : ℕ). Contains ms y) (ap (λ (q : Pair). q.1) on.2) on.1))
    (λ (later : Contains (paired ds ms) p). let more = paired-from ds ms p later in (Contains-later x p.0 ds more.0, more.1))
    (Contains-append_cases (map (λ master. (x, master)) ms) (paired ds ms) p (subst (λ (ps : List Pair). Contains ps p) (paired-cons x ds ms) at))

pub paired-has : (ds ms : List ℕ) (p : Pair) → Contains ds p.0 → Contains ms p.1 → Contains (paired ds ms) p
paired-has [] ms p at on = absurd (Contains-none p.0 at)
paired-has (x ∷ ds) ms p at on = subst (λ (ps : List Pair). Contains ps p) (sym (paired-cons x ds ms)) (⊎_elim
    (λ (here : x ≡ p.0). Contains-append_left (map (λ master. (x, master)) ms) (paired ds ms) p
    (subst (λ (y : ℕ). Contains (map (λ master. (y, master)) ms) p) (sym here) (Contains-map (λ master. (p.0, master)) ms p.1 on)))
    (λ (later : Contains ds p.0). Contains-append_right (map (λ master. (x, master)) ms) (paired ds ms) p (paired-has ds ms p later on))
    (Contains-cases x p.0 ds at))
