-- What an accepted configuration asks of dependencies.
use Rattle.std.proofs.Common.{◌≡◌, ℕ, zero, suc, ◌+◌, ◌<◌, List, [], ◌∷◌, length, get_or, Option, Some, None, sym, ap, subst, ◌∙◌, arith}
use Rattle.std.specs.Prelude.{All, codes, Contains, unwrap_or}
use Rattle.std.specs.List.{AllZip, range_with_len}
use Rattle.std.specs.Option.{IfSome, option_map}
use Rattle.std.proofs.lemmas.List.Elements.{Contains-get_or}
use Rattle.graph.specs.claims.Chains.{Chain}
use Rattle.lemmas.proofs.Elements.{Contains-from_flat_map, Contains-from_map, Contains-from_range}
use Rattle.due_model.specs.claims.Accepted.{DependencyFits, DependsOn}
use Rattle.due_model.specs.declared.config.Dependency.{Dependency}
use Rattle.object_inheritance.specs.claims.Inherited.{name}
use Rattle.object_reached.specs.declared.roles.Role.TheVariants.{Dependent, Master}
use Rattle.object_reached.specs.Laws.{SpokenAreObjects}
use Rattle.object_reader.specs.declared.block.Block.{Block}
use Rattle.object_listing.specs.claims.Readings.{period_named}
use Rattle.object_listing.specs.ReadingLaws.{period-few}
use Rattle.object_dependencies.specs.claims.Entries.{AreDependencies, entries_at, entry_of, terms_at}
use Rattle.object_dependencies.specs.Laws.{DependenciesFit, NoLoopIsLeft}
use Rattle.object_dependencies.specs.claims.Loops.{Depends}
use Rattle.object_dependencies.specs.claims.Pairs.{ArePairs, DependsAt, Pair}

-- ---- an entry comes of a pair of a block

-- where lists are related to a range of numbers
zip-range : (R : ℕ → List Pair → Type 0) (first n : ℕ) (parts : List (List Pair)) (k : ℕ) → AllZip R (range_with_len first n) parts → k < n → R (first + k) (get_or parts k [])
zip-range R first zero parts k all low = absurd (omega (arith, low))
zip-range R first (suc n) [] k all low = absurd all
zip-range R first (suc n) (p ∷ parts) zero all low = let sum : first ≡ first + 0 = omega arith in subst (λ m. R m p) sum all.0
zip-range R first (suc n) (p ∷ parts) (suc k) all low =
    let sum : first + 1 + k ≡ first + suc k = omega arith in
    subst (λ m. R m (get_or parts k [])) sum (zip-range R (first + 1) n parts k all.1 (omega (arith, low)))

module _ (blocks : List Block) (lists periods : List (List ℕ)) (dependencies : List Dependency) (are : AreDependencies blocks lists periods dependencies) where
  -- each entry: its block and its pair
  pub comes-of : (d : Dependency) → Contains dependencies d → (place : ℕ) × (pair : Pair) × DependsAt blocks lists place pair.0 pair.1 × (d ≡ entry_of (terms_at blocks periods place) pair)
  comes-of d at =
      let on = Contains-from_flat_map (entries_at blocks periods are.0) (range_with_len 0 (length blocks)) d (subst (λ (ds : List Dependency). Contains ds d) are.2 at) in
      let low : on.0 < length blocks = Contains-from_range (length blocks) on.0 on.1 in
      let of = Contains-from_map (entry_of (terms_at blocks periods on.0)) (get_or are.0 on.0 []) d on.2 in
      let sum : 0 + on.0 ≡ on.0 = omega arith in
      let here : ArePairs blocks lists on.0 (get_or are.0 on.0 []) = subst (λ m. ArePairs blocks lists m (get_or are.0 on.0 [])) sum
      (zip-range (ArePairs blocks lists) 0 (length blocks) are.0 on.0 are.1 low) in
      (on.0, of.0, (here.exactly of.0.0 of.0.1).0 of.1, sym of.2)

-- ---- they fit

given-few : (periods : List (List ℕ)) (given : Option (List ℕ)) → IfSome (unwrap_or (option_map (period_named periods) given) None) (λ p. p.0 < length periods)
given-few periods None = tt
given-few periods (Some text) = period-few periods text

pub dependencies-fit : SpokenAreObjects → DependenciesFit
dependencies-fit law blocks lists periods c lists_are objects_are periods_are are =
    All-of c.dependencies (λ d at. fits d (comes-of blocks lists periods c.dependencies are d at))
  where
    All-of : (ds : List Dependency) → ((d : Dependency) → Contains ds d → DependencyFits c d) → All (DependencyFits c) ds
    All-of ds each = λ k d below. each (get_or ds k d) (Contains-get_or ds k d below)

    made : (place : ℕ) (pair : Pair) → DependsAt blocks lists place pair.0 pair.1 → DependencyFits c (entry_of (terms_at blocks periods place) pair)
    made place pair at = record {
      dependent = (let low = law blocks lists Dependent place pair.0 at.1 in omega (arith, low, objects_are));
      master = (let low = law blocks lists Master place pair.1 at.2 in omega (arith, low, objects_are));
      period = subst (λ (n : ℕ). IfSome ((terms_at blocks periods place).period) (λ p. p.0 < n)) (sym periods_are) (given-few periods (name blocks (codes "dependency_period") place));
    }

    fits : (d : Dependency) → (place : ℕ) × (pair : Pair) × DependsAt blocks lists place pair.0 pair.1 × (d ≡ entry_of (terms_at blocks periods place) pair) → DependencyFits c d
    fits d (place, pair, at, is) = subst (DependencyFits c) (sym is) (made place pair at)

-- ---- no loop is left

pub no-loop-left : NoLoopIsLeft
no-loop-left blocks lists periods c are none steps p (q, step, rest) =
    let first = depends p q step in none first.0 (p, q, first.1, (steps, chain-of steps q p rest))
  where
    depends : (p q : ℕ) → DependsOn c p q → Depends blocks lists p q
    depends p q (d, at, dependent, master) =
        let of = comes-of blocks lists periods c.dependencies are d at in
        let one : of.1.0 ≡ p = sym (ap (λ (e : Dependency). e.dependent.0) of.3) ∙ dependent in
        let other : of.1.1 ≡ q = sym (ap (λ (e : Dependency). e.master.0) of.3) ∙ master in
        (of.0, subst (λ n. DependsAt blocks lists of.0 n q) one (subst (λ n. DependsAt blocks lists of.0 of.1.0 n) other of.2))

    chain-of : (steps p q : ℕ) → Chain (DependsOn c) steps p q → Chain (Depends blocks lists) steps p q
    chain-of zero p q same = same
    chain-of (suc steps) p q (middle, step, rest) = (middle, depends p middle step, chain-of steps middle q rest)
