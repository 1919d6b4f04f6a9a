-- How many dependencies blocks give: one number, however they are counted; and where they pass their limit.
use Rattle.std.proofs.Common.{◌≡◌, ℕ, zero, suc, ◌+◌, ◌<◌, ◌≤◌, List, [], ◌∷◌, length, take, refl, sym, ap, subst, ◌∙◌, ◌⊎◌, inl, inr, ⊎_elim, arith}
use Rattle.std.specs.Prelude.{AllPairs, Contains, slice_index_or, ◌↔◌}
use Rattle.std.specs.List.{AllZip, range_with_len, sum_by}
use Rattle.std.proofs.lemmas.Bool.{cases_lt}
use Rattle.std.proofs.lemmas.List.{length-map, take_all}
use Rattle.std.proofs.lemmas.List.Elements.{All-contains}
use Rattle.std.proofs.lemmas.List.FromFn.{length-range_with_len}
use Rattle.std.proofs.lemmas.Slice.Zip.{AllZip-long}
use Rattle.lemmas.proofs.Elements.{Contains-cases, Contains-here, Contains-later, Contains-none}
use Rattle.lemmas.proofs.Lists.{AllPairs-head, AllPairs-tail}
use Rattle.lemmas.proofs.Numbers.{below_more, flat-count, sum-more}
use Rattle.lemmas.proofs.Zips.{without-last}
use Rattle.due_model.specs.claims.Limits.{max_dependencies}
use Rattle.due_model.specs.declared.config.Dependency.{Dependency}
use Rattle.object_dependencies.specs.claims.Entries.{AreDependencies, entries_at, entry_of, terms_at}
use Rattle.object_dependencies.specs.claims.Limits.{GiveDependencies, PassesLimit}
use Rattle.object_dependencies.specs.claims.Pairs.{ArePairs, ArePairsBelow, IsBefore, Pair}
use Rattle.object_reader.specs.declared.block.Block.{Block}

-- ---- two lists of the same pairs in order are one

never-both : (one other : Pair) → IsBefore one other → IsBefore other one → ⊥
never-both one other (inl a) (inl b) = omega (arith, a, b)
never-both one other (inl a) (inr (b, c)) = omega (arith, a, b)
never-both one other (inr (a, b)) (inl c) = omega (arith, a, c)
never-both one other (inr (a, b)) (inr (c, d)) = omega (arith, b, d)

above : (x : Pair) (xs : List Pair) (k : Pair) → AllPairs IsBefore (x ∷ xs) → Contains xs k → IsBefore x k
above x xs k ordered at = All-contains (IsBefore x) xs k (AllPairs-head IsBefore x xs ordered) at

ordered-one : (xs ys : List Pair) → AllPairs IsBefore xs → AllPairs IsBefore ys → ((k : Pair) → Contains xs k ↔ Contains ys k) → xs ≡ ys
ordered-one [] [] one other same = refl
ordered-one [] (y ∷ ys) one other same = absurd (Contains-none y ((same y).1 (Contains-here y ys)))
ordered-one (x ∷ xs) [] one other same = absurd (Contains-none x ((same x).0 (Contains-here x xs)))
ordered-one (x ∷ xs) (y ∷ ys) one other same =
    ap (λ (p : Pair). p ∷ xs) head ∙ ap (λ (ps : List Pair). y ∷ ps)
    (ordered-one xs ys (AllPairs-tail IsBefore x xs one) (AllPairs-tail IsBefore y ys other) (λ k. (to k, from k)))
  where
    head : x ≡ y
    head = by_both (Contains-cases y x ys ((same x).0 (Contains-here x xs))) (Contains-cases x y xs ((same y).1 (Contains-here y ys)))
      where
        by_both : (y ≡ x) ⊎ Contains ys x → (x ≡ y) ⊎ Contains xs y → x ≡ y
        by_both (inl here) there = sym here
        by_both (inr later) (inl here) = here
        by_both (inr later) (inr further) = absurd (never-both x y (above x xs y one further) (above y ys x other later))

    to : (k : Pair) → Contains xs k → Contains ys k
    to k at = ⊎_elim
        (λ (here : y ≡ k). let low = subst (λ (p : Pair). IsBefore x p) (sym (head ∙ here)) (above x xs k one at) in absurd (never-both x x low low))
        (λ (later : Contains ys k). later)
        (Contains-cases y k ys ((same k).0 (Contains-later x k xs at)))

    from : (k : Pair) → Contains ys k → Contains xs k
    from k at = ⊎_elim
        (λ (here : x ≡ k). let low = subst (λ (p : Pair). IsBefore y p) (sym here ∙ head) (above y ys k other at) in absurd (never-both y y low low))
        (λ (later : Contains xs k). later)
        (Contains-cases x k xs ((same k).1 (Contains-later y k ys at)))

module _ (blocks : List Block) (lists : List (List ℕ)) where
  pairs-one : (place : ℕ) (xs ys : List Pair) → ArePairs blocks lists place xs → ArePairs blocks lists place ys → xs ≡ ys
  pairs-one place xs ys one other =
      ordered-one xs ys one.ordered other.ordered
      (λ k. ((λ at. (other.exactly k.0 k.1).1 ((one.exactly k.0 k.1).0 at)), (λ at. (one.exactly k.0 k.1).1 ((other.exactly k.0 k.1).0 at))))

  parts-one : (places : List ℕ) (one other : List (List Pair)) → AllZip (ArePairs blocks lists) places one → AllZip (ArePairs blocks lists) places other → one ≡ other
  parts-one [] [] [] a b = refl
  parts-one [] [] (y ∷ ys) a b = absurd b
  parts-one [] (x ∷ xs) ys a b = absurd a
  parts-one (p ∷ ps) [] ys a b = absurd a
  parts-one (p ∷ ps) (x ∷ xs) [] a b = absurd b
  parts-one (p ∷ ps) (x ∷ xs) (y ∷ ys) a b =
      ap (λ (found : List Pair). found ∷ xs) (pairs-one p x y a.0 b.0) ∙ ap (λ (all : List (List Pair)). y ∷ all) (parts-one ps xs ys a.1 b.1)

  pub count-sum : (place count : ℕ) (parts : List (List Pair)) → GiveDependencies blocks lists place count → ArePairsBelow blocks lists place parts → count ≡ sum_by length parts
  count-sum place count parts given are = given.2 ∙ ap (sum_by length) (parts-one (range_with_len 0 place) given.0 parts given.1 are)

  count-one : (place one other : ℕ) → GiveDependencies blocks lists place one → GiveDependencies blocks lists place other → one ≡ other
  count-one place one other a b = count-sum place one b.0 a b.1 ∙ sym b.2

-- ---- one block less

module _ (blocks : List Block) (lists : List (List ℕ)) where
  one-less : (place count : ℕ) → GiveDependencies blocks lists (place + 1) count → (less : ℕ) × GiveDependencies blocks lists place less × (less ≤ count)
  one-less place count given =
      let rest = without-last (ArePairs blocks lists) (range_with_len 0 place) place given.0
      (subst (λ (places : List ℕ). AllZip (ArePairs blocks lists) places given.0) (below_more place) given.1) in
      let sum = ap (sum_by length) rest.are ∙ sum-more rest.first rest.last in
      let counted = given.2 in
      (sum_by length rest.first, (rest.first, rest.all, refl), omega (arith, sum, counted))

  some-less : (place more count : ℕ) → GiveDependencies blocks lists (place + more) count → (less : ℕ) × GiveDependencies blocks lists place less × (less ≤ count)
  some-less place zero count given =
      let same : place + 0 ≡ place = omega arith in
      (count, subst (λ (n : ℕ). GiveDependencies blocks lists n count) same given, omega arith)
  some-less place (suc more) count given =
      let same : place + suc more ≡ place + more + 1 = omega arith in
      let one = one-less (place + more) count (subst (λ (n : ℕ). GiveDependencies blocks lists n count) same given) in
      let rest = some-less place more one.0 one.1 in
      let low = one.2 in
      let lower = rest.2 in
      (rest.0, rest.1, omega (arith, low, lower))

  -- below a lower place there are no more
  fewer-below : (place further few many : ℕ) → place ≤ further → GiveDependencies blocks lists place few → GiveDependencies blocks lists further many → few ≤ many
  fewer-below place further few many low some all =
      let more = between place further low in
      let less = some-less place more.0 many (subst (λ (n : ℕ). GiveDependencies blocks lists n many) more.1 all) in
      let same = count-one blocks lists place few less.0 some less.1 in
      let lower = less.2 in
      omega (arith, same, lower)
    where
      between : (a b : ℕ) → a ≤ b → (n : ℕ) × (b ≡ a + n)
      between zero b h = (b, omega arith)
      between (suc a) zero h = absurd (omega (arith, h))
      between (suc a) (suc b) h = let rest = between a b (omega (arith, h)) in let is = rest.1 in (rest.0, omega (arith, is))

  not-before : (m n : ℕ) → m < n → PassesLimit blocks lists m → PassesLimit blocks lists n → ⊥
  not-before m n early p q =
      let low = fewer-below (m + 1) n p.over.0 q.before.0 (omega (arith, early)) p.over.1 q.before.1 in
      let past = p.over.2 in
      let keeps = q.before.2 in
      omega (arith, low, past, keeps)

  -- ---- where they pass the limit

  pub one-passes : (one other : ℕ) → PassesLimit blocks lists one → PassesLimit blocks lists other → one ≡ other
  one-passes one other a b = ⊎_elim
      (λ (early : one < other). absurd (not-before one other early a b))
      (λ (late : other ≤ one). ⊎_elim
      (λ (later : other < one). absurd (not-before other one later b a))
      (λ (low : one ≤ other). omega (arith, late, low))
      (cases_lt other one))
      (cases_lt one other)

  pub within-nowhere : (count place : ℕ) → GiveDependencies blocks lists (length blocks) count → count ≤ max_dependencies → PassesLimit blocks lists place → ⊥
  within-nowhere count place given few passes =
      let within = passes.within in
      let low = fewer-below (place + 1) (length blocks) passes.over.0 count (omega (arith, within)) passes.over.1 given in
      let past = passes.over.2 in
      omega (arith, low, past, few)

-- there is one dependency for each pair
pub dependencies-few : (blocks : List Block) (lists periods : List (List ℕ)) (dependencies : List Dependency) (count : ℕ) → AreDependencies blocks lists periods dependencies
    → GiveDependencies blocks lists (length blocks) count → count ≤ max_dependencies → length dependencies ≤ max_dependencies
dependencies-few blocks lists periods dependencies count (parts, are, is) given few =
    let many : length parts ≡ length blocks = AllZip-long (ArePairs blocks lists) (range_with_len 0 (length blocks)) parts are ∙ length-range_with_len 0 (length blocks) in
    let long : length dependencies ≡ sum_by length (take (length blocks) parts) =
    ap (λ (ds : List Dependency). length ds) is ∙
    flat-count (entries_at blocks periods parts) parts (λ n. length-map (slice_index_or parts n []) (entry_of (terms_at blocks periods n))) (length blocks) (omega (arith, many)) in
    let whole : sum_by length (take (length blocks) parts) ≡ sum_by length parts = ap (sum_by length) (take_all (length blocks) parts (omega (arith, many))) in
    let sum = count-sum blocks lists (length blocks) count parts given are in
    omega (arith, long, whole, sum, few)
