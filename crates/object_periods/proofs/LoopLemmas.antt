-- The first period on a loop of exclusions.
use Rattle.std.proofs.Common.{◌≡◌, ℕ, ◌<◌, ◌≤◌, List, length, get_or, refl, sym, ap, subst, ⊎_elim, arith}
use Rattle.std.specs.Prelude.{AllPairs}
use Rattle.std.specs.List.{range_with_len}
use Rattle.std.proofs.lemmas.Bool.{cases_lt}
use Rattle.std.proofs.lemmas.List.Kept.{AllPairs-filter}
use Rattle.std.proofs.lemmas.Option.{get_or_from_slice_get, slice_get_within}
use Rattle.graph.specs.claims.Chains.{Chain, IsOnLoop}
use Rattle.graph_rules.specs.declared.rules.Rules.{Rules}
use Rattle.graph_rules.specs.Rules.{Depends, HasNoLoop, IsFirstLooped, IsLooped}
use Rattle.lemmas.proofs.Lists.{range_increases}
use Rattle.lemmas.proofs.Chains.{Chain-map}
use Rattle.object_groups.specs.claims.Objects.{is_object_at, objects_in}
use Rattle.object_periods.specs.claims.Loops.{ExcludesNumber, IsNumbered}
use Rattle.object_periods.specs.Loops.{AreExclusions, HasNoPeriodLoop, IsFirstLooped as IsFirstLoopedBlock}
use Rattle.object_reader.specs.declared.block.Block.{Block}
use Rattle.object_reader.specs.declared.block.BlockKind.TheVariants.{TimePeriod}

module _ (blocks : List Block) where
  abbrev places : List ℕ
  places = objects_in blocks TimePeriod

  -- numbers rise with places
  rising : AllPairs (λ m n. m < n) places
  unfolding objects_in
  rising = AllPairs-filter (λ m n. m < n) (is_object_at blocks TimePeriod) (range_with_len 0 (length blocks)) (range_increases 0 (length blocks))

  number-lower : (p q one other : ℕ) → IsNumbered blocks p one → IsNumbered blocks q other → one < other → p < q
  number-lower p q one other here there before = ⊎_elim
      (λ (early : p < q). early)
      (λ (late : q ≤ p). absurd (⊎_elim
      (λ (after : q < p). let above = rising q p 0 after (slice_get_within places p one here) in
      let is = get_or_from_slice_get places p one 0 here in let also = get_or_from_slice_get places q other 0 there in omega (arith, above, is, also, before))
      (λ (same_or : p ≤ q). let same : p ≡ q = omega (arith, late, same_or) in
      let is = get_or_from_slice_get places p one 0 here in let also = get_or_from_slice_get places q other 0 there in let alike = ap (λ (k : ℕ). get_or places k 0) same in omega (arith, is, also, alike, before))
      (cases_lt q p)))
      (cases_lt p q)

  module _ (rules : Rules) (are : AreExclusions blocks rules) where
    excludes-by : (dependent master : ℕ) → Depends rules dependent master → ExcludesNumber blocks dependent master
    excludes-by dependent master by = ((are.excludes by.0 dependent master).0 by.1).1

    depends-by : (dependent master : ℕ) → ExcludesNumber blocks dependent master → Depends rules dependent master
    depends-by dependent master excludes = (dependent, (are.excludes dependent dependent master).1 (refl, excludes))

    on-loop : (rule : ℕ) → IsLooped rules rule → IsOnLoop (ExcludesNumber blocks) rule
    on-loop rule (dependent, master, by, (steps, chain)) =
        let both = (are.excludes rule dependent master).0 by in
        let own : ExcludesNumber blocks rule master = subst (λ (k : ℕ). ExcludesNumber blocks k master) (sym both.0) both.1 in (
          steps,
          (
            master,
            own,
            subst (λ (k : ℕ). Chain (ExcludesNumber blocks) steps master k) (sym both.0)
                (Chain-map (Depends rules) (ExcludesNumber blocks) excludes-by steps master dependent chain),
          ),
        )

    from-loop : (rule : ℕ) → IsOnLoop (ExcludesNumber blocks) rule → IsLooped rules rule
    from-loop rule (steps, (master, excludes, chain)) =
        (rule, master, (are.excludes rule rule master).1 (refl, excludes), (steps, Chain-map (ExcludesNumber blocks) (Depends rules) depends-by steps master rule chain))

    -- the first rule on a loop is that of the first such block
    pub first-looped : (rule place : ℕ) → IsNumbered blocks rule place → IsFirstLooped rules rule → IsFirstLoopedBlock blocks place
    first-looped rule place here is = record {
      looped = (rule, here, on-loop rule is.looped);
      first = λ earlier before looped. is.first looped.0 (number-lower looped.0 rule earlier place looped.1 here before) (from-loop looped.0 looped.2);
    }

    pub none-looped : HasNoLoop rules → HasNoPeriodLoop blocks
    none-looped none = λ place looped. none looped.0 (from-loop looped.0 looped.2)

    pub loop-within : (rule : ℕ) → IsFirstLooped rules rule → rule < length places
    loop-within rule is =
        let loop = on-loop rule is.looped in
        let excludes = loop.1.1 in
        slice_get_within places rule excludes.0 excludes.1
