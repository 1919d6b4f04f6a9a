-- The periods of blocks, one more.
use Rattle.std.proofs.Common.{◌≡◌, ℕ, zero, suc, ◌+◌, List, [], ◌∷◌, ◌++◌, length, get_or, Some, refl, sym, ap, subst, ⊎_elim, ◌∙◌, ◌⊎◌, inl, inr, arith}
use Rattle.std.specs.Prelude.{codes, slice_get, unwrap_or}
use Rattle.std.proofs.lemmas.List.{get_or-map, length_push}
use Rattle.std.proofs.lemmas.Option.{get_or_from_slice_get, slice_get_within}
use Rattle.due_model.specs.declared.config.Period.{Period}
use Rattle.object_groups.specs.claims.Names.{numbers_of}
use Rattle.object_groups.specs.claims.Objects.{list_at, name_at, names_in, objects_in}
use Rattle.object_inheritance.specs.Columns.{Column}
use Rattle.object_periods.specs.claims.Periods.{ArePeriodsOf, excluded_at, IsPeriodOf}
use Rattle.object_periods.specs.Periods.{column_of}
use Rattle.object_reader.specs.declared.block.Block.{Block}
use Rattle.object_reader.specs.declared.block.BlockKind.TheVariants.{TimePeriod}

-- the name of the period of that number
pub name-is : (blocks : List Block) (names : List (List ℕ)) (number place : ℕ) → names ≡ names_in blocks TimePeriod → slice_get (objects_in blocks TimePeriod) number ≡ Some place
    → get_or names number [] ≡ name_at blocks TimePeriod place
unfolding names_in
name-is blocks names number place are at =
    let within = slice_get_within (objects_in blocks TimePeriod) number place at in
    ap (λ (ns : List (List ℕ)). get_or ns number []) are ∙ get_or-map (name_at blocks TimePeriod) (objects_in blocks TimePeriod) number 0 [] within
    ∙ ap (name_at blocks TimePeriod) (get_or_from_slice_get (objects_in blocks TimePeriod) number place 0 at)

-- the periods that it excludes
pub excludes-are : (blocks : List Block) (names : List (List ℕ)) (column : Column) (place : ℕ) (numbers : List ℕ) → names ≡ names_in blocks TimePeriod
    → column ≡ column_of blocks (codes "exclude") → numbers ≡ numbers_of names (list_at column.blocks column.directive place) → numbers ≡ excluded_at blocks place
excludes-are blocks names column place numbers are is listed =
    listed ∙ ap (λ (ns : List (List ℕ)). numbers_of ns (list_at column.blocks column.directive place)) are
    ∙ ap (λ (x : Column). numbers_of (names_in blocks TimePeriod) (list_at x.blocks x.directive place)) is

-- ---- one period more

some-same : {X : Type 0} (x y : X) → Some x ≡ Some y → x ≡ y
some-same x y same = ap (λ found. unwrap_or found x) same

at_snoc : {X : Type 0} (xs : List X) (y : X) (k : ℕ) (z : X) → slice_get (xs ++ y ∷ []) k ≡ Some z → (slice_get xs k ≡ Some z) ⊎ ((k ≡ length xs) × (y ≡ z))
at_snoc [] y zero z at = inr (refl, some-same y z at)
at_snoc [] y (suc k) z at = inl at
at_snoc (x ∷ xs) y zero z at = inl at
at_snoc (x ∷ xs) y (suc k) z at = ⊎_elim
    (λ (early : slice_get xs k ≡ Some z). inl early)
    (λ (last : (k ≡ length xs) × (y ≡ z)). let here = last.0 in inr (omega (arith, here), last.1))
    (at_snoc xs y k z at)

-- the periods so far
pub record ArePeriods (blocks : List Block) (number : ℕ) (periods : List Period) : Type 0 where
  pub count : length periods ≡ number
  pub each : (k place : ℕ) (period : Period) → slice_get (objects_in blocks TimePeriod) k ≡ Some place → slice_get periods k ≡ Some period → IsPeriodOf blocks place period

pub periods-none : (blocks : List Block) (periods : List Period) → periods ≡ [] → ArePeriods blocks 0 periods
periods-none blocks periods none = record {
  count = ap (λ (ps : List Period). length ps) none;
  each = λ k place period here at. let low = slice_get_within periods k period at in let long = ap (λ (ps : List Period). length ps) none in absurd (omega (arith, low, long));
}

pub periods-more : (blocks : List Block) (number place : ℕ) (old new : List Period) (period : Period) → slice_get (objects_in blocks TimePeriod) number ≡ Some place
    → IsPeriodOf blocks place period → new ≡ old ++ period ∷ [] → ArePeriods blocks number old → ArePeriods blocks (number + 1) new
periods-more blocks number place old new period here is more before = record {
  count = ap (λ (ps : List Period). length ps) more ∙ length_push old period ∙ ap (λ (n : ℕ). n + 1) before.count;
  each = λ k at_place other there at. ⊎_elim
      (λ (early : slice_get old k ≡ Some other). before.each k at_place other there early)
      (λ (last : (k ≡ length old) × (period ≡ other)).
      let same : at_place ≡ place = some-same at_place place (sym there ∙ ap (slice_get (objects_in blocks TimePeriod)) (last.0 ∙ before.count) ∙ here) in
      subst (λ (p : Period). IsPeriodOf blocks at_place p) last.1 (subst (λ (n : ℕ). IsPeriodOf blocks n period) (sym same) is))
      (at_snoc old period k other (sym (ap (λ (ps : List Period). slice_get ps k) more) ∙ at));
}

pub periods-all : (blocks : List Block) (number : ℕ) (periods : List Period) → number ≡ length (objects_in blocks TimePeriod) → ArePeriods blocks number periods → ArePeriodsOf blocks periods
periods-all blocks number periods all are = record { count = are.count ∙ all; each = are.each }
