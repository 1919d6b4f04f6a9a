-- The dependencies of blocks: what those of one block have in common, and one block more.
use Rattle.std.proofs.Common.{◌≡◌, ℕ, ◌+◌, ◌<◌, Bool, false, List, [], ◌∷◌, ◌++◌, length, map, take, Option, sym, ap, ◌∙◌, arith}
use Rattle.std.specs.Prelude.{codes, slice_index_or, unwrap_or}
use Rattle.std.specs.List.{range_with_len, sum_by}
use Rattle.std.proofs.lemmas.List.{length-append, length-map, take_more}
use Rattle.std.proofs.lemmas.List.FromFn.{length-range_with_len}
use Rattle.std.proofs.lemmas.List.Sums.{sum_by-append, sum_by-cons}
use Rattle.std.proofs.lemmas.Slice.Zip.{AllZip-long}
use Rattle.lemmas.proofs.Numbers.{flat_range_more}
use Rattle.due_model.specs.declared.config.Dependency.{Dependency}
use Rattle.due_model.specs.declared.config.PeriodId.{PeriodId}
use Rattle.due_model.specs.declared.state.StateSet.{StateSet}
use Rattle.object_inheritance.specs.Columns.{Column}
use Rattle.object_reader.specs.declared.block.Block.{Block}
use Rattle.object_listing.specs.claims.Readings.{is_on, period_at}
use Rattle.object_values.specs.claims.Options.{no_state}
use Rattle.object_dependencies.specs.declared.entries.Terms.{Terms}
use Rattle.object_dependencies.specs.claims.Entries.{entries_at, entries_in, entry_of, terms_at}
use Rattle.object_dependencies.specs.claims.Pairs.{ArePairs, ArePairsBelow, kept_states, Pair}

-- ---- what the dependencies of a block have in common

pub terms-are : (blocks : List Block) (periods : List (List ℕ)) (place : ℕ) (inherits : Bool) (states : StateSet) (period : Option PeriodId) (inherited named : Column)
    → inherited ≡ record { blocks = blocks; directive = codes "inherits_parent" } → named ≡ record { blocks = blocks; directive = codes "dependency_period" }
    → inherits ≡ is_on inherited.blocks inherited.directive false place → states ≡ unwrap_or (kept_states blocks place) no_state
    → period ≡ period_at periods named.blocks named.directive place → record { inherits = inherits; states = states; period = period } ≡ terms_at blocks periods place
terms-are blocks periods place inherits states period inherited named inherited_is named_is one two three =
    let first : inherits ≡ is_on blocks (codes "inherits_parent") false place = one ∙ ap (λ (column : Column). is_on column.blocks column.directive false place) inherited_is in
    let third : period ≡ period_at periods blocks (codes "dependency_period") place = three ∙ ap (λ (column : Column). period_at periods column.blocks column.directive place) named_is in
    ap (λ (on : Bool). record { inherits = on; states = states; period = period }) first
    ∙ ap (λ (set : StateSet). record { inherits = is_on blocks (codes "inherits_parent") false place; states = set; period = period }) two
    ∙ ap (λ (found : Option PeriodId). record { inherits = is_on blocks (codes "inherits_parent") false place; states = unwrap_or (kept_states blocks place) no_state; period = found }) third

-- ---- of all blocks

module _ (blocks : List Block) (periods : List (List ℕ)) (parts : List (List Pair)) where
  pub block-more : (place : ℕ) (terms : Terms) (pairs : List Pair) (old new : List Dependency) → old ≡ entries_in blocks periods parts place
      → new ≡ old ++ map (entry_of terms) pairs → map (entry_of terms) pairs ≡ entries_at blocks periods parts place
      → new ≡ entries_in blocks periods parts (place + 1)
  block-more place terms pairs old new before more is =
      more ∙ ap (λ (es : List Dependency). es ++ map (entry_of terms) pairs) before
      ∙ ap (λ (es : List Dependency). entries_in blocks periods parts place ++ es) is
      ∙ sym (flat_range_more (entries_at blocks periods parts) place)

  pub count-more : (place : ℕ) (terms : Terms) (pairs : List Pair) (old new : List Dependency) → place < length parts → slice_index_or parts place [] ≡ pairs
      → length old ≡ sum_by length (take place parts) → new ≡ old ++ map (entry_of terms) pairs
      → length new ≡ sum_by length (take (place + 1) parts)
  count-more place terms pairs old new within is before more =
      let longer = ap (λ (es : List Dependency). length es) more ∙ length-append old (map (entry_of terms) pairs) in
      let long = length-map pairs (entry_of terms) in
      let sum = ap (sum_by length) (take_more parts place [] within) ∙ sum_by-append length (take place parts) (slice_index_or parts place [] ∷ []) in
      let one = sum_by-cons length (slice_index_or parts place []) [] in
      let same = ap (λ (ps : List Pair). length ps) is in
      omega (arith, longer, long, sum, one, same, before)

-- there are as many lists of pairs as blocks
pub as-many : (blocks : List Block) (lists : List (List ℕ)) (place : ℕ) (parts : List (List Pair)) → ArePairsBelow blocks lists place parts → length parts ≡ place
as-many blocks lists place parts are = AllZip-long (ArePairs blocks lists) (range_with_len 0 place) parts are ∙ length-range_with_len 0 place
