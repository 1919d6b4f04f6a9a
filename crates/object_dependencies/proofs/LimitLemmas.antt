-- The pairs of all blocks, and how many they are.
use Rattle.std.proofs.Common.{◌≡◌, ℕ, ◌+◌, ◌<◌, ◌≤◌, List, [], ◌∷◌, ◌++◌, length, Some, refl, sym, ap, subst, arith}
use Rattle.std.specs.Prelude.{slice_get}
use Rattle.std.specs.List.{AllZip, range_with_len, sum_by}
use Rattle.due_model.specs.claims.Limits.{max_dependencies}
use Rattle.lemmas.proofs.Numbers.{below_more, sum-more}
use Rattle.lemmas.proofs.Zips.{zip-more}
use Rattle.object_reader.specs.declared.block.Block.{Block}
use Rattle.object_dependencies.specs.Limits.{IsFirstOver, IsSoFar}
use Rattle.object_dependencies.specs.claims.Pairs.{ArePairs, Pair}

module _ (blocks : List Block) (lists : List (List ℕ)) where
  pub none-yet : IsSoFar blocks lists 0 [] 0
  none-yet = record { listed = tt; counted = refl }

  pub next-block : (place : ℕ) (old new : List (List Pair)) (pairs : List Pair) (count total : ℕ) → IsSoFar blocks lists place old count → ArePairs blocks lists place pairs
      → new ≡ old ++ pairs ∷ [] → total ≡ count + length pairs → IsSoFar blocks lists (place + 1) new total
  next-block place old new pairs count total before are is sum = record {
    listed = subst (λ (places : List ℕ). AllZip (ArePairs blocks lists) places new) (sym (below_more place))
        (subst (λ (all : List (List Pair)). AllZip (ArePairs blocks lists) (range_with_len 0 place ++ place ∷ []) all) (sym is)
        (zip-more (ArePairs blocks lists) (range_with_len 0 place) old place pairs before.listed are));
    counted = (let counted = before.counted in let more = sum-more old pairs in let same = ap (sum_by length) is in omega (arith, counted, more, same, sum));
  }

  pub first-over : (place : ℕ) (x : Block) (old : List (List Pair)) (pairs : List Pair) (count : ℕ) → place < length blocks → slice_get blocks place ≡ Some x
      → IsSoFar blocks lists place old count → count ≤ max_dependencies → ArePairs blocks lists place pairs → max_dependencies < count + length pairs → IsFirstOver blocks lists place x.line
  first-over place x old pairs count within here before low are over =
      let after = next-block place old (old ++ pairs ∷ []) pairs count (count + length pairs) before are refl refl in
      record {
        block = x;
        here = here;
        at = refl;
        passes = record {
          within = within;
          before = (count, (old, before.listed, before.counted), low);
          over = (count + length pairs, (old ++ pairs ∷ [], after.listed, after.counted), over);
        };
      }
