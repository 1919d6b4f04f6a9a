-- The objects of which escalations speak, and how many there are.
use Rattle.std.proofs.Common.{◌≡◌, ℕ, ◌+◌, ◌<◌, ◌≤◌, List, [], ◌∷◌, ◌++◌, length, Some, refl, sym, ap, subst, arith}
use Rattle.std.specs.Prelude.{slice_get}
use Rattle.std.specs.List.{AllZip, range_with_len, sum_by}
use Rattle.due_model.specs.claims.Limits.{max_escalations}
use Rattle.lemmas.proofs.Numbers.{below_more, sum-more}
use Rattle.lemmas.proofs.Zips.{zip-more}
use Rattle.object_escalations.specs.claims.Escalated.{SpeaksOf}
use Rattle.object_escalations.specs.Escalated.{IsFirstOver, IsKept, IsRefusal, IsSoFar, IsTooMany}
use Rattle.object_listing.specs.claims.Listing.{AreThose}
use Rattle.object_reader.specs.declared.block.Block.{Block}
use Rattle.object_services.specs.declared.services.LimitFault.{LimitFault}
use Rattle.object_services.specs.declared.services.LimitFault.TheVariants.{TooMany, NoMemory}

-- ---- all blocks

module _ (blocks : List Block) (lists : List (List ℕ)) where
  pub none-yet : IsSoFar blocks lists 0 [] 0
  none-yet = record { listed = tt; counted = refl }

  pub next-block : (place : ℕ) (old new : List (List ℕ)) (found : List ℕ) (count total : ℕ) → IsSoFar blocks lists place old count → AreThose (SpeaksOf blocks lists place) found
      → new ≡ old ++ found ∷ [] → total ≡ count + length found → IsSoFar blocks lists (place + 1) new total
  next-block place old new found count total before those is sum = record {
    listed = subst (λ (places : List ℕ). AllZip (λ at objects. AreThose (SpeaksOf blocks lists at) objects) places new) (sym (below_more place))
        (subst (λ (all : List (List ℕ)). AllZip (λ at objects. AreThose (SpeaksOf blocks lists at) objects) (range_with_len 0 place ++ place ∷ []) all) (sym is)
        (zip-more (λ at objects. AreThose (SpeaksOf blocks lists at) objects) (range_with_len 0 place) old place found before.listed those));
    counted = (let counted = before.counted in let more = sum-more old found in let same = ap (sum_by length) is in omega (arith, counted, more, same, sum));
  }

  pub first-over : (place : ℕ) (x : Block) (old : List (List ℕ)) (found : List ℕ) (count : ℕ) → place < length blocks → slice_get blocks place ≡ Some x
      → IsSoFar blocks lists place old count → count ≤ max_escalations → AreThose (SpeaksOf blocks lists place) found → max_escalations < count + length found → IsFirstOver blocks lists place x.line
  first-over place x old found count within here before low those over =
      let after = next-block place old (old ++ found ∷ []) found count (count + length found) before those refl refl in
      record {
        block = x;
        here = here;
        at = refl;
        passes = record {
          within = within;
          before = (count, (old, before.listed, before.counted), low);
          over = (count + length found, (old ++ found ∷ [], after.listed, after.counted), over);
        };
      }

  pub kept-block : (place : ℕ) (old new : List (List ℕ)) (found : List ℕ) (count total : ℕ) → IsSoFar blocks lists place old count → AreThose (SpeaksOf blocks lists place) found
      → IsKept old new found count total → IsSoFar blocks lists (place + 1) new total
  kept-block place old new found count total before those kept = next-block place old new found count total before those kept.are kept.sum

  pub refused-block : (place : ℕ) (x : Block) (old : List (List ℕ)) (found : List ℕ) (count : ℕ) → place < length blocks → slice_get blocks place ≡ Some x
      → IsSoFar blocks lists place old count → count ≤ max_escalations → AreThose (SpeaksOf blocks lists place) found
      → (fault : LimitFault) → IsTooMany (count + length found) place x.line fault → IsRefusal blocks lists fault
  refused-block place x old found count within here before low those (TooMany at line) refused =
      subst (λ (k : ℕ). IsFirstOver blocks lists k line) (sym refused.0)
      (subst (λ (k : ℕ). IsFirstOver blocks lists place k) (sym refused.1)
      (first-over place x old found count within here before low those refused.2))
  refused-block place x old found count within here before low those NoMemory refused = tt
