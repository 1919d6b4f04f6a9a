use Rattle.std.proofs.Common.{◌≡◌, ◌+◌, ◌∷◌, ◌∙◌, [], ap, arith, get_or, length, subst, sym, List, ℕ}
use Rattle.std.proofs.lemmas.List.{length-append}
use Rattle.object_groups.specs.declared.shared.Parts.{Parts}
use Rattle.object_groups.specs.Shared.{HasParts, wholes_of}
use Rattle.object_groups.proofs.SharedLemmas.{have-more}
use Rattle.object_groups.proofs.shared.shared_lists.Goals as goal

pub loop-place-preserved : goal.loop-place-preserved
loop-place-preserved c =
    let blocks = c.args.values.now.blocks in
    let directive = c.args.values.now.directive in
    let parts = c.loop-place.parts.items in
    let one : Parts = c.in_ok-parts_of.field-0 in
    let long = c.loop-place.invariant.long in
    let count : length c.push.new.self.items ≡ length parts + 1 = ap (λ (xs : List Parts). length xs) c.in_ok-push.ensures.items ∙ length-append parts (one ∷ []) in
    record {
      found = c.in_ok-parts_of.ensures.found;
      long = omega (arith, count, long);
      have = have-more blocks directive c.args.places.now c.loop-place.found.lists.items c.parts_of.new.found.lists.items parts c.push.new.self.items one c.in_ok-parts_of.ensures.grows
          c.in_ok-push.ensures.items
          (subst (λ (i : ℕ). HasParts blocks directive (wholes_of blocks directive c.parts_of.new.found.lists.items) (get_or c.args.places.now i 0) one) (sym long) c.in_ok-parts_of.ensures.parts)
          c.loop-place.invariant.have;
    }
