use Rattle.std.proofs.Common.{◌<◌, ◌^◌, ◌+◌, ◌∙◌, List, ap, arith, map, refl, subst, sym, ℕ}
use Rattle.std.specs.List.{range_with_len}
use Rattle.std.specs.Prelude.{All}
use Rattle.std.proofs.lemmas.List.Elements.{All-weaker}
use Rattle.lemmas.proofs.Lists.{range_below}
use Rattle.object_groups.specs.claims.Objects.{names_in, objects_in}
use Rattle.object_reader.specs.declared.block.BlockKind.{BlockKind}
use Rattle.object_periods.specs.Loops.{rule_edge}
use Rattle.object_periods.proofs.RuleLemmas.{are-exclusions, lead-whole}
use Rattle.object_periods.proofs.loops.exclusions.Goals as goal

pub edges_from-requires : goal.edges_from-requires
edges_from-requires c =
    let few = c.requires.few in
    subst (λ (xs : List ℕ). All (λ rule. 0 + rule < 2 ^ 32) xs) (sym (c.as_slice.ensures.value ∙ c.in_ok-numbers.ensures))
    (All-weaker (λ k. k < c.args.count) (λ k. 0 + k < 2 ^ 32) (λ k low. omega (arith, low, few)) (range_with_len 0 c.args.count) (range_below c.args.count))

pub edges_from-requires-2 : goal.edges_from-requires-2
edges_from-requires-2 c =
    let few = c.requires.few in
    subst (λ (xs : List ℕ). All (λ rule. c.args.count + rule < 2 ^ 32) xs) (sym (c.as_slice-2.ensures.value ∙ c.in_ok-numbers.ensures))
    (All-weaker (λ k. k < c.args.count) (λ k. c.args.count + k < 2 ^ 32) (λ k low. omega (arith, low, few)) (range_with_len 0 c.args.count) (range_below c.args.count))

pub returns : goal.returns
returns c = let blocks = c.args.objects.now.blocks in are-exclusions blocks c.args.count c.requires.count _ (record {
  long = refl;
  objects = c.in_ok-numbers.ensures;
  dependents = c.in_ok-edges_from.ensures ∙ ap (map (rule_edge 0)) (c.as_slice.ensures.value ∙ c.in_ok-numbers.ensures);
  masters = c.in_ok-edges_from-2.ensures ∙ ap (map (rule_edge c.args.count)) (c.as_slice-2.ensures.value ∙ c.in_ok-numbers.ensures);
  members = lead-whole blocks c.args.count c.requires.count _ _ _ _ _ _ c.new-members.ensures.items
      (c.names.ensures.names ∙ ap (λ (kind : BlockKind). names_in blocks kind) c.requires.kind) c.requires.excludes
      (c.places-places.ensures.places ∙ ap (λ (kind : BlockKind). objects_in blocks kind) c.requires.kind) c.in_ok-next.ensures.edges;
})
