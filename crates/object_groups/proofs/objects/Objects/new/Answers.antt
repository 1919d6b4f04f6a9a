use Rattle.std.proofs.Common.{◌∙◌}
use Rattle.object_groups.proofs.GroupLemmas.{names-are}
use Rattle.object_groups.proofs.objects.Objects.new.Goals as goal

pub invariant_of-result : goal.invariant_of-result
invariant_of-result c = record {
  listed = c.in_ok-places.ensures;
  named = c.in_ok-names.ensures ∙ names-are c.args.templates.now c.blocks-blocks.result.now c.args.kind c.as_bytes.result.now c.in_ok-values.values c.in_ok-places.places.items c.as_slice.result.now _
      c.blocks-blocks.ensures.value c.in_ok-values.ensures (c.as_bytes.ensures.value ∙ c.name_directive.ensures) c.as_slice.ensures.value c.in_ok-places.ensures c.in_ok-names_at.ensures;
}
