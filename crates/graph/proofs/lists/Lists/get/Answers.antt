use Rattle.std.proofs.Common.{◌∙◌, ◌+◌, ◌<◌, arith, subst, sym, length}
use Rattle.graph.proofs.PartLemmas.{length-parts, get_or-parts, starts-rise}
use Rattle.graph.proofs.lists.Lists.get.Goals as goal

pub part_at-requires : goal.part_at-requires
part_at-requires g c =
    let starts = c.self.inside.starts.items in
    let values = c.self.inside.values.items in
    let few = subst (λ lists. c.args.number < length lists) (sym c.self.view_is) c.requires in
    let within : c.args.number + 1 < length starts = omega (arith, length-parts starts values (length values) c.self.invariant, few) in
    let rise = starts-rise starts (length values) c.args.number c.self.invariant within in
    record {
      within = rw c.as_slice.ensures.value within;
      ordered = rw c.as_slice.ensures.value rise.0;
      inside = rw (c.as_slice.ensures.value, c.as_slice-2.ensures.value) rise.1;
    }

pub returns : goal.returns
returns g c =
    let starts = c.self.inside.starts.items in
    let values = c.self.inside.values.items in
    let few = subst (λ lists. c.args.number < length lists) (sym c.self.view_is) c.requires in
    let within : c.args.number + 1 < length starts = omega (arith, length-parts starts values (length values) c.self.invariant, few) in
    c.part_at.ensures
    ∙ rw (c.as_slice.ensures.value, c.as_slice-2.ensures.value, ← c.self.view_is) (sym (get_or-parts starts values c.args.number within))
