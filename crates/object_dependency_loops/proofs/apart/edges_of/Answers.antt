use Rattle.std.proofs.Common.{◌+◌, ◌++◌, ◌∙◌, List, ap}
use Rattle.graph.specs.declared.edges.Edge.{Edge}
use Rattle.object_dependency_loops.specs.Apart.{ends_from}
use Rattle.object_dependency_loops.proofs.apart.edges_of.Goals as goal

pub returns : goal.returns
returns c =
    let r = c.args.rules.now in
    c.in_ok-push_ends-2.ensures
    ∙ ap (λ (es : List Edge). es ++ ends_from (r.nodes + 1) c.as_slice-3.result.now)
    (c.in_ok-push_ends.ensures ∙ ap (λ (es : List Edge). es ++ ends_from r.nodes c.as_slice-2.result.now) (c.in_ok-extend_from_slice.ensures.items ∙ ap (λ (es : List Edge). es ++ c.as_slice.result.now) c.in_ok-edges.ensures.items ∙ c.as_slice.ensures.value)
    ∙ ap (λ (es : List Edge). r.members.items ++ ends_from r.nodes es) c.as_slice-2.ensures.value)
    ∙ ap (λ (es : List Edge). (r.members.items ++ ends_from r.nodes r.dependents.items) ++ ends_from (r.nodes + 1) es) c.as_slice-3.ensures.value
