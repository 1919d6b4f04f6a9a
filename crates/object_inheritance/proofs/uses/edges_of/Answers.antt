use Rattle.std.proofs.Common.{◌<◌, List, [], ap, arith, get_or, length, map, take_all, ◌∙◌}
use Rattle.lemmas.proofs.Edges.{within-more}
use Rattle.object_reader.specs.declared.block.Block.{Block}
use Rattle.object_inheritance.specs.claims.Templates.{template_graph, templates_of}
use Rattle.object_inheritance.proofs.UseLemmas.{ends-more, templates-within}
use Rattle.object_inheritance.proofs.uses.edges_of.Goals as goal

pub loop-place-preserved : goal.loop-place-preserved
loop-place-preserved c =
    let long = ap (λ (blocks : List Block). length blocks) c.blocks-block-items.ensures.value in
    let within : c.loop-place.place < length c.args.names.now = omega (arith, long, c.loop-place-test.true) in
    record {
      ends = ends-more (templates_of c.args.names.now) c.args.names.now c.loop-place.place c.block-item.result c.loop-place.edges.items _ within
          (c.block-item.is ∙ ap (λ (blocks : List Block). get_or blocks c.loop-place.place c.block-item.result) c.blocks-block-items.ensures.value)
          c.loop-place.invariant.ends c.in_ok-push_edges.ensures;
      within = within-more (length c.args.names.now) c.loop-place.place c.loop-place.edges.items _ (templates_of c.args.names.now c.block-item.result) within
          (templates-within c.args.names.now c.block-item.result) c.loop-place.invariant.within c.in_ok-push_edges.ensures;
    }

pub returns-clause-ends : goal.returns-clause-ends
unfolding template_graph
returns-clause-ends c p =
    let long = ap (λ (blocks : List Block). length blocks) c.blocks-block-items.ensures.value in
    c.loop-place.invariant.ends p
    ∙ ap (λ (blocks : List Block). get_or (map (templates_of c.args.names.now) blocks) p [])
    (take_all c.loop-place.place c.args.names.now (omega (arith, long, c.loop-place-test.false)))
