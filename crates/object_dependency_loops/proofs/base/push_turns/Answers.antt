use Rattle.std.proofs.Common.{◌≡◌, ◌+◌, ◌++◌, ◌∷◌, [], ◌∙◌, ap, arith, map, refl, ℕ}
use Rattle.lemmas.proofs.Edges.{edges-more}
use Rattle.object_groups.specs.declared.lists.Direction.TheVariants.{ToNames}
use Rattle.object_groups.specs.ListEdges.{between}
use Rattle.object_dependency_loops.specs.Base.{turn_edges}
use Rattle.object_dependency_loops.proofs.base.push_turns.Goals as goal

pub loop-number-preserved : goal.loop-number-preserved
loop-number-preserved c =
    edges-more (λ k. map (between ToNames (c.args.from + k)) ((c.args.to + k) ∷ [])) c.args.edges.now.items c.loop-number.number c.loop-number.edges.items _ _
    c.loop-number.invariant c.in_ok-push.ensures.items refl

pub returns : goal.returns
returns c =
    let end : c.loop-number.number ≡ c.args.count = omega (arith, c.loop-number-test.false, c.loop-number.auto.number-end) in
    c.loop-number.invariant ∙ ap (λ (n : ℕ). c.args.edges.now.items ++ turn_edges c.args.from c.args.to n) end
