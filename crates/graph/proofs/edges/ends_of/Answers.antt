use Rattle.std.proofs.Common.{◌++◌, ◌∷◌, [], List, ℕ, arith, get_or, subst, sym, take}
use Rattle.std.proofs.lemmas.List.{take_all, take_more}
use Rattle.std.proofs.lemmas.List.Elements.{All-get_or}
use Rattle.graph.specs.declared.edges.Edge.{Edge}
use Rattle.graph.specs.Edges.{HasEdges, IsWithin}
use Rattle.graph.proofs.EdgeLemmas.{HasEdges-more, HasEdges-none}
use Rattle.graph.proofs.edges.ends_of.Goals as goal

pub loop-edge-init : goal.loop-edge-init
loop-edge-init c = subst (λ (lists : List (List ℕ)). HasEdges c.args.nodes [] lists) (sym c.in_ok-lists.ensures) (HasEdges-none c.args.nodes)

pub loop-edge-preserved : goal.loop-edge-preserved
loop-edge-preserved c =
    let edges = c.args.edges.now in
    let turn = c.loop-edge.edge-index in
    let edge : Edge = get_or edges turn (record { from = 0; to = 0 }) in
    subst (λ (some : List Edge). HasEdges c.args.nodes some c.push.new.self) (sym (take_more edges turn _ c.loop-edge-test.true))
    (subst (λ (lists : List (List ℕ)). HasEdges c.args.nodes (take turn edges ++ edge ∷ []) lists) (sym c.in_ok-push.ensures.pushed)
    (HasEdges-more c.args.nodes (take turn edges) edge c.loop-edge.lists (All-get_or (IsWithin c.args.nodes) edges turn _ c.loop-edge-test.true c.requires).from c.loop-edge.invariant))

pub returns : goal.returns
returns c = subst (λ (edges : List Edge). HasEdges c.args.nodes edges c.loop-edge.lists) (take_all c.loop-edge.edge-index c.args.edges.now c.loop-edge-test.false) c.loop-edge.invariant

pub push-requires : goal.push-requires
push-requires c = omega (arith, c.loop-edge.invariant.count, (All-get_or (IsWithin c.args.nodes) c.args.edges.now c.loop-edge.edge-index (record { from = 0; to = 0 }) c.loop-edge-test.true c.requires).from)
