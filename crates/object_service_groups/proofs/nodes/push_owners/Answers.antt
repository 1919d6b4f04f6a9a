use Rattle.std.proofs.Common.{◌≡◌, ◌+◌, ◌++◌, ◌∙◌, ap, arith, length, map, ℕ}
use Rattle.std.specs.Prelude.{slice_index_or}
use Rattle.std.specs.List.{range_with_len}
use Rattle.std.proofs.lemmas.List.{get_or_default}
use Rattle.object_groups.specs.ListEdges.{edge}
use Rattle.object_service_groups.proofs.NumberLemmas.{owners-more}
use Rattle.object_service_groups.proofs.nodes.push_owners.Goals as goal

pub loop-service-preserved : goal.loop-service-preserved
loop-service-preserved c =
    owners-more (λ service. edge (c.args.middle + slice_index_or c.args.owners.now service 0) service) c.args.edges.now.items c.loop-service.edges.items _ c.loop-service.service _
    c.loop-service.invariant c.in_ok-push.ensures.items
    (ap (λ (owner : ℕ). edge (c.args.middle + owner) c.loop-service.service) (get_or_default c.args.owners.now c.loop-service.service _ 0 c.loop-service-test.true))

pub returns : goal.returns
returns c =
    let owners = c.args.owners.now in
    let end : c.loop-service.service ≡ length owners = omega (arith, c.loop-service-test.false, c.loop-service.auto.service-end) in
    c.loop-service.invariant
    ∙ ap (λ (n : ℕ). c.args.edges.now.items ++ map (λ service. edge (c.args.middle + slice_index_or owners service 0) service) (range_with_len 0 n)) end
