use Rattle.std.proofs.Common.{◌≡◌, ◌+◌, ◌++◌, ◌∙◌, ap, arith, length, map, ℕ}
use Rattle.std.specs.Prelude.{slice_index_or}
use Rattle.std.specs.List.{range_with_len}
use Rattle.std.proofs.lemmas.List.{get_or_default}
use Rattle.object_groups.specs.ListEdges.{edge}
use Rattle.object_dependency_loops.proofs.ReachLemmas.{mapped-more}
use Rattle.object_dependency_loops.proofs.lists.push_links.Goals as goal

pub loop-number-preserved : goal.loop-number-preserved
loop-number-preserved c =
    mapped-more (λ k. edge (slice_index_or c.args.places.now k 0) (c.args.node + k)) c.args.links.now.items c.loop-number.links.items _ c.loop-number.number _
    c.loop-number.invariant c.in_ok-push.ensures.items
    (ap (λ (place : ℕ). edge place (c.args.node + c.loop-number.number)) (get_or_default c.args.places.now c.loop-number.number _ 0 c.loop-number-test.true))

pub returns : goal.returns
returns c =
    let places = c.args.places.now in
    let end : c.loop-number.number ≡ length places = omega (arith, c.loop-number-test.false, c.loop-number.auto.number-end) in
    c.loop-number.invariant
    ∙ ap (λ (n : ℕ). c.args.links.now.items ++ map (λ k. edge (slice_index_or places k 0) (c.args.node + k)) (range_with_len 0 n)) end
