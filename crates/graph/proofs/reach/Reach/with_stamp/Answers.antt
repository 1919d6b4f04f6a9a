use Rattle.std.proofs.Common.{◌∙◌, List, ℕ, ap, length}
use Rattle.std.proofs.lemmas.List.{length-replicate}
use Rattle.graph.proofs.ReachLemmas.{IsSearch-new, none_found}
use Rattle.graph.proofs.reach.Reach.with_stamp.Goals as goal

pub invariant_of-result : goal.invariant_of-result
invariant_of-result c =
    IsSearch-new c.in_ok-vec.field-0.items c.in_ok-vec-2.field-0.items c.args.nodes c.args.stamp c.ranges.nodes.fits c.requires
    (c.in_ok-vec.ensures.items_if_clones_equal (λ y is. is)) (c.in_ok-vec-2.ensures.items_if_clones_equal (λ y is. is))

pub returns : goal.returns
returns c = ap none_found (ap (λ (marks : List ℕ). length marks) (c.in_ok-vec.ensures.items_if_clones_equal (λ y is. is)) ∙ length-replicate {A = ℕ} c.args.nodes 0)
