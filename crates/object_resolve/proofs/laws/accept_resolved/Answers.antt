use Rattle.object_resolve.proofs.Accepted.{resolved-accepted}
use Rattle.object_resolve.proofs.laws.accept_resolved.Goals as goal

pub returns : goal.returns
returns c = λ blocks config of.
    resolved-accepted c.listed_are_objects.ensures c.count_is_the_sum.ensures c.periods_fit.ensures c.no_loop_is_left.ensures c.one_for_each.ensures c.each_is_counted.ensures
    c.dependencies_fit.ensures c.no_loop_is_left-2.ensures blocks config of.fitting.gives of.fitting.within of.fitting.no_loop of.fitting.no_dependency_loop
