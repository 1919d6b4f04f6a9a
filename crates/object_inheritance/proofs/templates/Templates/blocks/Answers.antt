use Rattle.std.proofs.Common.{subst}
use Rattle.std.specs.Arc.{arc_value}
use Rattle.graph_order.specs.Order.{IsOrder}
use Rattle.object_inheritance.specs.Inherited.{AreInherited, AreShort}
use Rattle.object_inheritance.proofs.InheritedLemmas.{are-inherited, are-short}
use Rattle.object_inheritance.proofs.templates.Templates.blocks.Goals as goal

pub returns-clause-inherited : goal.returns-clause-inherited
returns-clause-inherited c =
    subst AreInherited c.self.view_is (are-inherited c.self.inside.blocks.now (arc_value c.self.inside.uses).order.items
    (subst (λ graph. IsOrder graph (arc_value c.self.inside.uses).order.items) c.self.invariant.using.same c.self.invariant.using.ordered))

pub returns-clause-short : goal.returns-clause-short
returns-clause-short c =
    subst AreShort c.self.view_is (are-short c.self.inside.blocks.now (arc_value c.self.inside.uses).order.items
    (subst (λ graph. IsOrder graph (arc_value c.self.inside.uses).order.items) c.self.invariant.using.same c.self.invariant.using.ordered))
