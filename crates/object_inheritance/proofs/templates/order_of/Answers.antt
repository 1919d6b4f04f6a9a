use Rattle.std.proofs.Common.{List, ℕ, subst}
use Rattle.std.specs.Prelude.{IfSome}
use Rattle.graph.specs.claims.Chains.{HasNoLoop}
use Rattle.graph.specs.claims.Edges.{Leads}
use Rattle.object_inheritance.proofs.templates.order_of.Goals as goal

pub check_templates-requires-clause-no_loop : goal.check_templates-requires-clause-no_loop
check_templates-requires-clause-no_loop c =
    subst (λ (graph : List (List ℕ)). HasNoLoop (Leads graph)) c.requires
    (subst (λ found. IfSome found (λ _. HasNoLoop (Leads c.args.graph.now))) c.in-Some.is c.in_ok-places.ensures.no_loop)
