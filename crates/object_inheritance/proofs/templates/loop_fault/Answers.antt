use Rattle.std.proofs.Common.{List, ℕ, subst}
use Rattle.std.specs.Prelude.{IfNone}
use Rattle.graph.specs.claims.Chains.{HasNoLoop}
use Rattle.graph.specs.claims.Edges.{Leads}
use Rattle.object_inheritance.proofs.FaultLemmas.{free-no_loop}
use Rattle.object_inheritance.proofs.templates.loop_fault.Goals as goal

pub check_templates-requires-clause-no_loop : goal.check_templates-requires-clause-no_loop
check_templates-requires-clause-no_loop c =
    subst (λ (graph : List (List ℕ)). IfNone c.in-Ok.looped (HasNoLoop (Leads graph))) c.requires.graph c.in-Ok.ensures.no_loop

pub unreachable-requires : goal.unreachable-requires
unreachable-requires c =
    free-no_loop c.args.names.now c.args.graph.now c.in-Ok-check_templates.ensures.free c.requires.graph c.requires.a_loop
