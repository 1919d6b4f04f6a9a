use Rattle.std.proofs.Common.{◌≡◌, List, ℕ, rules, subst, IfOk}
use Rattle.object_dependencies.specs.claims.Entries.{AreDependencies}
use Rattle.object_dependencies.specs.Pairs.{BlocksOf}
use Rattle.object_groups.specs.claims.Objects.{names_in}
use Rattle.object_reader.specs.declared.block.BlockKind.TheVariants.{TimePeriod}
use Rattle.object_resolve.proofs.config.dependencies_in.Goals as goal

pub returns : goal.returns
returns c =
    let names : c.names-periods.result.now ≡ names_in c.args.templates.now TimePeriod = search rules in
    subst (λ (b : BlocksOf). IfOk c.dependencies_of.result (λ made. AreDependencies c.args.templates.now b.lists (names_in c.args.templates.now TimePeriod) made.items)) c.in_ok-blocks.ensures
    (subst (λ (ns : List (List ℕ)). IfOk c.dependencies_of.result (λ made. AreDependencies c.args.templates.now c.in_ok-blocks.blocks.lists ns made.items)) names c.dependencies_of.ensures.dependencies)
