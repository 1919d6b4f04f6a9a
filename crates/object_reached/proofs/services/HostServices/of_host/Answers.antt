use Rattle.std.proofs.Common.{◌≡◌, ◌<◌, ◌≤◌, ◌∙◌, List, [], arith, length, subst}
use Rattle.object_reached.specs.Services.{IsByHost, services_on}
use Rattle.object_services.specs.claims.Numbers.{Pair}
use Rattle.object_reached.proofs.ServiceLemmas.{exactly-of, none-on}
use Rattle.object_reached.proofs.services.HostServices.of_host.Goals as goal

pub returns-then-host-node_count : goal.returns-then-host-node_count
returns-then-host-node_count c =
    let has : IsByHost c.args.self.now c.self.inside.graph = subst (λ (services : List Pair). IsByHost services c.self.inside.graph) c.self.view_is c.self.invariant in
    let low : c.args.host < length c.self.inside.graph = omega (arith, c.node_count.ensures.count, c.if-host-node_count.true) in
    let are : c.ends.result.now ≡ services_on c.args.self.now c.args.host = c.ends.ensures.value ∙ has.ends c.args.host low in
    record { are = are; exactly = exactly-of c.args.self.now c.args.host c.ends.result.now are }

pub returns-else-host-node_count : goal.returns-else-host-node_count
returns-else-host-node_count c =
    let has : IsByHost c.args.self.now c.self.inside.graph = subst (λ (services : List Pair). IsByHost services c.self.inside.graph) c.self.view_is c.self.invariant in
    let past : length c.self.inside.graph ≤ c.args.host = omega (arith, c.node_count.ensures.count, c.if-host-node_count.false) in
    let are : [] ≡ services_on c.args.self.now c.args.host = none-on c.args.self.now c.self.inside.graph c.args.host has past in
    record { are = are; exactly = exactly-of c.args.self.now c.args.host [] are }
