use Rattle.std.proofs.Common.{◌≡◌, ◌∙◌, ap, arith, length, sym, ℕ}
use Rattle.object_reached.specs.Services.{host_edges, hosts_in}
use Rattle.object_services.specs.Numbers.{pairs_in}
use Rattle.object_reached.proofs.ServiceLemmas.{edges-next, host-at}
use Rattle.object_reached.proofs.services.edges_of.Goals as goal

pub loop-service-preserved : goal.loop-service-preserved
loop-service-preserved c =
    edges-next (hosts_in (pairs_in c.args.pairs.now)) c.loop-service.edges.items _ c.loop-service.service _ c.loop-service.invariant c.in_ok-push.ensures.items
    (sym (host-at c.args.pairs.now c.loop-service.service _ c.loop-service-test.true))

pub returns : goal.returns
returns c =
    let end : c.loop-service.service ≡ length c.args.pairs.now = omega (arith, c.loop-service-test.false, c.loop-service.auto.service-end) in
    c.loop-service.invariant ∙ ap (λ (n : ℕ). host_edges (hosts_in (pairs_in c.args.pairs.now)) n) end
