use Rattle.std.proofs.Common.{◌≡◌, ◌++◌, ◌∙◌, ap, arith, replicate, sym, ℕ}
use Rattle.std.proofs.lemmas.List.{append-nil}
use Rattle.object_service_groups.proofs.NumberLemmas.{services-more}
use Rattle.object_service_groups.proofs.owners.push_block.Goals as goal

pub loop-service-init : goal.loop-service-init
loop-service-init c = sym (append-nil c.args.owners.now.items)

pub loop-service-preserved : goal.loop-service-preserved
loop-service-preserved c =
    services-more c.args.owners.now.items c.loop-service.owners.items c.push.new.self.items c.loop-service._service c.args.number c.loop-service.invariant c.in_ok-push.ensures.items

pub returns : goal.returns
returns c =
    let end : c.loop-service._service ≡ c.args.count = omega (arith, c.loop-service.auto._service-end, c.loop-service-test.false) in
    c.loop-service.invariant ∙ ap (λ (n : ℕ). c.args.owners.now.items ++ replicate n c.args.number) end
