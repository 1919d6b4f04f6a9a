use Rattle.std.proofs.Common.{rules, ◌≡◌, ◌++◌, ◌∷◌, [], length, sym, ◌∙◌}
use Rattle.rtrb.specs.Ring.{IsPair, received, sent}
use Rattle.engine_threads.specs.declared.starts.DeciderWork.{DeciderWork}
use Rattle.engine_threads.proofs.WorkLaws.{new_work, rings_grow, works_grow}
use Rattle.engine_threads.proofs.prepared.make_rings.Goals as goal

pub loop-decider-preserved : goal.loop-decider-preserved
loop-decider-preserved c =
    let inv = c.loop-decider.invariant in
    let work : DeciderWork = record { ring = c.in_ok-sender.ring; seats = c.new-in-loop-decider.result } in
    let senders : c.push.new.self.items ≡ c.loop-decider.senders.items ++ c.in_ok-sender.sender ∷ [] = search rules in
    let works : c.push-in-loop-decider.new.self.items ≡ c.loop-decider.works.items ++ work ∷ [] = search rules in
    let none : sent c.in_ok-sender.sender ≡ [] = search rules in
    let fresh : received c.in_ok-sender.ring ≡ [] = search rules in
    let pair : IsPair c.in_ok-sender.sender c.in_ok-sender.ring = search rules in (
      search rules,
      search rules,
      rw (senders, works) (rings_grow c.loop-decider.works.items c.loop-decider.senders.items work c.in_ok-sender.sender (inv.0 ∙ sym inv.1) none pair inv.2),
      rw works (works_grow [] c.loop-decider.works.items work inv.3 (new_work (length c.loop-decider.works.items) work fresh c.new-in-loop-decider.ensures.items)),
    )
