use Rattle.std.proofs.Common.{rules, ◌≡◌, ◌++◌, ◌∷◌, [], List, reverse, append-nil, subst, sym, ap, ◌∙◌}
use Rattle.due_model.specs.declared.event.Event.{Event}
use Rattle.decider_thread.specs.declared.Signal.{Signal}
use Rattle.decider_thread.specs.declared.Signal.TheVariants.{Decides}
use Rattle.decider_thread.specs.Decided.{heard}
use Rattle.engine_threads.specs.Sent.{HaveSent}
use Rattle.engine_threads.proofs.SentLaws.{heard_given, same_all}
use Rattle.engine_threads.proofs.signals.send_each.Goals as goal

pub loop-preserved-in-Ok-Nothing : goal.loop-preserved-in-Ok-Nothing
loop-preserved-in-Ok-Nothing g c =
    let inv = c.loop.invariant in
    let was = g.S.Source.given_so_far c.loop.source in
    let given : g.S.Source.given_so_far c.next-in-loop.new.self ≡ was ++ [] = search rules in
    let same : was ≡ g.S.Source.given_so_far c.next-in-loop.new.self = sym (given ∙ append-nil was) in (
      inv.0,
      subst (λ (es : List Event). HaveSent (heard (reverse es)) c.loop.rings.items) same inv.1,
      inv.2,
      g.S.Source.follows c.args.config.now c.args.source.now c.loop.source c.next-in-loop.new.self inv.3 c.next-in-loop.ensures.goes,
    )

pub loop-preserved : goal.loop-preserved
loop-preserved g c =
    let inv = c.loop.invariant in
    let was = g.S.Source.given_so_far c.loop.source in
    let event = c.in-Ok-Event.event in
    let given : g.S.Source.given_so_far c.next-in-loop.new.self ≡ was ++ event ∷ [] = search rules in
    let more : heard (reverse was) ++ Decides event ∷ [] ≡ heard (reverse (g.S.Source.given_so_far c.next-in-loop.new.self)) = sym (heard_given was event) ∙ ap (λ (es : List Event). heard (reverse es)) (sym given) in (
      same_all c.args.rings.now.items c.loop.rings.items c.send_all.new.rings.items c.send_all.ensures.count inv.0 c.send_all.ensures.same,
      subst (λ (ss : List Signal). HaveSent ss c.send_all.new.rings.items) more (c.send_all.ensures.sent (heard (reverse was)) inv.1),
      c.send_all.ensures.count ∙ inv.2,
      g.S.Source.follows c.args.config.now c.args.source.now c.loop.source c.next-in-loop.new.self inv.3 c.next-in-loop.ensures.goes,
    )
