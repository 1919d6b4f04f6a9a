use Rattle.std.proofs.Common.{rules, ap, ◌∙◌, ◌≡◌, ◌++◌, ◌∷◌, [], List}
use Rattle.rtrb.specs.Ring.{SameConsumer, received}
use Rattle.decider_thread.specs.declared.Signal.{Signal}
use Rattle.decider_thread.specs.declared.Signal.TheVariants.{Decides}
use Rattle.decider_thread.proofs.events.skip_rest.Goals as goal

pub loop-preserved : goal.loop-preserved
loop-preserved g c =
    let event = c.in-Ok-Decides.field-0-0 in
    let got : received c.pop.new.self ≡ received c.loop.ring ++ Decides event ∷ [] = search rules in
    let same : SameConsumer c.args.ring.now c.pop.new.self = search rules in (
      same,
      λ past was. let old = c.loop.invariant.1 past was in (event ∷ old.0, got ∙ ap (λ (ss : List Signal). ss ++ Decides event ∷ []) old.1),
    )
