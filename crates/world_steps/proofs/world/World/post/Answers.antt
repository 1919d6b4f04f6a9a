use Rattle.std.proofs.Common.{List, is_ok, sym, subst}
use Rattle.due_model.specs.declared.event.Event.{Event}
use Rattle.world_steps.specs.claims.Fits.{Fits}
use Rattle.world_steps.specs.claims.Views.{world_setup}
use Rattle.world_steps.proofs.StepLaws.{fits_pushed}
use Rattle.world_steps.proofs.world.World.post.Goals as goal

pub invariant_of-self : goal.invariant_of-self
invariant_of-self c =
    let w = c.args.self.now in
    record {
      fits = subst (λ (posted : List Event). Fits (world_setup w) posted w.deciders.items w.lanes.items) (sym c.push.ensures.items)
          (fits_pushed (world_setup w) w.posted.items w.deciders.items w.lanes.items w.fits c.args.event c.requires.proper c.requires.enabled (is_ok c.push.result));
    }
