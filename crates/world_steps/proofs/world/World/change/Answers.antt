use Rattle.lemmas.proofs.Results.{on_err_always}
use Rattle.world_steps.specs.claims.Views.{world_setup}
use Rattle.world_steps.proofs.ListLemmas.{on_either}
use Rattle.world_steps.proofs.StepLaws.{fits_changed, fits_left, state_changed, state_left}
use Rattle.world_steps.proofs.world.World.change.Goals as goal

pub invariant_of-self : goal.invariant_of-self
invariant_of-self c =
    let w = c.args.self.now in
    let a = c.index_mut-lane.result.now in
    let b = c.perform.new.self in
    let at_l = c.index_mut-lane.ensures.value in
    record {
      fits = on_either c.perform.result
          (λ done _. fits_changed (world_setup w) w.posted.items w.deciders.items w.lanes.items w.fits c.args.lane c.args.step a b c.requires at_l done)
          (λ same _. fits_left (world_setup w) w.posted.items w.deciders.items w.lanes.items w.fits c.args.lane.0 a b at_l same)
          c.perform.ensures.ok c.perform.ensures.ok c.perform.ensures.err c.perform.ensures.err;
    }

pub returns-in_err-perform-clause-err : goal.returns-in_err-perform-clause-err
returns-in_err-perform-clause-err c =
    let w = c.args.self.now in
    on_err_always _ (state_left (world_setup w) w.posted.items w.deciders.items w.lanes.items w.fits c.args.lane.0 c.index_mut-lane.result.now
    c.perform.new.self c.index_mut-lane.ensures.value c.in_err-perform.ensures.err)

pub returns-clause-ok : goal.returns-clause-ok
returns-clause-ok c =
    let w = c.args.self.now in
    state_changed (world_setup w) w.posted.items w.deciders.items w.lanes.items w.fits c.args.lane c.args.step c.index_mut-lane.result.now
    c.perform.new.self c.requires c.index_mut-lane.ensures.value c.in_ok-perform.ensures.ok
