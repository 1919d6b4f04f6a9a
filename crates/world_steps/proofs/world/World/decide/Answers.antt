use Rattle.std.proofs.Common.{◌≡◌, ◌<◌, ◌≤◌, ◌∷◌, ℕ, List, Err, length, get_or, take, reverse, sym, ap, ◌∙◌, subst, arith}
use Rattle.due_model.specs.declared.config.Config.{Config}
use Rattle.due_model.specs.declared.event.Event.{Event}
use Rattle.due_model.specs.declared.zone.Zone.{Zone}
use Rattle.due_model.specs.claims.Limits.{max_events}
use Rattle.decider.specs.declared.share.Share.{Share}
use Rattle.decider.specs.claims.Fits.{settings}
use Rattle.world_steps.specs.declared.deciders.KeptDecider.{KeptDecider}
use Rattle.world_steps.specs.claims.Fits.{count}
use Rattle.world_steps.specs.claims.Views.{world_setup}
use Rattle.world_steps.proofs.ListLemmas.{on_either}
use Rattle.world_steps.proofs.FitLaws.{past_length}
use Rattle.world_steps.proofs.StepLaws.{here, left, fits_decided, state_decided, fits_kept, state_kept}
use Rattle.world_steps.proofs.world.World.decide.Goals as goal

-- fewer events are decided than may be
decided_few : (posted : List Event) (n : ℕ) → n < length posted → n ≤ length posted → length posted ≤ max_events → length (reverse (take n posted)) < max_events
decided_few posted n less within short = omega (arith, past_length posted n within, less, short)

pub decide-requires-clause-fits : goal.decide-requires-clause-fits
decide-requires-clause-fits c =
    let w = c.args.self.now in
    let x = c.index_mut-next.result.now in
    let fits = here (world_setup w) w.posted.items w.deciders.items w.lanes.items w.fits c.args.decider x c.requires c.index_mut-next.ensures.value in
    (reverse (take (count x) w.posted.items), fits.past)

pub decide-requires-clause-lanes : goal.decide-requires-clause-lanes
decide-requires-clause-lanes c =
    let w = c.args.self.now in
    let fits = here (world_setup w) w.posted.items w.deciders.items w.lanes.items w.fits c.args.decider c.index_mut-next.result.now c.requires c.index_mut-next.ensures.value in
    fits.lanes ∙ sym (ap (λ (t : Config × Zone × Share). length t.0.lanes) fits.settings)

pub unreachable-requires : goal.unreachable-requires
unreachable-requires c =
    let w = c.args.self.now in
    let x = c.index_mut-next.result.now in
    let fits = here (world_setup w) w.posted.items w.deciders.items w.lanes.items w.fits c.args.decider x c.requires c.index_mut-next.ensures.value in
    let less = left (world_setup w) w.posted.items w.deciders.items w.lanes.items w.fits c.args.decider x c.requires c.index_mut-next.ensures.value in
    let full : length (reverse (take (count x) w.posted.items)) ≡ max_events = (c.in-Err-Ended.ensures.ended (reverse (take (count x) w.posted.items)) fits.past).0 (ap (λ fault. Err fault) c.in-Err-Ended.field-0-is) in
    let few = decided_few w.posted.items (count x) less fits.within w.fits.short in
    absurd (omega (arith, full, few))

pub returns-in-Ok-clause-ok : goal.returns-in-Ok-clause-ok
returns-in-Ok-clause-ok c =
    let w = c.args.self.now in
    let e = c.index-event.result.now in
    let x = c.index_mut-next.result.now in
    let y : KeptDecider = record { decider = c.clear_log.new.self; outbox = c.decide.new.outbox } in
    let read : e ≡ get_or w.posted.items (count x) e = subst (λ (n : ℕ). e ≡ get_or w.posted.items n e) c.decided.ensures c.index-event.ensures in
    let done = c.in-Ok.ensures in
    state_decided (world_setup w) w.posted.items w.deciders.items w.lanes.items w.fits c.args.decider x c.requires c.index_mut-next.ensures.value y e
    c.tell_of_events.ensures.events read (λ past fits. c.clear_log.ensures.fits (e ∷ past) (done.fits past fits)) done.notices
    (ap settings c.clear_log.ensures.log ∙ done.settings) done.lanes

pub invariant_of-self : goal.invariant_of-self
invariant_of-self c =
    let w = c.args.self.now in
    let e = c.index-event.result.now in
    let x = c.index_mut-next.result.now in
    let y : KeptDecider = record { decider = c.clear_log.new.self; outbox = c.decide.new.outbox } in
    let read : e ≡ get_or w.posted.items (count x) e = subst (λ (n : ℕ). e ≡ get_or w.posted.items n e) c.decided.ensures c.index-event.ensures in
    let done = c.in-Ok.ensures in
    record {
      fits = fits_decided (world_setup w) w.posted.items w.deciders.items w.lanes.items w.fits c.args.decider x c.requires c.index_mut-next.ensures.value y e
          c.tell_of_events.ensures.events read (λ past fits. c.clear_log.ensures.fits (e ∷ past) (done.fits past fits)) done.notices
          (ap settings c.clear_log.ensures.log ∙ done.settings) done.lanes;
    }

pub invariant_of-self-in-Err-1 : goal.invariant_of-self-in-Err-1
invariant_of-self-in-Err-1 c =
    let w = c.args.self.now in
    let e = c.index-event.result.now in
    let x = c.index_mut-next.result.now in
    let y : KeptDecider = record { decider = c.decide.new.self; outbox = c.decide.new.outbox } in
    let read : e ≡ get_or w.posted.items (count x) e = subst (λ (n : ℕ). e ≡ get_or w.posted.items n e) c.decided.ensures c.index-event.ensures in
    let done = c.decide.ensures in
    let at_d = c.index_mut-next.ensures.value in
    record {
      fits = on_either c.decide.result
          (λ fits notices. fits_decided (world_setup w) w.posted.items w.deciders.items w.lanes.items w.fits c.args.decider x c.requires at_d y e
          c.tell_of_events.ensures.events read fits notices done.settings done.lanes)
          (λ same _. fits_kept (world_setup w) w.posted.items w.deciders.items w.lanes.items w.fits c.args.decider x y c.requires.there at_d same.0 same.1)
          done.fits done.notices done.err done.err;
    }

pub returns-in-Err-NoMemory-clause-err : goal.returns-in-Err-NoMemory-clause-err
returns-in-Err-NoMemory-clause-err c =
    let w = c.args.self.now in
    let y : KeptDecider = record { decider = c.decide.new.self; outbox = c.decide.new.outbox } in
    state_kept (world_setup w) w.posted.items w.deciders.items w.lanes.items w.fits c.args.decider c.index_mut-next.result.now y
    c.index_mut-next.ensures.value c.in-Err-NoMemory.ensures.err.0 c.in-Err-NoMemory.ensures.err.1
