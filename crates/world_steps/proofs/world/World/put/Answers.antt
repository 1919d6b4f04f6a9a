use Rattle.std.proofs.Common.{◌≡◌, ◌<◌, is_some, true, false, length, refl, sym, ap, ◌∙◌, arith}
use Rattle.std.proofs.lemmas.List.{length-map}
use Rattle.lemmas.proofs.Results.{on_err_always}
use Rattle.decider.specs.claims.Outbox.{waiting_at}
use Rattle.world_steps.specs.declared.deciders.KeptDecider.{KeptDecider}
use Rattle.world_steps.specs.claims.Views.{world_setup}
use Rattle.world_steps.proofs.ListLemmas.{some_front}
use Rattle.world_steps.proofs.FitLaws.{outbox_there, outbox_read}
use Rattle.world_steps.proofs.StepLaws.{fits_put, state_put, fits_stays, state_stays}
use Rattle.world_steps.proofs.world.World.put.Goals as goal

pub front-requires : goal.front-requires
front-requires c =
    outbox_there c.args.self.now.fits c.args.decider c.args.lane.0 c.index_mut-from.result.now c.requires.decider c.index_mut-from.ensures.value c.requires.lane

pub returns-in_err-enqueue-clause-err : goal.returns-in_err-enqueue-clause-err
returns-in_err-enqueue-clause-err c =
    let w = c.args.self.now in
    on_err_always _ (state_stays (world_setup w) w.posted.items w.deciders.items w.lanes.items w.fits c.args.decider c.args.lane.0 c.index_mut-from.result.now c.index_mut-to.result.now c.enqueue.new.self
    c.requires.decider c.index_mut-from.ensures.value c.index_mut-to.ensures.value c.in_err-enqueue.ensures.err)

pub invariant_of-self : goal.invariant_of-self
invariant_of-self c =
    let w = c.args.self.now in
    record {
      fits = fits_stays (world_setup w) w.posted.items w.deciders.items w.lanes.items w.fits c.args.decider c.args.lane.0 c.index_mut-from.result.now c.index_mut-to.result.now c.enqueue.new.self
          c.requires.decider c.index_mut-from.ensures.value c.index_mut-to.ensures.value c.in_err-enqueue.ensures.err;
    }

pub returns-in_ok-enqueue-clause-ok : goal.returns-in_ok-enqueue-clause-ok
returns-in_ok-enqueue-clause-ok c =
    let w = c.args.self.now in
    let x = c.index_mut-from.result.now in
    let y : KeptDecider = record { decider = x.decider; outbox = c.take_front.new.self } in
    state_put (world_setup w) w.posted.items w.deciders.items w.lanes.items w.fits c.args.decider c.args.lane x y c.index_mut-to.result.now c.enqueue.new.self c.in-Some.notice
    c.requires c.index_mut-from.ensures.value c.index_mut-to.ensures.value (sym c.front.ensures ∙ c.in-Some.is) refl c.take_front.ensures.rest c.in_ok-enqueue.ensures.ok

pub invariant_of-self-in-Some : goal.invariant_of-self-in-Some
invariant_of-self-in-Some c =
    let w = c.args.self.now in
    let x = c.index_mut-from.result.now in
    let y : KeptDecider = record { decider = x.decider; outbox = c.take_front.new.self } in
    record {
      fits = fits_put (world_setup w) w.posted.items w.deciders.items w.lanes.items w.fits c.args.decider c.args.lane x y c.index_mut-to.result.now c.enqueue.new.self c.in-Some.notice
          c.requires c.index_mut-from.ensures.value c.index_mut-to.ensures.value (sym c.front.ensures ∙ c.in-Some.is) refl c.take_front.ensures.rest c.in_ok-enqueue.ensures.ok;
    }

pub returns-in_default-clause-ok : goal.returns-in_default-clause-ok
returns-in_default-clause-ok c =
    let w = c.args.self.now in
    let d = c.args.decider in
    let l = c.args.lane.0 in
    let x = c.index_mut-from.result.now in
    let there : d < length w.deciders.items = simp length-map at c.requires.decider in
    let some : 0 < length (waiting_at x.outbox l) = omega (arith, c.requires.outbox, ap length (outbox_read w.deciders.items d x l there c.index_mut-from.ensures.value)) in
    let t : is_some c.front.result ≡ true = (some_front (waiting_at x.outbox l) (is_some c.front.result) (ap is_some c.front.ensures)).1 some in
    let f : is_some c.front.result ≡ false = ap is_some c.in_default.is in
    absurd (cc)
