use Rattle.std.proofs.Common.{◌≡◌, List, [], length, map, replicate, sym, ap, ◌∙◌, subst, arith}
use Rattle.std.proofs.lemmas.List.Elements.{All-nil}
use Rattle.due_model.specs.declared.event.Event.{Event}
use Rattle.due_model.specs.claims.Proper.{IsProper}
use Rattle.steps.specs.claims.Lanes.{LaneState}
use Rattle.world_steps.specs.claims.Worlds.{DeciderState, setup_for}
use Rattle.world_steps.specs.Worlds.{new_decider}
use Rattle.world_steps.specs.Runs.{new_world}
use Rattle.steps.specs.claims.Lanes.{lane_state}
use Rattle.world_steps.specs.claims.Fits.{Fits, StateFits, state_of}
use Rattle.world_steps.proofs.NewWorlds.{new_fits}
use Rattle.world_steps.proofs.world.World.new.Goals as goal

pub invariant_of-result : goal.invariant_of-result
invariant_of-result c =
    let config = c.args.config.now in
    let s = setup_for config c.args.zone.now c.args.settings in
    let deciders = c.in_ok-new_deciders.field-0.items in
    let lanes = c.in_ok-new_lanes.field-0.items in
    let fresh = c.in_ok-new_deciders.ensures in
    let none : c.new.result.items ≡ [] = c.new.ensures.items in
    let state : state_of [] deciders lanes ≡ new_world s c.args.served.now =
    ap (λ (all : List DeciderState). record { posted = []; deciders = all; lanes = map lane_state lanes }) fresh.states
    ∙ ap (λ (all : List LaneState). record { posted = []; deciders = replicate c.args.settings.deciders (new_decider (length config.lanes)); lanes = all }) c.in_ok-new_lanes.ensures in
    record {
      fits = subst (λ (posted : List Event). Fits s posted deciders lanes) (sym none) (record {
        accepted = c.requires.accepted;
        proper = All-nil (IsProper config);
        short = omega arith;
        each = fresh.fits;
        state = subst (StateFits s) (sym state) (new_fits s c.args.served.now c.requires.served);
      });
    }
