use Rattle.std.proofs.Common.{List, is_some, slice_get, sym, ap, ◌∙◌}
use Rattle.std.proofs.lemmas.List.{length-map}
use Rattle.due_model.specs.declared.notice.Notice.{Notice}
use Rattle.world_steps.proofs.ListLemmas.{some_front}
use Rattle.world_steps.proofs.FitLaws.{outbox_there, outbox_read}
use Rattle.world_steps.proofs.world.World.waits.Goals as goal

pub front-requires : goal.front-requires
front-requires c =
    let w = c.args.self.now in
    outbox_there w.fits c.args.decider c.args.lane.0 c.index-from.result.now c.requires.decider c.index-from.ensures c.requires.lane

pub returns : goal.returns
returns c =
    some_front _ c.is_some.result (c.is_some.ensures ∙ ap is_some c.front.ensures
    ∙ ap (λ (ns : List Notice). is_some (slice_get ns 0)) (sym (outbox_read c.args.self.now.deciders.items c.args.decider c.index-from.result.now c.args.lane.0 (simp length-map at c.requires.decider) c.index-from.ensures)))
