use Rattle.std.proofs.Common.{List, length, subst}
use Rattle.due_feed.specs.Seen.{due_of, past_of}
use Rattle.due_model.specs.declared.config.Config.{Config}
use Rattle.earlier_runs.specs.Compared.{IsSame, TellsChange}
use Rattle.earlier_runs.specs.declared.left.LaneState.{LaneState}
use Rattle.run_resumed.proofs.ready.unchanged.Goals as goal

pub returns-in-None-clause-same : goal.returns-in-None-clause-same
returns-in-None-clause-same c =
    let given = c.in_ok-change_of.ensures.change in
    let events = length (past_of given.0) in (
      given.0,
      subst (λ (x : Config). IsSame c.args.kept.now.states.items events (due_of x c.args.zone.now (past_of given.0))) c.deref.ensures
          (subst (λ (xs : List LaneState). IsSame xs events (due_of c.deref.result.now c.args.zone.now (past_of given.0))) c.deref-2.ensures.value
          (subst (TellsChange c.deref-2.result.now events (due_of c.deref.result.now c.args.zone.now (past_of given.0))) c.in-None.is given.2)),
    )
