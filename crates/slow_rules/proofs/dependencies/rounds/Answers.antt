use Rattle.slow_rules.proofs.RoundLemmas.{objects_more}
use Rattle.slow_rules.proofs.dependencies.rounds.Goals as goal

pub loop-round-preserved : goal.loop-round-preserved
loop-round-preserved c = λ zone t open_then.
    objects_more c.args.config.now zone c.args.states.now t c.loop-round._round c.args.periods.now c.loop-round.flags.items c.as_slice.result.now c.in_ok-next.next.items
    c.in_ok-next.ensures open_then c.as_slice.ensures.value (c.loop-round.invariant zone t open_then)
