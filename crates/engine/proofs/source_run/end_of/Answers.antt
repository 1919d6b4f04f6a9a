use Rattle.std.proofs.Common.{arith, ◌<◌, length, subst}
use Rattle.std.proofs.lemmas.Option.{slice_get_within}
use Rattle.lemmas.proofs.Lists.{some_at}
use Rattle.engine.specs.Lanes.{IsEndOf}
use Rattle.engine.proofs.RunEndLaws.{run_is}
use Rattle.engine.proofs.source_run.end_of.Goals as goal

pub returns-clause-run : goal.returns-clause-run
returns-clause-run g c = λ config zone given events told counts threads.
    run_is config zone given events c.args.left.memory c.args.left.lanes.items told c.args.left.log.items _ threads c.ends_of.ensures.count
    (λ l s lane at_s at_lane.
    let inside = slice_get_within c.args.left.lanes.items l s at_s in
    let long = c.requires.counts in
    let n = some_at c.args.counts.now l (omega (arith, inside, long)) in
    subst (λ k. IsEndOf l k s lane) (counts l n.0 n.1) (c.ends_of.ensures.each l n.0 s lane n.1 at_s at_lane))
