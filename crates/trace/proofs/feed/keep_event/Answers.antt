use Rattle.written.specs.WrittenLaws.{front_longer, front_none}
use Rattle.trace.proofs.feed.keep_event.Goals as goal

pub returns-then-run-clause-front : goal.returns-then-run-clause-front
returns-then-run-clause-front g c = front_none _ _

pub returns-in-Ok-clause-front : goal.returns-in-Ok-clause-front
returns-in-Ok-clause-front g c = front_none _ _

pub returns-in-Err-clause-front : goal.returns-in-Err-clause-front
returns-in-Err-clause-front g c = front_longer _ _ c.args.lines.now _ c.out_of_memory.ensures.front
