use Rattle.written.specs.WrittenLaws.{front_none}
use Rattle.trace.proofs.feed.write_refusal.Goals as goal

pub returns-then-run-clause-front : goal.returns-then-run-clause-front
returns-then-run-clause-front g c = front_none _ _
