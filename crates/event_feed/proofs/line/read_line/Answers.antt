use Rattle.std.proofs.Common.{sym}
use Rattle.event_feed.specs.claims.Line.{fields}
use Rattle.event_feed.proofs.ProperLines.{command-proper, stamp_of-early}
use Rattle.event_feed.proofs.line.read_line.Goals as goal

pub returns-clause-proper : goal.returns-clause-proper
returns-clause-proper c =
    record {
      stamp = stamp_of-early c.args.line.now c.in-Some.stamp.moment (sym c.in-Some.ensures.moment);
      kind = command-proper c.args.config.now (fields c.in-Some.stamp.command.now) c.in_ok-kind.kind (sym c.in_ok-kind.ensures);
    }
