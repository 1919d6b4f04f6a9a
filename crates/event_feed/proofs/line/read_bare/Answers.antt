use Rattle.std.proofs.Common.{sym}
use Rattle.event_feed.proofs.Parts.{bare_reading-fields}
use Rattle.event_feed.proofs.line.read_bare.Goals as goal

pub returns-in-Some : goal.returns-in-Some
returns-in-Some c = rw c.in-Some.is (sym (bare_reading-fields c.args.kind c.in-Some.field-0.now))
