use Rattle.std.proofs.Common.{arith}
use Rattle.event_feed.proofs.Parts.{fields-whole, fields-split}
use Rattle.event_feed.proofs.line.split_field.Goals as goal

pub returns-then-end-bytes : goal.returns-then-end-bytes
returns-then-end-bytes c = fields-split c.args.bytes.now c.find_near-end.result c.find_near-end.ensures (omega arith)

pub returns-else-end-bytes : goal.returns-else-end-bytes
returns-else-end-bytes c = fields-whole c.args.bytes.now (omega (arith, c.find_near-end.ensures))
