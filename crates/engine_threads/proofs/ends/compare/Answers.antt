use Rattle.std.proofs.Common.{rules}
use Rattle.rtrb.specs.Ring.{known_items, received, sent}
use Rattle.engine_threads.proofs.HeardLaws.{heard_same}
use Rattle.engine_threads.proofs.ends.compare.Goals as goal

pub returns : goal.returns
returns c = λ all past got was. heard_same all past (received c.args.ring.now) (known_items c.slots_beside.new.self) (sent c.args.sender.now) (search rules) got was
