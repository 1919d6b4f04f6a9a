use Rattle.object_faults.proofs.KnownLemmas.{known-set}
use Rattle.object_faults.proofs.first.keep.Goals as goal

pub returns-then-place-known : goal.returns-then-place-known
returns-then-place-known c blocks column before is = known-set blocks column c.args.known.now c.args.place c.args.one c.if-place-known.true before is
