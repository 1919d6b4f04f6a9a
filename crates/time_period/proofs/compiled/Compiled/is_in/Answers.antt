use Rattle.std.proofs.Common.{◌∙◌, ap, arith, sym}
use Rattle.time_period.specs.claims.Days.{worked_holds}
use Rattle.time_period.specs.Flags.{flag_at}
use Rattle.time_period.proofs.WalkLemmas.{holds_in, same_local}
use Rattle.time_period.proofs.compiled.Compiled.is_in.Goals as goal

pub returns : goal.returns
returns c = λ config period compiled.
    let before = flag_at c.args.flags.now in
    sym (c.stretch_at.ensures.stretch.alike c.local_time.result.second (omega arith) c.stretch_at.ensures.stretch.later)
    ∙ ap (worked_holds c.args.self.now before) (same_local c.args.zone.now c.args.t c.local_time.result.day c.local_time.result.second c.local_time.ensures.day c.local_time.ensures.second)
    ∙ holds_in config c.args.zone.now period c.args.self.now before compiled c.args.t
