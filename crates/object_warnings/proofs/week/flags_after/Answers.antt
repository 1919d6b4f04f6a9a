use Rattle.std.proofs.Common.{◌-◌, ◌∙◌, refl}
use Rattle.object_warnings.proofs.SteadyLemmas.{flags-same}
use Rattle.object_warnings.proofs.week.flags_after.Goals as goal

pub returns-then-is_steady : goal.returns-then-is_steady
returns-then-is_steady c config are same last =
    c.in_ok-copy.ensures.items ∙ last
    ∙ flags-same config c.args.plain.now c.args.minute (c.args.minute - 1) c.args.clock.now c.moment_of.result c.moment_of-2.result c.requires.clock same c.requires.plain c.moment_of.ensures
    c.moment_of-2.ensures (c.if-is_steady.ensures refl)
