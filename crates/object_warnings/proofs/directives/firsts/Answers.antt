use Rattle.std.proofs.Common.{Bool, ap, not}
use Rattle.object_groups.specs.Names.{is_doubled}
use Rattle.object_warnings.proofs.NumberLemmas.{one-more}
use Rattle.object_warnings.proofs.directives.firsts.Goals as goal

pub loop-number-preserved : goal.loop-number-preserved
loop-number-preserved c =
    one-more (λ number. not (is_doubled c.args.names.now number)) c.loop-number.number c.loop-number.found.items _ (not c.is_doubled.result)
    c.loop-number.invariant c.in_ok-push_where.ensures (ap (λ (b : Bool). not b) c.is_doubled.ensures)
