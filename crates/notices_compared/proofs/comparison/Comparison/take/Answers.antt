use Rattle.std.proofs.Common.{length}
use Rattle.notices_compared.proofs.comparison.Comparison.take.Goals as goal

pub returns-clause-text : goal.returns-clause-text
returns-clause-text c = λ past past' s s'.
    rw (c.take.ensures.config, c.take-2.ensures.config, c.move_clock.ensures, c.as_slice.ensures.value, c.as_slice-2.ensures.value, c.in_ok-take.ensures.notices past s, c.in_ok-take-2.ensures.notices past' s') at c.in_ok-push_changes.ensures

pub returns-clause-told_before : goal.returns-clause-told_before
returns-clause-told_before c = λ past marks s are.
    (rw (c.move_clock.ensures, c.event_of-first.ensures, c.in_ok-take.ensures.notices past s) at (c.in_ok-count.ensures (length c.args.self.now.before.config.now.contacts) marks)) are

pub returns-clause-told_after : goal.returns-clause-told_after
returns-clause-told_after c = λ past marks s are.
    (rw (c.move_clock.ensures, c.event_of-second.ensures, c.in_ok-take-2.ensures.notices past s) at (c.in_ok-count-2.ensures (length c.args.self.now.after.config.now.contacts) marks)) are
