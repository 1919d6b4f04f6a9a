use Rattle.notices_compared.proofs.comparison.Comparison.new.Goals as goal

pub returns-clause-told_before : goal.returns-clause-told_before
returns-clause-told_before c = λ zone. rw c.len.ensures at (c.in_ok-new-3.ensures zone)

pub returns-clause-told_after : goal.returns-clause-told_after
returns-clause-told_after c = λ zone. rw c.len-2.ensures at (c.in_ok-new-4.ensures zone)
