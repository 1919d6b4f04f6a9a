use Rattle.std.proofs.Common.{◌≡◌, ap, sym, ◌∙◌}
use Rattle.due_times.specs.claims.Index.{Due}
use Rattle.due_times.specs.Levels.{leaves}
use Rattle.due_times.proofs.Next.{not_due, nothing_by_first}
use Rattle.due_times.proofs.Index.next_due.Goals as goal

pub returns-then-not-has_come-clause-none : goal.returns-then-not-has_come-clause-none
returns-then-not-has_come-clause-none c =
    let same : leaves c.as_slice.result.now ≡ c.args.self.now.moments = ap leaves c.as_slice.ensures.value ∙ ap (λ (due : Due). due.moments) c.self.view_is in
    λ p more. rw (← same) (not_due (leaves c.as_slice.result.now) c.args.t
    (nothing_by_first c.first_moment.result (leaves c.as_slice.result.now) c.args.t c.first_moment.ensures.least c.first_moment.ensures.none (sym c.has_come.ensures ∙ c.if-not-has_come.true)) p)
