use Rattle.std.proofs.Common.{◌≡◌, ap, ◌∙◌}
use Rattle.due_times.specs.claims.Index.{Due, at}
use Rattle.due_times.specs.Levels.{leaves}
use Rattle.due_times.proofs.Index.pop_due.Goals as goal

pub returns-in_default-clause-none : goal.returns-in_default-clause-none
returns-in_default-clause-none c =
    let same : leaves c.as_slice.result.now ≡ c.args.self.now.moments = ap leaves c.as_slice.ensures.value ∙ ap (λ (due : Due). due.moments) c.self.view_is in
    λ o m here. c.in_default.ensures.none c.args.t o m (ap (λ xs. at xs o) same ∙ here)

pub returns-then-moment-t-clause-none : goal.returns-then-moment-t-clause-none
returns-then-moment-t-clause-none c =
    let same : leaves c.as_slice.result.now ≡ c.args.self.now.moments = ap leaves c.as_slice.ensures.value ∙ ap (λ (due : Due). due.moments) c.self.view_is in
    λ o m here. c.in-Some.ensures.least c.args.t c.if-moment-t.true o m (ap (λ xs. at xs o) same ∙ here)
