use Rattle.std.proofs.Common.{◌≡◌, ◌<◌, ◌&&◌, not, length, reverse, take, drop, get_or, ◌+◌, arith, subst, ap, sym, ◌∙◌}
use Rattle.due_model.specs.declared.event.Event.{Event}
use Rattle.due_model.specs.declared.event.EventKind.TheVariants.{Clock}
use Rattle.due_model.specs.claims.Readings.{hard, hard_after, is_problem_of, is_problem_state}
use Rattle.due_model.specs.claims.Histories.{of_problem}
use Rattle.lemmas.proofs.Lists.{past_more}
use Rattle.slow_rules.proofs.ProblemLemmas.{problem_begins, problem_goes_on}
use Rattle.slow_rules.proofs.histories.of_problem.Goals as goal
use Rattle.slow_rules.proofs.histories.of_problem.Goals.{then-begins, else-begins}

pub loop-index-preserved : goal.loop-index-preserved
loop-index-preserved c =
    let o = c.args.object.0 in
    let events = c.args.events.now in
    let history = c.args.history.now in
    let i = c.loop-index.index in
    let none : Event = record { moment = 0; kind = Clock } in
    let so_far = c.loop-index.invariant in
    let same : length events ≡ length history = c.requires in
    let within : i < length events = c.loop-index-test.true in
    let state = ap (hard_after o (get_or events i none).kind) so_far.state in
    let before = ap (λ s. is_problem_of o (get_or events i none).kind && not (is_problem_state s)) so_far.state in
    elim c.if-begins.branch [
      | then-begins w ↦ record {
        within = omega (arith, w.start-is);
        value = subst (λ s. reverse (drop s (take (i + 1) history)) ≡ of_problem o (reverse (take (i + 1) events)) (reverse (take (i + 1) history))) (sym w.start-is)
            (problem_begins o events history none i same within (sym before ∙ sym c.begins.ensures ∙ w.if-begins.true));
        state = c.hard_after-state.ensures ∙ state ∙ ap (hard o) (sym (past_more events i none within));
      }
      | else-begins w ↦ record {
        within = omega (arith, w.start-is, so_far.within);
        value = subst (λ s. reverse (drop s (take (i + 1) history)) ≡ of_problem o (reverse (take (i + 1) events)) (reverse (take (i + 1) history))) (sym w.start-is)
            (problem_goes_on o events history none c.loop-index.start i same within so_far.within (sym before ∙ sym c.begins.ensures ∙ w.if-begins.false) so_far.value);
        state = c.hard_after-state.ensures ∙ state ∙ ap (hard o) (sym (past_more events i none within));
      }
    ]
