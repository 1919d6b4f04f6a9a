use Rattle.std.proofs.Common.{◌≡◌, ℕ, Option, ◌++◌, ◌+◌, ◌∷◌, [], reverse, take, get_or, refl, sym, ap, ◌∙◌}
use Rattle.std.proofs.lemmas.List.Elements.{All-same, All-nil, All-push}
use Rattle.due_model.specs.declared.event.Event.{Event}
use Rattle.due_model.specs.declared.event.EventKind.TheVariants.{Clock}
use Rattle.due_model.specs.claims.Due.{due_for, notices, suppressed_for, suppressions}
use Rattle.due_model.specs.claims.Histories.{ended, hist, is_of_problem_attempt, outcome, released, released_by}
use Rattle.due_model.specs.claims.Acknowledgements.{takes_back}
use Rattle.due_model.specs.claims.Readings.{moment}
use Rattle.lemmas.proofs.Lists.{past_all}
use Rattle.slow_rules.specs.Histories.{IsInRange}
use Rattle.slow_rules.proofs.SlowLemmas.{hist_more, due_more, over_more, released_more, suppressed_more}
use Rattle.slow_rules.proofs.slow.find_answers.Goals as goal

pub loop-index-init : goal.loop-index-init
unfolding hist
loop-index-init c = record {
  due = c.new.ensures.items;
  suppressed = c.new-2.ensures.items;
  history = ap reverse c.new-history.ensures.items;
  over = refl;
  released = refl;
  length = c.new-history.ensures.len;
  in_range = All-same IsInRange c.new-history.result.items [] c.new-history.ensures.items (All-nil IsInRange);
}

pub loop-index-preserved : goal.loop-index-preserved
loop-index-preserved c =
    let s = c.args.subject.now in
    let config = s.config.now in
    let zone = s.zone.now in
    let o = s.id.0 in
    let settings = s.object.now in
    let events = c.args.events.now in
    let i = c.loop-index.index in
    let none : Event = record { moment = 0; kind = Clock } in
    let now = c.in_ok-now.now in
    let so_far = c.loop-index.invariant in
    let history = c.loop-index.history.items in
    let value : now ≡ outcome config zone o settings (get_or events i none) (reverse (take i events)) (reverse history) =
    c.in_ok-now.ensures.value ∙ ap (λ xs. outcome config zone o settings (get_or events i none) (reverse (take i events)) (reverse xs)) c.as_slice-so_far.ensures.value
    in
    record {
      due = c.in_ok-add_answers.ensures.due ∙ ap (λ xs. xs ++ notices config zone o settings c.args.lane.0 i now) so_far.due ∙ due_more config zone o settings c.args.lane.0 events i none history now c.loop-index-test.true so_far.history value;
      suppressed = c.in_ok-add_answers.ensures.suppressed ∙ ap (λ xs. xs ++ suppressions config zone o settings i now) so_far.suppressed ∙ suppressed_more config zone o settings events i none history now c.loop-index-test.true so_far.history value;
      history = ap reverse c.in_ok-push.ensures.items ∙ hist_more config zone o settings events i none history now c.loop-index-test.true so_far.history value;
      over = over_more config zone o settings events i none history now c.in_ok-ends.ends c.loop-index-test.true
          (c.in_ok-ends.ensures (so_far.over ∙ ap (λ xs. ended config zone o settings (reverse (take i events)) (reverse xs)) (sym c.as_slice-so_far.ensures.value))
          ∙ ap (λ xs. ended config zone o settings (get_or events i none ∷ reverse (take i events)) (now ∷ reverse xs)) c.as_slice-so_far.ensures.value)
          ∙ ap (λ xs. ended config zone o settings (reverse (take (i + 1) events)) (reverse xs)) (sym c.in_ok-push.ensures.items);
      released = released_more o events i none history now c.released_after-freed.result c.loop-index-test.true
          (c.released_after-freed.ensures ∙ ap (λ (m : Option ℕ). released_by (is_of_problem_attempt now) (takes_back o (get_or events i none) (reverse (take i events))) (moment (get_or events i none ∷ reverse (take i events))) m) so_far.released)
          ∙ ap (λ xs. released o (reverse (take (i + 1) events)) (reverse xs)) (sym c.in_ok-push.ensures.items);
      length = c.in_ok-push.ensures.len ∙ ap (λ n. n + 1) so_far.length;
      in_range = All-same IsInRange c.push.new.self.items (history ++ now ∷ []) c.in_ok-push.ensures.items (All-push IsInRange history now so_far.in_range c.in_ok-now.ensures.in_range);
    }

pub outcome-requires-clause-over : goal.outcome-requires-clause-over
outcome-requires-clause-over c =
    let s = c.args.subject.now in
    c.loop-index.invariant.over
    ∙ ap (λ xs. ended s.config.now s.zone.now s.id.0 s.object.now (reverse (take c.loop-index.index c.args.events.now)) (reverse xs)) (sym c.as_slice-so_far.ensures.value)

pub returns-clause-due : goal.returns-clause-due
returns-clause-due c =
    let s = c.args.subject.now in
    c.loop-index.invariant.due
    ∙ ap (due_for s.config.now s.zone.now s.id.0 s.object.now c.args.lane.0) (past_all c.args.events.now c.loop-index.index c.loop-index-test.false)

pub returns-clause-suppressed : goal.returns-clause-suppressed
returns-clause-suppressed c =
    let s = c.args.subject.now in
    c.loop-index.invariant.suppressed
    ∙ ap (suppressed_for s.config.now s.zone.now s.id.0 s.object.now) (past_all c.args.events.now c.loop-index.index c.loop-index-test.false)

pub outcome-requires-clause-freed : goal.outcome-requires-clause-freed
outcome-requires-clause-freed c =
    let s = c.args.subject.now in
    c.loop-index.invariant.released
    ∙ ap (λ xs. released s.id.0 (reverse (take c.loop-index.index c.args.events.now)) (reverse xs)) (sym c.as_slice-so_far.ensures.value)
