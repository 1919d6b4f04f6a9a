use Rattle.std.proofs.Common.{Bool, true, false, cond, None, Option, sym, ap, ◌∙◌, ◌&&◌}
use Rattle.due_model.specs.declared.config.Object.{Object}
use Rattle.due_model.specs.declared.config.ObjectId.{ObjectId}
use Rattle.due_model.specs.declared.rules.ObjectStatus.{ObjectStatus}
use Rattle.due_model.specs.claims.Readings.{is_problem_state}
use Rattle.due_model.specs.claims.Rules.{same_state}
use Rattle.decider.specs.Found.{names}
use Rattle.decider.proofs.FoundLaws.{named_where, settings_read, turned}
use Rattle.decider.proofs.find.repeated_by.Goals as goal

pub returns-then-is_repeated : goal.returns-then-is_repeated
returns-then-is_repeated c = λ settings o at.
    let choices = c.args.reading.now.rules.config.now.choices in
    let s = c.args.state in
    let here = settings_read c.args.reading.now.rules.config.now.objects c.as_slice.result.now c.args.service.0 c.from.result _ settings c.as_slice.ensures c.from.ensures at in
    turned choices.host_repeats (names settings.host o) (is_problem_state s) (same_state s _)
    ∙ ap (λ (status : ObjectStatus). choices.host_repeats && (is_problem_state s && same_state s status.state) && names settings.host o) (sym c.at.ensures)
    ∙ ap (λ (b : Bool). b && names settings.host o) (sym c.is_repeated.ensures ∙ c.if-is_repeated.true)
    ∙ ap (λ (x : Object). names x.host o) (sym here)

pub returns-else-is_repeated : goal.returns-else-is_repeated
returns-else-is_repeated c = λ settings o at.
    let choices = c.args.reading.now.rules.config.now.choices in
    let s = c.args.state in
    turned choices.host_repeats (names settings.host o) (is_problem_state s) (same_state s _)
    ∙ ap (λ (status : ObjectStatus). choices.host_repeats && (is_problem_state s && same_state s status.state) && names settings.host o) (sym c.at.ensures)
    ∙ ap (λ (b : Bool). b && names settings.host o) (sym c.is_repeated.ensures ∙ c.if-is_repeated.false)
