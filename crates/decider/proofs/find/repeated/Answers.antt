use Rattle.std.proofs.Common.{sym, ap, ◌∙◌, ◌&&◌}
use Rattle.due_model.specs.declared.rules.ObjectStatus.{ObjectStatus}
use Rattle.due_model.specs.claims.Readings.{is_problem_state}
use Rattle.due_model.specs.claims.Rules.{same_state}
use Rattle.decider.specs.Found.{names}
use Rattle.decider.specs.Statuses.{hard_by}
use Rattle.lemmas.proofs.Lists.{some_at}
use Rattle.decider.proofs.FoundLaws.{hard_named, repeats_given, repeats_service}
use Rattle.decider.proofs.StagingLaws.{none_again}
use Rattle.decider.proofs.StatusLaws.{named_within}
use Rattle.decider.proofs.find.repeated.Goals as goal

pub repeated_by-requires-clause-object : goal.repeated_by-requires-clause-object
repeated_by-requires-clause-object c =
    let is = c.requires.at.3 in
    let kind = c.requires.at.0.kind in
    let given = sym (ap hard_by is.says) ∙ sym c.hard_by.ensures ∙ c.in-Some.is in
    named_within c.args.reading.now.rules.config.now kind is.proper.kind c.in-Some.service (hard_named kind c.in-Some.service c.in-Some.state given)

pub returns-in-Some : goal.returns-in-Some
returns-in-Some c = λ e past searched o is.
    let config = c.args.reading.now.rules.config.now in
    let p = c.in-Some.service in
    let s = c.in-Some.state in
    let given = sym (ap hard_by is.says) ∙ sym c.hard_by.ensures ∙ c.in-Some.is in
    let service = some_at config.objects p.0 (named_within config e.kind is.proper.kind p (hard_named e.kind p s given)) in
    repeats_given config e.kind p s past o given
    ∙ repeats_service config p s past o service.0 service.1
    ∙ ap (λ (status : ObjectStatus). config.choices.host_repeats && names service.0.host o && is_problem_state s && same_state s status.state) (sym (is.known.each p.0))
    ∙ c.repeated_by.ensures service.0 o service.1

pub returns-in-None : goal.returns-in-None
returns-in-None c = λ e past searched o is.
    none_again c.args.reading.now.rules.config.now e.kind past (sym (ap hard_by is.says) ∙ sym c.hard_by.ensures ∙ c.in-None.is) o
