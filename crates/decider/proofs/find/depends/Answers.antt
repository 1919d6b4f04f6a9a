use Rattle.std.proofs.Common.{sym, ap, ◌∙◌}
use Rattle.due_model.specs.declared.state.State.{State}
use Rattle.dependency.specs.Entry.{state_of}
use Rattle.decider.specs.Found.{depends_by}
use Rattle.decider.specs.claims.Statuses.{StatusLists}
use Rattle.decider.specs.Statuses.{hard_by, with_state}
use Rattle.decider.proofs.FoundLaws.{depends_with, depends_without, hard_named}
use Rattle.decider.proofs.StatusLaws.{named_within, put_back}
use Rattle.decider.proofs.find.depends.Goals as goal

pub returns-in-Some-clause-statuses : goal.returns-in-Some-clause-statuses
returns-in-Some-clause-statuses c =
    let s = c.args.statuses.now in
    let p = c.in-Some.named.0 in
    c.replace_state.ensures.after
    ∙ ap (λ (x : StatusLists). with_state x p c.replace_state-before.result) c.replace_state-before.ensures.after
    ∙ ap (λ (x : State). with_state (with_state s p c.in-Some.state) p x) c.replace_state-before.ensures.before
    ∙ put_back s p c.in-Some.state

pub returns-in-Some-clause-fails : goal.returns-in-Some-clause-fails
returns-in-Some-clause-fails c = λ e past settings is at.
    let config = c.args.reading.now.rules.config.now in
    let zone = c.args.reading.now.rules.zone.now in
    let t = c.args.reading.now.context.moment in
    let o = c.args.object.0 in
    let given = sym (ap hard_by is.says) ∙ sym c.hard_by.ensures ∙ c.in-Some.is in
    c.depends_now-fails.ensures.fails settings at
    ∙ ap (λ (x : StatusLists). depends_by config zone (state_of x.states) t o settings.host) c.replace_state-before.ensures.after
    ∙ depends_with config zone e past c.args.statuses.now is.known o t settings.host is.at c.in-Some.named c.in-Some.state given
    (named_within config e.kind is.proper.kind c.in-Some.named (hard_named e.kind c.in-Some.named c.in-Some.state given))

pub returns-in-None-clause-fails : goal.returns-in-None-clause-fails
returns-in-None-clause-fails c = λ e past settings is at.
    let config = c.args.reading.now.rules.config.now in
    c.depends_now.ensures.fails settings at
    ∙ depends_without config c.args.reading.now.rules.zone.now e past c.args.statuses.now is.known c.args.object.0 c.args.reading.now.context.moment settings.host is.at
    (sym (ap hard_by is.says) ∙ sym c.hard_by.ensures ∙ c.in-None.is)
