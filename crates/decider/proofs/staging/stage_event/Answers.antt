use Rattle.std.proofs.Common.{sym, ap, ◌∙◌}
use Rattle.std.proofs.lemmas.Result.{on_ok_weaker}
use Rattle.decider.specs.Events.{values}
use Rattle.decider.specs.Statuses.{hard_by, named_by}
use Rattle.decider.proofs.StatusLaws.{named_within}
use Rattle.decider.proofs.StagingLaws.{first_books, first_entries, named_books, named_entries, named_touched, none_again, switch_books, switch_entries}
use Rattle.decider.proofs.staging.stage_event.Goals as goal

pub returns-in-Program-clause-entries : goal.returns-in-Program-clause-entries
returns-in-Program-clause-entries c = λ e past is.
    c.clear.ensures.entries ∙ sym (switch_entries c.fit_on.ensures.untouched (values c.args.reading.now c.args.dependencies.now c.args.statuses.now) e past is c.in-Program.field-0 c.in-Program.is)

pub returns-in-Program-clause-books : goal.returns-in-Program-clause-books
returns-in-Program-clause-books c = λ e past is.
    c.clear.ensures.books ∙ sym (switch_books c.fit_on.ensures.untouched (values c.args.reading.now c.args.dependencies.now c.args.statuses.now) e past is c.in-Program.field-0 c.in-Program.is)

pub returns-in-Hard-clause-entries : goal.returns-in-Hard-clause-entries
returns-in-Hard-clause-entries c = on_ok_weaker c.stage_hard.result (λ adds e past is.
    first_entries _ _ _ _ c.clear.ensures.entries (adds e past is)) c.stage_hard.ensures.staged

pub returns-in-Hard-clause-books : goal.returns-in-Hard-clause-books
returns-in-Hard-clause-books c = on_ok_weaker c.stage_hard.result (λ adds e past is.
    first_books _ _ _ _ c.clear.ensures.books (adds e past is)) c.stage_hard.ensures.staged

pub returns-in-Downtime-clause-entries : goal.returns-in-Downtime-clause-entries
returns-in-Downtime-clause-entries c = on_ok_weaker c.stage_owned.result (λ adds e past is.
    first_entries _ _ _ _ c.clear.ensures.entries (adds e past is)
    ∙ sym (named_entries c.fit_on.ensures.untouched (values c.args.reading.now c.args.dependencies.now c.args.statuses.now) e past is c.in-Downtime.object (ap named_by c.in-Downtime.is)
    (none_again c.args.reading.now.rules.config.now e.kind past (sym (ap hard_by is.says) ∙ ap hard_by c.in-Downtime.is)))) c.stage_owned.ensures.staged

pub returns-in-Downtime-clause-books : goal.returns-in-Downtime-clause-books
returns-in-Downtime-clause-books c = on_ok_weaker c.stage_owned.result (λ adds e past is.
    first_books _ _ _ _ c.clear.ensures.books (adds e past is)
    ∙ sym (named_books c.fit_on.ensures.untouched (values c.args.reading.now c.args.dependencies.now c.args.statuses.now) e past is c.in-Downtime.object (ap named_by c.in-Downtime.is)
    (none_again c.args.reading.now.rules.config.now e.kind past (sym (ap hard_by is.says) ∙ ap hard_by c.in-Downtime.is)))) c.stage_owned.ensures.staged

pub returns-in-Flapping-clause-entries : goal.returns-in-Flapping-clause-entries
returns-in-Flapping-clause-entries c = on_ok_weaker c.stage_owned-in-Flapping.result (λ adds e past is.
    first_entries _ _ _ _ c.clear.ensures.entries (adds e past is)
    ∙ sym (named_entries c.fit_on.ensures.untouched (values c.args.reading.now c.args.dependencies.now c.args.statuses.now) e past is c.in-Flapping.object (ap named_by c.in-Flapping.is)
    (none_again c.args.reading.now.rules.config.now e.kind past (sym (ap hard_by is.says) ∙ ap hard_by c.in-Flapping.is)))) c.stage_owned-in-Flapping.ensures.staged

pub returns-in-Flapping-clause-books : goal.returns-in-Flapping-clause-books
returns-in-Flapping-clause-books c = on_ok_weaker c.stage_owned-in-Flapping.result (λ adds e past is.
    first_books _ _ _ _ c.clear.ensures.books (adds e past is)
    ∙ sym (named_books c.fit_on.ensures.untouched (values c.args.reading.now c.args.dependencies.now c.args.statuses.now) e past is c.in-Flapping.object (ap named_by c.in-Flapping.is)
    (none_again c.args.reading.now.rules.config.now e.kind past (sym (ap hard_by is.says) ∙ ap hard_by c.in-Flapping.is)))) c.stage_owned-in-Flapping.ensures.staged

pub returns-in-Ack-clause-entries : goal.returns-in-Ack-clause-entries
returns-in-Ack-clause-entries c = on_ok_weaker c.stage_owned-in-Ack.result (λ adds e past is.
    first_entries _ _ _ _ c.clear.ensures.entries (adds e past is)
    ∙ sym (named_entries c.fit_on.ensures.untouched (values c.args.reading.now c.args.dependencies.now c.args.statuses.now) e past is c.in-Ack.object (ap named_by c.in-Ack.is)
    (none_again c.args.reading.now.rules.config.now e.kind past (sym (ap hard_by is.says) ∙ ap hard_by c.in-Ack.is)))) c.stage_owned-in-Ack.ensures.staged

pub returns-in-Ack-clause-books : goal.returns-in-Ack-clause-books
returns-in-Ack-clause-books c = on_ok_weaker c.stage_owned-in-Ack.result (λ adds e past is.
    first_books _ _ _ _ c.clear.ensures.books (adds e past is)
    ∙ sym (named_books c.fit_on.ensures.untouched (values c.args.reading.now c.args.dependencies.now c.args.statuses.now) e past is c.in-Ack.object (ap named_by c.in-Ack.is)
    (none_again c.args.reading.now.rules.config.now e.kind past (sym (ap hard_by is.says) ∙ ap hard_by c.in-Ack.is)))) c.stage_owned-in-Ack.ensures.staged

pub returns-in-AckRemoved-clause-entries : goal.returns-in-AckRemoved-clause-entries
returns-in-AckRemoved-clause-entries c = on_ok_weaker c.stage_owned-in-AckRemoved.result (λ adds e past is.
    first_entries _ _ _ _ c.clear.ensures.entries (adds e past is)
    ∙ sym (named_entries c.fit_on.ensures.untouched (values c.args.reading.now c.args.dependencies.now c.args.statuses.now) e past is c.in-AckRemoved.object (ap named_by c.in-AckRemoved.is)
    (none_again c.args.reading.now.rules.config.now e.kind past (sym (ap hard_by is.says) ∙ ap hard_by c.in-AckRemoved.is)))) c.stage_owned-in-AckRemoved.ensures.staged

pub returns-in-AckRemoved-clause-books : goal.returns-in-AckRemoved-clause-books
returns-in-AckRemoved-clause-books c = on_ok_weaker c.stage_owned-in-AckRemoved.result (λ adds e past is.
    first_books _ _ _ _ c.clear.ensures.books (adds e past is)
    ∙ sym (named_books c.fit_on.ensures.untouched (values c.args.reading.now c.args.dependencies.now c.args.statuses.now) e past is c.in-AckRemoved.object (ap named_by c.in-AckRemoved.is)
    (none_again c.args.reading.now.rules.config.now e.kind past (sym (ap hard_by is.says) ∙ ap hard_by c.in-AckRemoved.is)))) c.stage_owned-in-AckRemoved.ensures.staged

pub returns-in-OwnSwitch-clause-entries : goal.returns-in-OwnSwitch-clause-entries
returns-in-OwnSwitch-clause-entries c = on_ok_weaker c.stage_owned-in-OwnSwitch.result (λ adds e past is.
    first_entries _ _ _ _ c.clear.ensures.entries (adds e past is)
    ∙ sym (named_entries c.fit_on.ensures.untouched (values c.args.reading.now c.args.dependencies.now c.args.statuses.now) e past is c.in-OwnSwitch.object (ap named_by c.in-OwnSwitch.is)
    (none_again c.args.reading.now.rules.config.now e.kind past (sym (ap hard_by is.says) ∙ ap hard_by c.in-OwnSwitch.is)))) c.stage_owned-in-OwnSwitch.ensures.staged

pub returns-in-OwnSwitch-clause-books : goal.returns-in-OwnSwitch-clause-books
returns-in-OwnSwitch-clause-books c = on_ok_weaker c.stage_owned-in-OwnSwitch.result (λ adds e past is.
    first_books _ _ _ _ c.clear.ensures.books (adds e past is)
    ∙ sym (named_books c.fit_on.ensures.untouched (values c.args.reading.now c.args.dependencies.now c.args.statuses.now) e past is c.in-OwnSwitch.object (ap named_by c.in-OwnSwitch.is)
    (none_again c.args.reading.now.rules.config.now e.kind past (sym (ap hard_by is.says) ∙ ap hard_by c.in-OwnSwitch.is)))) c.stage_owned-in-OwnSwitch.ensures.staged

pub stage_owned-requires : goal.stage_owned-requires
stage_owned-requires c = record {
  at = c.requires.at;
  touched = λ e past settings is at. named_touched (values c.args.reading.now c.args.dependencies.now c.args.statuses.now) e past is c.in-Downtime.object settings (ap named_by c.in-Downtime.is);
  object = named_within c.args.reading.now.rules.config.now c.requires.at.0.kind c.requires.at.2.proper.kind c.in-Downtime.object (sym (ap named_by c.requires.at.2.says) ∙ ap named_by c.in-Downtime.is);
}

pub stage_owned-requires-in-Flapping : goal.stage_owned-requires-in-Flapping
stage_owned-requires-in-Flapping c = record {
  at = c.requires.at;
  touched = λ e past settings is at. named_touched (values c.args.reading.now c.args.dependencies.now c.args.statuses.now) e past is c.in-Flapping.object settings (ap named_by c.in-Flapping.is);
  object = named_within c.args.reading.now.rules.config.now c.requires.at.0.kind c.requires.at.2.proper.kind c.in-Flapping.object (sym (ap named_by c.requires.at.2.says) ∙ ap named_by c.in-Flapping.is);
}

pub stage_owned-requires-in-Ack : goal.stage_owned-requires-in-Ack
stage_owned-requires-in-Ack c = record {
  at = c.requires.at;
  touched = λ e past settings is at. named_touched (values c.args.reading.now c.args.dependencies.now c.args.statuses.now) e past is c.in-Ack.object settings (ap named_by c.in-Ack.is);
  object = named_within c.args.reading.now.rules.config.now c.requires.at.0.kind c.requires.at.2.proper.kind c.in-Ack.object (sym (ap named_by c.requires.at.2.says) ∙ ap named_by c.in-Ack.is);
}

pub stage_owned-requires-in-AckRemoved : goal.stage_owned-requires-in-AckRemoved
stage_owned-requires-in-AckRemoved c = record {
  at = c.requires.at;
  touched = λ e past settings is at. named_touched (values c.args.reading.now c.args.dependencies.now c.args.statuses.now) e past is c.in-AckRemoved.object settings (ap named_by c.in-AckRemoved.is);
  object = named_within c.args.reading.now.rules.config.now c.requires.at.0.kind c.requires.at.2.proper.kind c.in-AckRemoved.object (sym (ap named_by c.requires.at.2.says) ∙ ap named_by c.in-AckRemoved.is);
}

pub stage_owned-requires-in-OwnSwitch : goal.stage_owned-requires-in-OwnSwitch
stage_owned-requires-in-OwnSwitch c = record {
  at = c.requires.at;
  touched = λ e past settings is at. named_touched (values c.args.reading.now c.args.dependencies.now c.args.statuses.now) e past is c.in-OwnSwitch.object settings (ap named_by c.in-OwnSwitch.is);
  object = named_within c.args.reading.now.rules.config.now c.requires.at.0.kind c.requires.at.2.proper.kind c.in-OwnSwitch.object (sym (ap named_by c.requires.at.2.says) ∙ ap named_by c.in-OwnSwitch.is);
}
