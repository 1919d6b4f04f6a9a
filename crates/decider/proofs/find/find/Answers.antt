use Rattle.std.proofs.Common.{sym, ap, ◌∙◌, arith}
use Rattle.due_model.specs.declared.event.EventKind.{EventKind}
use Rattle.due_model.specs.declared.rules.ObjectStatus.{ObjectStatus}
use Rattle.decider.specs.Statuses.{status_by}
use Rattle.decider.proofs.StatusLaws.{depth_few, status_step}
use Rattle.decider.proofs.find.find.Goals as goal

pub status_by-after-requires : goal.status_by-after-requires
status_by-after-requires c =
    let o = c.args.object.0 in
    let past = c.requires.at.1 in
    omega (arith, ap (λ (s : ObjectStatus). s.depth) (c.at-before.ensures ∙ c.requires.at.2.known.each o), depth_few o past, c.requires.at.2.short)

pub returns-clause-found : goal.returns-clause-found
returns-clause-found c = λ e past settings is at.
    let o = c.args.object.0 in
    let before = c.at-before.ensures ∙ is.known.each o in
    record {
      event = is.says;
      at = is.at;
      program = is.switch;
      before = before;
      after = c.status_by-after.ensures ∙ ap (λ (k : EventKind). status_by o k c.at-before.result) is.says ∙ ap (status_by o e.kind) before ∙ status_step o e past;
      host_down = c.is_host_down-host_down.ensures e past settings is.known is.says at;
      depends = c.depends.ensures.fails e past settings is at;
      host_problem = c.host_holds-host_problem.ensures e past settings is.known is.says at;
      repeats = c.is_object-repeats.ensures ∙ sym (c.repeated.ensures e past c.args.dependencies.now o is);
    }

pub repeated-requires : goal.repeated-requires
repeated-requires c = record { at = (c.requires.at.0, c.requires.at.1, c.args.dependencies.now, c.requires.at.2) }
