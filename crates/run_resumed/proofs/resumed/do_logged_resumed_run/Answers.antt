use Rattle.command_output.specs.declared.outcome.CommandFault.TheVariants as memory
use Rattle.std.proofs.Common.{◌∙◌, ap, map, rules, sym}
use Rattle.std.specs.Arc.{arc_value}
use Rattle.std.proofs.lemmas.Simd.{map-map}
use Rattle.run_devices.specs.Channels.{opened}
use Rattle.run_resumed.proofs.FaultLaws.{command_fails, opened_same, right_fails}
use Rattle.run_resumed.proofs.resumed.do_logged_resumed_run.Goals as goal

pub log_on-requires-clause-few : goal.log_on-requires-clause-few
log_on-requires-clause-few g c κs within = c.in_ok-ready.ensures.right.right.lanes_are.few_lanes

pub returns-in_err-done-clause-fault : goal.returns-in_err-done-clause-fault
returns-in_err-done-clause-fault g c =
    let fails = right_fails _ _ c.in_err-done.field-0.0 (arc_value c.in_ok-ready.ready.config) c.in_ok-ready.ready.lanes.items c.in_ok-ready.ensures.right.right c.in_err-done.ensures.fault in
    search rules

pub returns-in_err-file-clause-fault : goal.returns-in_err-file-clause-fault
returns-in_err-file-clause-fault g c =
    let fails = command_fails _ _ c.in_err-file.field-0.0 (arc_value c.in_ok-ready.ready.config) c.in_ok-ready.ready.lanes.items c.in_ok-ready.ensures.right.right in
    search rules

pub returns-in_err-metrics-clause-fault : goal.returns-in_err-metrics-clause-fault
returns-in_err-metrics-clause-fault g c =
    let fails = command_fails _ _ memory.NoMemory (arc_value c.in_ok-ready.ready.config) c.in_ok-ready.ready.lanes.items c.in_ok-ready.ensures.right.right in
    search rules

pub returns-in_err-watched-clause-fault : goal.returns-in_err-watched-clause-fault
returns-in_err-watched-clause-fault g c =
    let fails = command_fails _ _ memory.NoMemory (arc_value c.in_ok-ready.ready.config) c.in_ok-ready.ready.lanes.items c.in_ok-ready.ensures.right.right in
    search rules

pub returns-clause-ok : goal.returns-clause-ok
returns-clause-ok g c =
    let ready = c.in_ok-ready.ready in
    let run = c.in_ok-done.ensures.report in
    record {
      config = arc_value ready.config;
      states = ready.kept.states.items;
      posts = run.0;
      ready = record {
        lanes = ready.lanes.items;
        posted = run.1.posted;
        right = opened_same c.in_ok-ready.ensures.right (ap (map opened) (sym run.1.channels_are) ∙ map-map opened (λ post. post.channel.inner.sent.channel) run.0);
        each = run.1.each;
        kept = c.in_ok-ready.ensures.kept;
        due = c.in_ok-ready.ensures.same.0;
        same = c.in_ok-ready.ensures.same.1;
      };
      middle = run.2.middle;
      ends = run.2.ends;
      lines = run.2.lines;
    }
