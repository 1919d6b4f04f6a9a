use Rattle.std.proofs.Common.{◌≤◌, ◌∙◌, List, ap, length, map, rules, subst, sym}
use Rattle.std.proofs.lemmas.Simd.{map-map}
use Rattle.channel_words.specs.Lanes.{channels_for}
use Rattle.due_model.specs.declared.config.LaneId.{LaneId}
use Rattle.run_devices.specs.Channels.{opened}
use Rattle.run_devices.proofs.PostLaws.{command_fails, fails_without_memory, opened_same}
use Rattle.run_devices.proofs.run.do_run.Goals as goal

pub run_through-requires-clause-each : goal.run_through-requires-clause-each
run_through-requires-clause-each g c κs within = c.in_ok-config.ensures.each ∙ sym (ap length c.deref.ensures.value)

pub run_through-requires-clause-few : goal.run_through-requires-clause-few
run_through-requires-clause-few g c κs within =
    λ l. subst (λ (lanes : List LaneId). channels_for lanes l ≤ 8) (sym c.deref.ensures.value) (c.in_ok-config.ensures.right.right.lanes_are.few_lanes l)

pub returns-in_err-done-clause-fault : goal.returns-in_err-done-clause-fault
returns-in_err-done-clause-fault g c =
    let fails = command_fails _ _ c.in_err-done.field-0.0 c.in_ok-config.config c.in_ok-config.lanes.items c.in_ok-config.ensures.right.right c.in_err-done.ensures.fault in
    search rules

pub returns-in_err-metrics-clause-fault : goal.returns-in_err-metrics-clause-fault
returns-in_err-metrics-clause-fault g c =
    let fails = fails_without_memory _ _ c.in_ok-config.config c.in_ok-config.lanes.items c.in_ok-config.ensures.right.right in
    search rules

pub returns-in_err-watched-clause-fault : goal.returns-in_err-watched-clause-fault
returns-in_err-watched-clause-fault g c =
    let fails = fails_without_memory _ _ c.in_ok-config.config c.in_ok-config.lanes.items c.in_ok-config.ensures.right.right in
    search rules

pub returns-clause-ok : goal.returns-clause-ok
returns-clause-ok g c =
    let done = c.in_ok-done.ensures.report in
    record {
      config = c.in_ok-config.config;
      lanes = c.in_ok-config.lanes.items;
      posts = done.0;
      posted = done.1 ∙ c.deref.ensures.value;
      right = opened_same c.in_ok-config.ensures.right (ap (map opened) (sym done.2) ∙ map-map opened (λ post. post.channel.channel) done.0);
      report = done.3;
    }
