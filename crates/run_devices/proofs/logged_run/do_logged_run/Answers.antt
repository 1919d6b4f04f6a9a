use Rattle.std.proofs.Common.{◌≤◌, ◌∙◌, List, ap, length, map, rules, subst, sym}
use Rattle.std.proofs.lemmas.Simd.{map-map}
use Rattle.run_devices.specs.Channels.{opened}
use Rattle.run_devices.proofs.PostLaws.{command_fails, opened_same}
use Rattle.run_devices.proofs.logged_run.do_logged_run.Goals as goal

pub returns-in_err-done-clause-fault : goal.returns-in_err-done-clause-fault
returns-in_err-done-clause-fault g c =
    let fails = command_fails _ _ c.in_err-done.field-0.0 c.in_ok-config.config c.in_ok-config.lanes.items c.in_ok-config.ensures.right.right c.in_err-done.ensures.fault in
    search rules

pub returns-clause-ok : goal.returns-clause-ok
returns-clause-ok g c =
    let done = c.in_ok-done.ensures.report in
    record {
      config = c.in_ok-config.config;
      lanes = c.in_ok-config.lanes.items;
      posts = done.0;
      posted = done.1;
      right = opened_same c.in_ok-config.ensures.right (ap (map opened) (sym done.2) ∙ map-map opened (λ post. post.channel.channel) done.0);
      report = done.3;
    }
