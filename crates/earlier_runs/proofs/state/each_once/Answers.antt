use Rattle.std.proofs.Common.{◌<◌, List, [], length, refl, rules, subst, sym}
use Rattle.due_model.specs.declared.notice.Notice.{Notice}
use Rattle.earlier_runs.specs.State.{AreEachOnce}
use Rattle.earlier_runs.proofs.DoubtLaws.{once_more, once_none}
use Rattle.earlier_runs.proofs.state.each_once.Goals as goal

pub loop-notice-init : goal.loop-notice-init
loop-notice-init c = subst (λ (ns : List Notice). AreEachOnce [] ns) (sym c.new-found.ensures.items) once_none

pub loop-notice-preserved : goal.loop-notice-preserved
loop-notice-preserved c =
    let within : c.loop-notice.notice-index < length c.args.notices.now = search rules in
    once_more c.args.notices.now c.loop-notice.found.items c.push_once.new.found.items c.loop-notice.notice-index _ _ within refl c.loop-notice.invariant c.in_ok-push_once.ensures
