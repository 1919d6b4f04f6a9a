use Rattle.std.proofs.Common.{List, sym, ap, ◌∙◌}
use Rattle.due_model.specs.declared.notice.Notice.{Notice}
use Rattle.changed_notices.specs.Left.{left_of}
use Rattle.changed_notices.proofs.left.left_of.Goals as goal

pub loop-notice-init : goal.loop-notice-init
loop-notice-init c =
    ap (λ (ms : List Notice). left_of c.args.a.now c.args.b.now c.after_common.result.0.now ms) c.in_ok-left.ensures.items ∙ sym c.after_common.ensures
