use Rattle.std.proofs.Common.{sym, ap, ◌∙◌}
use Rattle.due_model.specs.declared.event.EventKind.{EventKind}
use Rattle.decider.specs.claims.Statuses.{StatusLists}
use Rattle.decider.specs.Statuses.{statuses_after, with_state}
use Rattle.decider.proofs.StatusLaws.{ack_counted, depth_counted, flapping_counted, hard_counted, removal_counted, switch_counted}
use Rattle.decider.proofs.statuses.Statuses.count.Goals as goal

pub returns-in-Hard : goal.returns-in-Hard
returns-in-Hard c =
    c.replace_state.ensures.after
    ∙ ap (λ (s : StatusLists). with_state s c.in-Hard.object.0 c.in-Hard.state) c.follow_ack.ensures
    ∙ hard_counted c.args.self.now c.in-Hard.object c.in-Hard.state
    ∙ ap (λ (k : EventKind). statuses_after k c.args.self.now) (sym c.in-Hard.is)

pub returns-in-Downtime : goal.returns-in-Downtime
returns-in-Downtime c =
    c.change_depth.ensures ∙ depth_counted c.args.self.now c.in-Downtime.object c.in-Downtime.change
    ∙ ap (λ (k : EventKind). statuses_after k c.args.self.now) (sym c.in-Downtime.is)

pub returns-in-Flapping : goal.returns-in-Flapping
returns-in-Flapping c =
    c.set_flapping.ensures ∙ flapping_counted c.args.self.now c.in-Flapping.object c.in-Flapping.starts
    ∙ ap (λ (k : EventKind). statuses_after k c.args.self.now) (sym c.in-Flapping.is)

pub returns-in-Ack : goal.returns-in-Ack
returns-in-Ack c =
    c.follow_ack-in-Ack.ensures ∙ ack_counted c.args.self.now c.in-Ack.object c.in-Ack.field-1
    ∙ ap (λ (k : EventKind). statuses_after k c.args.self.now) (sym c.in-Ack.is)

pub returns-in-AckRemoved : goal.returns-in-AckRemoved
returns-in-AckRemoved c =
    c.follow_ack-in-AckRemoved.ensures ∙ removal_counted c.args.self.now c.in-AckRemoved.object
    ∙ ap (λ (k : EventKind). statuses_after k c.args.self.now) (sym c.in-AckRemoved.is)

pub returns-in-OwnSwitch : goal.returns-in-OwnSwitch
returns-in-OwnSwitch c =
    c.follow_switch.ensures ∙ switch_counted c.args.self.now c.in-OwnSwitch.object c.in-OwnSwitch.field-1
    ∙ ap (λ (k : EventKind). statuses_after k c.args.self.now) (sym c.in-OwnSwitch.is)
