use Rattle.std.proofs.Common.{rules, ◌≡◌, Option, None, Some, Result, Ok, Err, refl, sym, ap, subst, ◌∙◌}
use Rattle.due_model.specs.declared.event.Event.{Event}
use Rattle.caller_feeds.specs.declared.intake.IntakeStop.{IntakeStop}
use Rattle.caller_feeds.specs.Taken.{GivesNext, found_by}
use Rattle.caller_feeds.specs.FeedLaws.{goes_on}
use Rattle.caller_feeds.proofs.TakenLemmas.{gives-then, none-given}
use Rattle.caller_feeds.proofs.intake.Intake.next_event.Goals as goal

pub loop-turn-init : goal.loop-turn-init
loop-turn-init g c = record { goes = goes_on c.args.config.now c.args.self.now; events = refl }

pub returns-in_err-event : goal.returns-in_err-event
returns-in_err-event g c =
    let next = gives-then c.args.config.now c.try_event.result c.args.self.now c.loop-turn.self c.try_event.new.self c.loop-turn.invariant.goes c.loop-turn.invariant.events c.try_event.ensures in
    let found : c.try_event.result ≡ Err c.in_err-event.field-0.0 = search rules in
    let given : c.from_residual.result ≡ Err c.in_err-event.field-0.0 = search rules in
    subst (λ (r : Result (Option Event) IntakeStop). GivesNext c.args.config.now r c.args.self.now c.try_event.new.self) (found ∙ sym (ap found_by given)) next

pub returns-in-Some-2 : goal.returns-in-Some-2
returns-in-Some-2 g c =
    let next = gives-then c.args.config.now c.try_event.result c.args.self.now c.loop-turn.self c.try_event.new.self c.loop-turn.invariant.goes c.loop-turn.invariant.events c.try_event.ensures in
    let is : c.try_event.result ≡ Ok (Some c.in-Some-2.event) = search rules in
    subst (λ (r : Result (Option Event) IntakeStop). GivesNext c.args.config.now r c.args.self.now c.try_event.new.self) is next

pub loop-turn-preserved : goal.loop-turn-preserved
loop-turn-preserved g c =
    let next = gives-then c.args.config.now c.try_event.result c.args.self.now c.loop-turn.self c.try_event.new.self c.loop-turn.invariant.goes c.loop-turn.invariant.events c.try_event.ensures in
    let is : c.try_event.result ≡ Ok None = search rules in
    record {
      goes = next.goes;
      events = none-given c.args.self.now c.try_event.new.self c.try_event.result is next.events;
    }
