use Rattle.std.proofs.Common.{rules, ◌≡◌, ◌<◌, length, Option, None, Some, Result, Ok, refl, subst, arith}
use Rattle.due_model.specs.declared.event.Event.{Event}
use Rattle.caller_feeds.specs.declared.intake.IntakeStop.{IntakeStop}
use Rattle.caller_feeds.specs.Feeds.{IsSameEnd}
use Rattle.caller_feeds.specs.Taken.{GivesNext}
use Rattle.caller_feeds.specs.FeedLaws.{goes_on}
use Rattle.caller_feeds.proofs.MeetLemmas.{zip-long}
use Rattle.caller_feeds.proofs.TakenLemmas.{gives-none, gives-turn, none-given}
use Rattle.caller_feeds.proofs.intake.Intake.go_round.Goals as goal

pub loop-end-init : goal.loop-end-init
loop-end-init c = record { goes = goes_on c.args.config.now c.args.self.now; events = refl }

pub turn-place-requires : goal.turn-place-requires
turn-place-requires c =
    let same = zip-long IsSameEnd c.args.self.now.ends c.loop-end.self.ends c.loop-end.invariant.goes.ends in
    let within : c.loop-end._end < length c.args.self.now.ends = search rules in
    omega (arith, same, within)

pub returns-in_err-event-clause-next : goal.returns-in_err-event-clause-next
returns-in_err-event-clause-next c =
    let inv = c.loop-end.invariant in
    let next = gives-turn c.args.config.now c.take_at.result c.args.self.now c.loop-end.self c.turn-place.new.self c.take_at.new.self inv.goes inv.events c.turn-place.ensures.same c.take_at.ensures.next in
    search rules

pub returns-in-Some-clause-next : goal.returns-in-Some-clause-next
returns-in-Some-clause-next c =
    let inv = c.loop-end.invariant in
    let next = gives-turn c.args.config.now c.take_at.result c.args.self.now c.loop-end.self c.turn-place.new.self c.take_at.new.self inv.goes inv.events c.turn-place.ensures.same c.take_at.ensures.next in
    let is : c.take_at.result ≡ Ok (Some c.in-Some.event) = search rules in
    subst (λ (r : Result (Option Event) IntakeStop). GivesNext c.args.config.now r c.args.self.now c.take_at.new.self) is next

pub loop-end-preserved : goal.loop-end-preserved
loop-end-preserved c =
    let inv = c.loop-end.invariant in
    let next = gives-turn c.args.config.now c.take_at.result c.args.self.now c.loop-end.self c.turn-place.new.self c.take_at.new.self inv.goes inv.events c.turn-place.ensures.same c.take_at.ensures.next in
    let is : c.take_at.result ≡ Ok None = search rules in
    record {
      goes = next.goes;
      events = none-given c.args.self.now c.take_at.new.self c.take_at.result is next.events;
    }

pub returns-clause-next : goal.returns-clause-next
returns-clause-next c =
    gives-none c.args.config.now (Ok None) c.args.self.now c.loop-end.self refl c.loop-end.invariant.goes c.loop-end.invariant.events (λ is. cc) (λ is. cc) (λ is. cc)
