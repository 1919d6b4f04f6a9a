use Rattle.std.proofs.Common.{rules, ◌≡◌, Option, None, Some, Result, Ok, Err, refl, subst, ◌∙◌}
use Rattle.std.specs.List.{All}
use Rattle.due_model.specs.declared.event.Event.{Event}
use Rattle.caller_feeds.specs.declared.intake.IntakeStop.{IntakeStop}
use Rattle.caller_feeds.specs.declared.intake.IntakeStop.TheVariants.{Over, HandleDropped}
use Rattle.caller_feeds.specs.Feeds.{NothingWaits}
use Rattle.caller_feeds.specs.Taken.{AreOver, GivesNext}
use Rattle.caller_feeds.specs.FeedLaws.{goes_on_then}
use Rattle.caller_feeds.proofs.TakenLemmas.{gives-none, none-given}
use Rattle.caller_feeds.proofs.intake.Intake.try_event.Goals as goal

pub returns-in-Some : goal.returns-in-Some
returns-in-Some c =
    let is : c.go_round.result ≡ Ok (Some c.in-Some.event) = search rules in
    subst (λ (r : Result (Option Event) IntakeStop). GivesNext c.args.config.now r c.args.self.now c.go_round.new.self) is c.go_round.ensures.next

pub returns-then-is_over : goal.returns-then-is_over
returns-then-is_over c =
    let next = c.go_round.ensures.next in
    let is : c.go_round.result ≡ Ok None = search rules in
    let over : AreOver c.go_round.new.self.ends = search rules in
    gives-none c.args.config.now (Err Over) c.args.self.now c.go_round.new.self refl next.goes (none-given c.args.self.now c.go_round.new.self c.go_round.result is next.events) (λ is. over) (λ is. cc) (λ is. cc)

pub returns-then-is_done : goal.returns-then-is_done
returns-then-is_done c =
    let next = c.go_round.ensures.next in
    let is : c.go_round.result ≡ Ok None = search rules in
    let goes = goes_on_then c.args.config.now c.args.self.now c.go_round.new.self c.is_done.new.self next.goes (c.is_done.ensures.goes c.args.config.now) in
    let none = none-given c.args.self.now c.go_round.new.self c.go_round.result is next.events in
    let done : All NothingWaits c.is_done.new.self.ends = search rules in
    let open_is : ¬ AreOver c.go_round.new.self.ends = search rules in
    gives-none c.args.config.now (Err HandleDropped) c.args.self.now c.is_done.new.self refl goes (c.is_done.ensures.events ∙ none) (λ is. cc) (λ is. cc) (λ is. (done, λ over. open_is (c.is_done.ensures.over over)))

pub returns : goal.returns
returns c =
    let next = c.go_round.ensures.next in
    let is : c.go_round.result ≡ Ok None = search rules in
    let goes = goes_on_then c.args.config.now c.args.self.now c.go_round.new.self c.is_done.new.self next.goes (c.is_done.ensures.goes c.args.config.now) in
    let none = none-given c.args.self.now c.go_round.new.self c.go_round.result is next.events in
    gives-none c.args.config.now (Ok None) c.args.self.now c.is_done.new.self refl goes (c.is_done.ensures.events ∙ none) (λ is. cc) (λ is. cc) (λ is. cc)
