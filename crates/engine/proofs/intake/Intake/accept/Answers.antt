use Rattle.std.proofs.Common.{rules, ◌≡◌, ◌≢◌, ◌++◌, [], ◌∷◌, List, None, Some, ap, length, refl, subst, sym, true}
use Rattle.due_model.specs.declared.event.Event.{Event}
use Rattle.due_model.specs.claims.Limits.{max_events}
use Rattle.event_feed.specs.declared.fault.FeedFault.TheVariants.{Ended}
use Rattle.event_feed.specs.declared.fault.RefusedLine.{RefusedLine}
use Rattle.engine.specs.Feed.{Intake, Kept, Offers, accepted, ended}
use Rattle.engine.proofs.IntakeLaws.{takes_event, takes_full}
use Rattle.engine.proofs.intake.Intake.accept.Goals as goal

pub returns-then-len-eq-MAX_EVENTS-clause-taken : goal.returns-then-len-eq-MAX_EVENTS-clause-taken
returns-then-len-eq-MAX_EVENTS-clause-taken g c = λ can_fail config start said offers.
    let old : Intake = record { feed = c.self.inside.feeder; events = c.self.inside.events.items; refused = c.self.inside.refused.items } in
    let new : Intake = record { feed = c.self.inside.feeder; events = c.self.inside.events.items; refused = c.push-room.new.self.items } in
    let same : old ≡ c.args.self.now.read = ap (λ (k : Kept). k.read) c.self.view_is in
    let mine : Offers config start said c.args.event old = subst (λ (x : Intake). Offers config start said c.args.event x) (sym same) offers in
    let full : length old.events ≡ max_events = search rules in
    let pushed : new.refused ≡ old.refused ++ record { line = old.feed.line; fault = Ended } ∷ [] = search rules in
    let is : new ≡ ended old = ap (λ (rs : List RefusedLine). record { feed = old.feed; events = old.events; refused = rs }) pushed in
    takes_full can_fail config start said c.args.event old new (Some true) mine full is refl

pub returns-clause-taken : goal.returns-clause-taken
returns-clause-taken g c = λ can_fail config start said offers.
    let old : Intake = record { feed = c.self.inside.feeder; events = c.self.inside.events.items; refused = c.self.inside.refused.items } in
    let new : Intake = record { feed = c.self.inside.feeder; events = c.push-room-2.new.self.items; refused = c.self.inside.refused.items } in
    let same : old ≡ c.args.self.now.read = ap (λ (k : Kept). k.read) c.self.view_is in
    let mine : Offers config start said c.args.event old = subst (λ (x : Intake). Offers config start said c.args.event x) (sym same) offers in
    let few : length old.events ≢ max_events = search rules in
    let pushed : new.events ≡ old.events ++ c.args.event ∷ [] = search rules in
    let is : new ≡ accepted c.args.event old = ap (λ (es : List Event). record { feed = old.feed; events = es; refused = old.refused }) pushed in
    let none : c.self.inside.over ≡ None = search rules in
    takes_event can_fail config start said c.args.event old new c.self.inside.over mine few is none
