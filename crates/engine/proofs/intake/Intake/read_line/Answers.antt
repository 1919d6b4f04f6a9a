use Rattle.std.proofs.Common.{rules, ◌≡◌, ◌∙◌, ◌<◌, ℕ, [], ◌∷◌, ◌++◌, List, None, Some, ap, refl, subst, sym}
use Rattle.event_feed.specs.claims.Fault.{is_ahead}
use Rattle.event_feed.specs.claims.Feed.{Answer, Feed, no_line, refusal}
use Rattle.engine.specs.Feed.{HasRead, Intake, Kept}
use Rattle.engine.proofs.IntakeLaws.{none_more, over_cut, over_whole, refused_more}
use Rattle.engine.proofs.intake.Intake.read_line.Given.{Over}
use Rattle.engine.proofs.intake.Intake.read_line.Goals.{After-next_within}
use Rattle.engine.proofs.intake.Intake.read_line.Goals as goal

-- what was read before
abbrev old : (g : Over) → After-next_within g → Intake
old g c = record { feed = c.self.inside.feeder; events = c.self.inside.events.items; refused = c.self.inside.refused.items }

has_read : (g : Over) (c : After-next_within g) (start : Feed) (said : List Answer) → HasRead c.args.config.now start said c.args.self.now.read → HasRead c.args.config.now start said (old g c)
has_read g c start said h =
    let same : old g c ≡ c.args.self.now.read = ap (λ (k : Kept). k.read) c.self.view_is in
    subst (λ (x : Intake). HasRead c.args.config.now start said x) (sym same) h

pub returns-in-Ok-None-clause-next : goal.returns-in-Ok-None-clause-next
returns-in-Ok-None-clause-next g c = λ start said h.
    let past = (goal.at.returns-in-Ok-None-clause-next g c).After-next_within in
    let new : Intake = record { feed = c.next_within.new.self; events = c.reserve.new.self.items; refused = c.reserve-2.new.self.items } in
    let events : new.events ≡ (old g past).events = search rules in
    let refused : new.refused ≡ (old g past).refused = search rules in
    let gives = rw c.in-Ok-None.field-0-is at c.in-Ok-None.ensures.none in
    (said, over_whole g.R.Input.can_fail c.args.config.now start said (old g past) new (has_read g past start said h) gives events refused)

pub returns-in-Some-clause-next : goal.returns-in-Some-clause-next
returns-in-Some-clause-next g c = λ start said h.
    let past = (goal.at.returns-in-Some-clause-next g c).After-next_within in
    let new : Intake = record { feed = c.next_within.new.self; events = c.reserve.new.self.items; refused = c.push-room.new.self.items } in
    let events : new.events ≡ (old g past).events = search rules in
    let refused : new.refused ≡ (old g past).refused ++ c.in-Err.refusal ∷ [] = search rules in
    let stopped : c.next_within.new.self.stop ≡ Some c.in-Some._stop = search rules in
    (said ++ refusal c.in-Err.refusal ∷ [], over_cut g.R.Input.can_fail c.args.config.now start said (old g past) new c.in-Err.refusal c.in-Some._stop (has_read g past start said h) stopped c.in-Err.ensures.fault c.in-Err.ensures.last events refused)

pub returns-in_default-clause-next : goal.returns-in_default-clause-next
returns-in_default-clause-next g c = λ start said h.
    let past = (goal.at.returns-in_default-clause-next g c).After-next_within in
    let new : Intake = record { feed = c.next_within.new.self; events = c.reserve.new.self.items; refused = c.push-room.new.self.items } in
    let events : new.events ≡ (old g past).events = search rules in
    let refused : new.refused ≡ (old g past).refused ++ c.in-Err.refusal ∷ [] = search rules in
    let stopped : c.next_within.new.self.stop ≡ None = search rules in
    (c.in-Err.refusal, refused_more c.args.config.now start said (old g past) new c.in-Err.refusal (has_read g past start said h) c.in-Err.ensures.fault stopped events refused)

-- ---- what is refused where no line is too far ahead

pub returns-in-Some-clause-near : goal.returns-in-Some-clause-near
returns-in-Some-clause-near g c =
    let opened : g.H.Horizon.is_open c.self.inside.horizon ≡ c.args.self.now.is_open = ap (λ (k : Kept). k.is_open) c.self.view_is in
    let refused : c.push-room.new.self.items ≡ c.args.self.now.read.refused ++ c.in-Err.refusal ∷ [] = search rules in
    ((λ is none. none_more c.args.self.now.read.refused c.push-room.new.self.items c.in-Err.refusal refused (c.in-Err.ensures.no_limit (opened ∙ is)) none), opened)

pub returns-in_default-clause-near : goal.returns-in_default-clause-near
returns-in_default-clause-near g c =
    let opened : g.H.Horizon.is_open c.self.inside.horizon ≡ c.args.self.now.is_open = ap (λ (k : Kept). k.is_open) c.self.view_is in
    let refused : c.push-room.new.self.items ≡ c.args.self.now.read.refused ++ c.in-Err.refusal ∷ [] = search rules in
    ((λ is none. none_more c.args.self.now.read.refused c.push-room.new.self.items c.in-Err.refusal refused (c.in-Err.ensures.no_limit (opened ∙ is)) none), opened)

-- ---- the line is after those that were read

pub returns-in-Ok-Some-clause-line : goal.returns-in-Ok-Some-clause-line
returns-in-Ok-Some-clause-line g c = λ _.
    let gives = rw c.in-Ok-Some.field-0-is at c.in-Ok-Some.ensures.event in
    let line : c.self.inside.feeder.line < c.next_within.new.self.line = (gives no_line refl).line in
    subst (λ (n : ℕ). n < c.next_within.new.self.line) (ap (λ (k : Kept). k.read.feed.line) c.self.view_is) line

pub returns-in_default-clause-line : goal.returns-in_default-clause-line
returns-in_default-clause-line g c = λ _.
    let line : c.self.inside.feeder.line < c.next_within.new.self.line = (c.in-Err.ensures.fault (λ _. is_ahead c.in-Err.refusal.fault) refl).line in
    subst (λ (n : ℕ). n < c.next_within.new.self.line) (ap (λ (k : Kept). k.read.feed.line) c.self.view_is) line
