use Rattle.std.proofs.Common.{◌∙◌, ◌++◌, ◌∷◌, [], ap, subst, sym}
use Rattle.event_feed.specs.claims.Feed.{refusal}
use Rattle.engine.specs.declared.intake.Next.{Next}
use Rattle.engine.specs.claims.Feed.{NoneIsAhead}
use Rattle.engine.specs.Feed.{Follows, Intake, IsOver, Kept}
use Rattle.engine.specs.FeedLaws.{stays_open_then}
use Rattle.engine.proofs.IntakeLaws.{has_read, read_taken}
use Rattle.engine.proofs.intake.Intake.take_line.Goals as goal

pub returns-in-Accepts-clause-goes : goal.returns-in-Accepts-clause-goes
returns-in-Accepts-clause-goes g c = (
  λ start said taken.
      let config = c.args.config.now in
      let can_fail = g.R.Input.can_fail in
      let was = c.args.self.now in
      let follows = c.in_ok-event.ensures.next start said (has_read can_fail config start was.read was.over said c.requires taken) in
      let offers = subst (λ (n : Next). Follows can_fail config start said n c.read_line.new.self.read) c.in-Accepts.is follows in
      c.accept.ensures.taken can_fail config start said offers,
  stays_open_then c.args.self.now c.read_line.new.self c.accept.new.self c.in_ok-event.ensures.near c.accept.ensures.near,
)

pub returns-in-Refused-clause-goes : goal.returns-in-Refused-clause-goes
returns-in-Refused-clause-goes g c = (
  λ start said taken.
      let config = c.args.config.now in
      let can_fail = g.R.Input.can_fail in
      let was = c.args.self.now in
      let follows = c.in_ok-event.ensures.next start said (has_read can_fail config start was.read was.over said c.requires taken) in
      let more = subst (λ (n : Next). Follows can_fail config start said n c.read_line.new.self.read) c.in-Refused.is follows in
      (said ++ refusal more.0 ∷ [], read_taken can_fail config start c.read_line.new.self.read c.read_line.new.self.over (said ++ refusal more.0 ∷ []) (c.in_ok-event.ensures.over ∙ c.requires) more.1),
  c.in_ok-event.ensures.near,
)

pub returns-in-Over-clause-goes : goal.returns-in-Over-clause-goes
returns-in-Over-clause-goes g c = (
  λ start said taken.
      let config = c.args.config.now in
      let can_fail = g.R.Input.can_fail in
      let was = c.args.self.now in
      let follows = c.in_ok-event.ensures.next start said (has_read can_fail config start was.read was.over said c.requires taken) in
      let over = subst (λ (n : Next). Follows can_fail config start said n c.read_line.new.self.read) c.in-Over.is follows in
      (over.0, subst (λ (x : Intake). IsOver can_fail config start over.0 c.in-Over.cut x) (sym (ap (λ (k : Kept). k.read) c.self.view_is)) over.1),
  (
    λ is none. subst NoneIsAhead (sym (ap (λ (k : Kept). k.read.refused) c.self.view_is)) (c.in_ok-event.ensures.near.0 is none),
    ap (λ (k : Kept). k.is_open) c.self.view_is ∙ c.in_ok-event.ensures.near.1,
  ),
)
