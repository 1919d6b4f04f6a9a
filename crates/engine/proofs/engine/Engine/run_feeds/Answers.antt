use Rattle.std.proofs.Common.{◌≡◌, ◌∙◌, List, ap, false, true, subst, sym, ℕ}
use Rattle.due_model.specs.declared.event.Event.{Event}
use Rattle.engine.specs.claims.Lanes.{count_of}
use Rattle.engine.specs.claims.Run.{IsRunOf}
use Rattle.engine.specs.claims.Unread.{HasStarted, IsUnread}
use Rattle.engine.proofs.FeedsLaws.{feeds_done}
use Rattle.engine.proofs.RunEndLaws.{run_of_kept}
use Rattle.engine.proofs.engine.Engine.run_feeds.Goals as goal

pub returns : goal.returns
returns g c =
    let config = c.args.config.now in
    let given : ℕ → ℕ = count_of (λ post. post.lane.0) c.args.posts.items in
    let ran = c.run_source-lanes in
    let parts = c.into_parts-events in
    let done = feeds_done config c.new.result ran.result.source c.args.ends.items parts.result.1.items parts.result.0.items ran.result.memory parts.result.2 c.new.ensures.ends c.new.ensures.events (c.new.ensures.taken config)
    ran.ensures.source parts.ensures.events parts.ensures.ends
    (λ taken m uncut. parts.ensures.over config taken m (ran.ensures.over m) uncut) (λ taken cut. parts.ensures.cut config taken cut) in
    let kept = run_of_kept (λ _. true) config c.args.zone.now given _ ran.result.memory ran.result.lanes.items _ ran.result.logs.items ran.result.log.items ran.ensures.run in
    let run : IsRunOf config c.args.zone.now given parts.result.0.items ran.result.memory ran.result.lanes.items ran.result.log.items =
    subst (λ (es : List Event). IsRunOf config c.args.zone.now given es ran.result.memory ran.result.lanes.items ran.result.log.items) (sym parts.ensures.events) kept in
    let refused = c.new-2.ensures.items in
    let uncut = parts.ensures.uncut in
    let channels = ran.ensures.channels in
    let places = ran.ensures.places in
    let unread : ran.result.started ≡ false → IsUnread parts.result.0.items c.new-2.result.items ran.result.log.items ran.result.lanes.items ran.result.memory = λ no.
    (let none = ran.ensures.unstarted no in (parts.ensures.events ∙ ap (λ s. s.intake.events) none.0 ∙ c.new.ensures.events, c.new-2.ensures.items, none.3, none.2, none.1)) in
    let started : HasStarted config ran.result.started parts.result.0.items c.new-2.result.items ran.result.log.items ran.result.lanes.items ran.result.memory = record { all = ran.ensures.all; unread = unread } in
    let untaken : ran.result.started ≡ false → parts.result.1.items ≡ c.args.ends.items = λ no.
    parts.ensures.ends ∙ ap (λ s. s.intake.ends) (ran.ensures.unstarted no).0 ∙ c.new.ensures.ends in
    assumption (run, done, refused, uncut, channels, places, started, untaken)
