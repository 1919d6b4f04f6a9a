use Rattle.std.proofs.Common.{rules, ◌≡◌, ◌∙◌, ap, length, Bool, List, Option, is_some, subst, sym, true, false, true≢false, ℕ}
use Rattle.std.proofs.lemmas.List.Elements.{All-nil}
use Rattle.due_model.specs.declared.event.Event.{Event}
use Rattle.event_feed.specs.claims.Fault.{is_ahead}
use Rattle.event_feed.specs.declared.fault.RefusedLine.{RefusedLine}
use Rattle.engine.specs.claims.Feed.{NoneIsAhead, ahead_in}
use Rattle.engine.specs.Feed.{IsStart}
use Rattle.engine.specs.claims.Lanes.{channels_on, count_of}
use Rattle.engine.specs.Logs.{given_logs}
use Rattle.engine.specs.claims.Run.{IsReadOf}
use Rattle.engine.specs.Run.{IsToldRunOf}
use Rattle.engine.specs.claims.Unread.{HasStarted, IsUnread}
use Rattle.engine.proofs.ChannelLaws.{none_told}
use Rattle.engine.proofs.IntakeLaws.{none_since, taken_since}
use Rattle.engine.proofs.RunEndLaws.{none_told_ran, read_is, unread_is}
use Rattle.engine.proofs.engine.run_reader.Goals as goal

pub returns-in_default : goal.returns-in_default
returns-in_default g c =
    let e = c.unread.ensures in
    let end = c.unread.result in
    let run = none_told_ran g.L.DeciderLog.tells g.L.DeciderLog.failed c.args.setup.config.now c.args.setup.zone.now (count_of (λ post. post.lane.0) c.args.posts.items) end.events.items end.memory end.lanes.items end.log.items (given_logs c.args.logs) c.new-in_default-2.result.items e.events e.lanes e.log c.new-in_default-2.ensures.items e.memory in
    let read : (far : ℕ → Bool) → ((line : ℕ) → far line ≡ ahead_in end.refused.items line) → IsReadOf far g.R.Input.can_fail c.args.setup.config.now (g.R.Read.remaining c.args.feed.reader) end.memory end.events.items end.refused.items end.cut = λ far same.
    unread_is far g.R.Input.can_fail c.args.setup.config.now (g.R.Read.remaining c.args.feed.reader) end.memory end.events.items end.refused.items end.cut e.events e.refused e.memory e.cut in
    let channels = none_told {C = g.row.C.Denot} g.C.Channel.account g.C.Channel.offered c.args.settings.tries c.args.setup.config.now end.lanes.items c.new-in_default.result.items (λ cs. cs.items) (λ l. channels_on (λ post. post.lane.0) (λ post. post.channel) l c.args.posts.items) e.lanes in
    let places : length c.new-in_default.result.items ≡ length end.lanes.items = ap length c.new-in_default.ensures.items ∙ sym (ap length e.lanes) in
    let started : HasStarted c.args.setup.config.now end.started end.events.items end.refused.items end.log.items end.lanes.items end.memory = record {
      all = λ yes. absurd (true≢false (sym yes ∙ e.started));
      unread = λ no. (e.events, e.refused, e.log, e.lanes, e.memory);
    } in
    let near : g.H.Horizon.is_open c.args.feed.horizon ≡ true → NoneIsAhead end.refused.items = λ _. subst NoneIsAhead (sym e.refused) (All-nil (λ (r : RefusedLine). is_ahead r.fault ≡ false)) in
    assumption (run, read, near, channels, places, started)

pub returns : goal.returns
returns g c =
    let config = c.args.setup.config.now in
    let begun = c.new-2.result in
    let known = g.R.Read.remaining c.args.feed.reader in
    let given : ℕ → ℕ = count_of (λ post. post.lane.0) c.args.posts.items in
    let ran = c.run_source-lanes in
    let parts = c.into_parts-events in
    let start : IsStart known begun = search rules in
    let taken = taken_since g.R.Input.can_fail config known begun ran.result.source start ran.ensures.source in
    let read : (far : ℕ → Bool) → ((line : ℕ) → far line ≡ ahead_in parts.result.1.items line) → IsReadOf far g.R.Input.can_fail config known ran.result.memory parts.result.0.items parts.result.1.items parts.result.2 = λ far same.
    read_is far g.R.Input.can_fail config known begun.read.feed ran.result.memory parts.result.0.items parts.result.1.items parts.result.2 start.first
    (parts.ensures.left g.R.Input.can_fail config begun.read.feed taken.0 far taken.1 ran.ensures.over same) in
    let near : g.H.Horizon.is_open c.args.feed.horizon ≡ true → NoneIsAhead parts.result.1.items = λ is. parts.ensures.near (none_since g.R.Input.can_fail config known begun ran.result.source start ran.ensures.source (c.new-2.ensures.is_open ∙ is)) in
    let logs = given_logs c.args.logs in
    let run : IsToldRunOf g.L.DeciderLog.tells g.L.DeciderLog.failed config c.args.setup.zone.now given parts.result.0.items ran.result.memory ran.result.lanes.items logs ran.result.logs.items ran.result.log.items =
    subst (λ (es : List Event). IsToldRunOf g.L.DeciderLog.tells g.L.DeciderLog.failed config c.args.setup.zone.now given es ran.result.memory ran.result.lanes.items logs ran.result.logs.items ran.result.log.items) (sym parts.ensures.events) ran.ensures.run in
    let channels = ran.ensures.channels in
    let places = ran.ensures.places in
    let unread : ran.result.started ≡ false → IsUnread parts.result.0.items parts.result.1.items ran.result.log.items ran.result.lanes.items ran.result.memory = λ no.
    (let none = ran.ensures.unstarted no in (
      parts.ensures.events ∙ ap (λ s. s.read.events) none.0 ∙ start.no_events,
      parts.ensures.refused (ap (λ s. is_some s.over) none.0 ∙ ap (λ (o : Option Bool). is_some o) start.not_over) ∙ ap (λ s. s.read.refused) none.0 ∙ start.no_refused,
      none.3,
      none.2,
      none.1,
    )) in
    let started : HasStarted config ran.result.started parts.result.0.items parts.result.1.items ran.result.log.items ran.result.lanes.items ran.result.memory = record { all = ran.ensures.all; unread = unread } in
    assumption (run, read, near, channels, places, started)
