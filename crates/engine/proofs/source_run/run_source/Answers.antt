use Rattle.std.proofs.Common.{arith, rules, ◌≡◌, ◌<◌, ◌≤◌, ◌%◌, ◌∙◌, List, ap, length, reverse, slice_get, Some, subst, sym, ℕ}
use Rattle.due_model.specs.declared.event.Event.{Event}
use Rattle.std.proofs.lemmas.Option.{slice_get_within}
use Rattle.lemmas.proofs.Lists.{some_at}
use Rattle.engine.specs.claims.Lanes.{HaveTaken, channels_on, count_of}
use Rattle.engine.specs.Lanes.{IsEndOf}
use Rattle.engine.proofs.ChannelLaws.{channels_told, no_channels}
use Rattle.engine_threads.specs.Told.{HaveTold, NoneIsLeft}
use Rattle.engine.specs.Logs.{given_logs}
use Rattle.engine.specs.Run.{IsToldRunOf}
use Rattle.engine.proofs.PostLaws.{channels_count}
use Rattle.engine.proofs.source_run.run_source.Goals as goal

pub run_threads-left-requires-clause-lanes : goal.run_threads-left-requires-clause-lanes
run_threads-left-requires-clause-lanes g c κs within = c.in-Ok.ensures.lanes

pub run_threads-left-requires-clause-few : goal.run_threads-left-requires-clause-few
run_threads-left-requires-clause-few g c κs within l of_lane at =
    let count = ap (λ bs. length bs) (c.in-Ok.ensures.channels l of_lane at) ∙ channels_count (λ p. p.lane.0) (λ p. p.channel) l c.args.posts.items in
    subst (λ n. n ≤ 8) (sym count) (c.requires.few l)

pub end_of-requires-clause-room : goal.end_of-requires-clause-room
end_of-requires-clause-room g c = let few = c.run_threads-left.ensures.few in let room = c.in-Ok.ensures.room in omega (arith, few, room)

pub end_of-requires-clause-few : goal.end_of-requires-clause-few
end_of-requires-clause-few g c = let few = c.run_threads-left.ensures.few in let lanes = c.requires.accepted.few_lanes in omega (arith, few, lanes)

pub returns-in_default-clause-run : goal.returns-in_default-clause-run
returns-in_default-clause-run g c = c.nothing.ensures.run c.args.setup.config.now c.args.setup.zone.now _ _ (given_logs c.args.logs) (ap (λ s. g.S.Source.given_so_far s) c.nothing.ensures.source ∙ c.requires.source)

pub returns-clause-run : goal.returns-clause-run
returns-clause-run g c =
    let given = count_of (λ post. post.lane.0) c.args.posts.items in
    let threads = c.run_threads-left.ensures in
    let end = c.end_of.result in
    let counts = subst (λ ns. (l n : ℕ) → slice_get ns l ≡ Some n → n ≡ count_of (λ post. post.lane.0) c.args.posts.items l) (sym c.deref.ensures.value) c.in-Ok.ensures.each in
    let ran = threads.run given (λ l of_lane at. ap (λ bs. length bs) (c.in-Ok.ensures.channels l of_lane at) ∙ channels_count (λ p. p.lane.0) (λ p. p.channel) l c.args.posts.items) in
    let logs = c.in-Ok-logs.logs.items in
    let same : given_logs c.args.logs ≡ logs = search rules in
    let events = g.S.Source.given_so_far c.run_threads-left.result.source in
    let run = c.end_of.ensures.run c.args.setup.config.now c.args.setup.zone.now given events (λ o. ran.0 (o % length logs)) counts (record { run = ran.2; whole = threads.whole }) in
    let told = subst (λ m. HaveTold g.L.DeciderLog.tells g.L.DeciderLog.failed c.args.setup.config.now c.args.setup.zone.now (length logs) (reverse events) m logs end.logs.items ran.0) (sym c.end_of.ensures.memory)
    (subst (λ back. HaveTold g.L.DeciderLog.tells g.L.DeciderLog.failed c.args.setup.config.now c.args.setup.zone.now (length logs) (reverse events) c.run_threads-left.result.memory logs back ran.0) (sym c.end_of.ensures.logs) ran.1) in
    let left = subst (λ back. NoneIsLeft g.L.DeciderLog.failed (length logs) back end.log.items) (sym c.end_of.ensures.logs)
    (subst (λ log. NoneIsLeft g.L.DeciderLog.failed (length logs) c.run_threads-left.result.logs.items log) (sym c.end_of.ensures.log) ran.3) in
    subst (λ ls. IsToldRunOf g.L.DeciderLog.tells g.L.DeciderLog.failed c.args.setup.config.now c.args.setup.zone.now given (g.S.Source.given_so_far end.source) end.memory end.lanes.items ls end.logs.items end.log.items) (sym same)
    (subst (λ (es : List Event). IsToldRunOf g.L.DeciderLog.tells g.L.DeciderLog.failed c.args.setup.config.now c.args.setup.zone.now given es end.memory end.lanes.items logs end.logs.items end.log.items) (ap (λ s. g.S.Source.given_so_far s) (sym c.end_of.ensures.source)) (ran.0, told, run, left))

pub returns-in_default-clause-channels : goal.returns-in_default-clause-channels
returns-in_default-clause-channels g c = λ l lane cs at_lane at_cs. absurd (no_channels c.nothing.result.lanes.items l lane c.nothing.ensures.lanes at_lane)

pub returns-clause-channels : goal.returns-clause-channels
returns-clause-channels g c = λ l lane cs at_lane at_cs.
    let given = count_of (λ post. post.lane.0) c.args.posts.items in
    let threads = c.run_threads-left.ensures in
    let left = c.run_threads-left.result in
    let channels = c.in-Ok.ensures.channels in
    let count : (k : ℕ) (of_lane : _) → slice_get c.in-Ok.channels.items k ≡ Some of_lane → length of_lane.items ≡ given k = λ k of_lane at. ap (λ bs. length bs) (channels k of_lane at) ∙ channels_count (λ p. p.lane.0) (λ p. p.channel) k c.args.posts.items in
    let run = threads.run given count in
    let below : l < length left.lanes.items = subst (λ n. l < n) c.end_of.ensures.count (slice_get_within c.end_of.result.lanes.items l lane at_lane) in
    let s = some_at left.lanes.items l below in
    let few = threads.few in
    let of_lane = some_at c.in-Ok.channels.items l (let n = c.in-Ok.ensures.lanes in omega (arith, below, few, n)) in
    let n = some_at c.in-Ok.counts.items l (let m = c.in-Ok.ensures.counts in omega (arith, below, few, m)) in
    let end = c.end_of.ensures.each l n.0 s.0 lane (subst (λ ns. slice_get ns l ≡ Some n.0) (sym c.deref.ensures.value) n.1) s.1 at_lane in
    let end_given = subst (λ k. IsEndOf l k s.0 lane) (c.in-Ok.ensures.each l n.0 n.1) end in
    let tie = threads.channels l of_lane.0 s.0 cs of_lane.1 s.1 (subst (λ bs. slice_get bs l ≡ Some cs) c.end_of.ensures.channels at_cs) in
    subst (λ (old : List g.row.C.Denot). HaveTaken g.C.Channel.account g.C.Channel.offered c.args.settings.tries c.args.setup.config.now lane old cs.items) (channels l of_lane.0 of_lane.1)
    (channels_told _ _ _ _ l (given l) s.0 lane of_lane.0.items cs.items end_given (run.2.causes l s.0 s.1) (count l of_lane.0 of_lane.1) tie)
