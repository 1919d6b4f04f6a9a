use Rattle.std.proofs.Common.{◌≡◌, List, OnOk, refl, subst}
use Rattle.engine.specs.claims.Feed.{ahead_in}
use Rattle.engine.specs.claims.Lanes.{AreTold, LaneParts, channels_on, count_of}
use Rattle.written.specs.claims.Written.{Writes, WritesFront}
use Rattle.run_command.specs.Report.{IsToldRun, ends_text}
use Rattle.run_command.proofs.LoggedLaws.{if_cut, if_ended}
use Rattle.run_command.proofs.logged.run_logged.Goals as goal

pub returns-clause-report : goal.returns-clause-report
returns-clause-report g c =
    let e = c.run_told-end.ensures in
    let end = c.run_told-end.result.0 in
    let run : IsToldRun g.L.DeciderLog.tells g.L.DeciderLog.failed g.R.Input.can_fail (g.H.Horizon.is_open c.args.feed.horizon) c.args.setup.config.now c.args.setup.zone.now (count_of (λ post. post.lane.0) c.args.outlets.posts.items) (AreTold g.C.Channel.account g.C.Channel.offered (λ cs. cs.items) c.args.settings.tries c.args.setup.config.now (λ l. channels_on (λ post. post.lane.0) (λ post. post.channel) l c.args.outlets.posts.items) c.run_told-end.result.1.items) (g.R.Read.remaining c.args.feed.reader) c.args.outlets.logs.items c.run_told-end.result.2.items end =
    (e.run, e.read (ahead_in end.refused.items) (λ line. refl), e.near, e.channels) in
    let before = g.W.Write.contents c.args.writer.now in
    let after = g.W.Write.contents c.tell_ends-told.new.writer in
    let wrote : OnOk c.tell_ends-told.result (Writes before after (ends_text c.args.setup.config.now end.lanes.items)) =
    subst (λ (lanes : List LaneParts). OnOk c.tell_ends-told.result (Writes before after (ends_text c.args.setup.config.now lanes))) c.deref.ensures.value c.tell_ends-told.ensures.ok in
    if_ended (IsToldRun g.L.DeciderLog.tells g.L.DeciderLog.failed g.R.Input.can_fail (g.H.Horizon.is_open c.args.feed.horizon) c.args.setup.config.now c.args.setup.zone.now (count_of (λ post. post.lane.0) c.args.outlets.posts.items) (AreTold g.C.Channel.account g.C.Channel.offered (λ cs. cs.items) c.args.settings.tries c.args.setup.config.now (λ l. channels_on (λ post. post.lane.0) (λ post. post.channel) l c.args.outlets.posts.items) c.run_told-end.result.1.items) (g.R.Read.remaining c.args.feed.reader) c.args.outlets.logs.items c.run_told-end.result.2.items)
    (λ e. Writes before after (ends_text c.args.setup.config.now e.lanes.items)) end c.tell_ends-told.result c.outcome_of.result run wrote c.outcome_of.ensures.ok

pub returns-clause-front : goal.returns-clause-front
returns-clause-front g c =
    let e = c.run_told-end.ensures in
    let end = c.run_told-end.result.0 in
    let run : IsToldRun g.L.DeciderLog.tells g.L.DeciderLog.failed g.R.Input.can_fail (g.H.Horizon.is_open c.args.feed.horizon) c.args.setup.config.now c.args.setup.zone.now (count_of (λ post. post.lane.0) c.args.outlets.posts.items) (AreTold g.C.Channel.account g.C.Channel.offered (λ cs. cs.items) c.args.settings.tries c.args.setup.config.now (λ l. channels_on (λ post. post.lane.0) (λ post. post.channel) l c.args.outlets.posts.items) c.run_told-end.result.1.items) (g.R.Read.remaining c.args.feed.reader) c.args.outlets.logs.items c.run_told-end.result.2.items end =
    (e.run, e.read (ahead_in end.refused.items) (λ line. refl), e.near, e.channels) in
    let before = g.W.Write.contents c.args.writer.now in
    let after = g.W.Write.contents c.tell_ends-told.new.writer in
    let wrote : WritesFront before after (ends_text c.args.setup.config.now end.lanes.items) =
    subst (λ (lanes : List LaneParts). WritesFront before after (ends_text c.args.setup.config.now lanes)) c.deref.ensures.value c.tell_ends-told.ensures.front in
    if_cut (IsToldRun g.L.DeciderLog.tells g.L.DeciderLog.failed g.R.Input.can_fail (g.H.Horizon.is_open c.args.feed.horizon) c.args.setup.config.now c.args.setup.zone.now (count_of (λ post. post.lane.0) c.args.outlets.posts.items) (AreTold g.C.Channel.account g.C.Channel.offered (λ cs. cs.items) c.args.settings.tries c.args.setup.config.now (λ l. channels_on (λ post. post.lane.0) (λ post. post.channel) l c.args.outlets.posts.items) c.run_told-end.result.1.items) (g.R.Read.remaining c.args.feed.reader) c.args.outlets.logs.items c.run_told-end.result.2.items)
    (λ e. WritesFront before after (ends_text c.args.setup.config.now e.lanes.items)) (after ≡ before) end c.outcome_of.result run c.outcome_of.ensures.output wrote
