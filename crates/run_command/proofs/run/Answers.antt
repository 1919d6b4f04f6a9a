use Rattle.std.proofs.Common.{◌≡◌, refl}
use Rattle.engine.specs.claims.Feed.{ahead_in}
use Rattle.engine.specs.claims.Lanes.{AreTold, channels_on, count_of}
use Rattle.written.specs.claims.Written.{WritesFront}
use Rattle.run_command.specs.claims.Report.{IsRun, report_text}
use Rattle.run_command.proofs.LoggedLaws.{if_cut}
use Rattle.run_command.proofs.ReportLaws.{if_told}
use Rattle.run_command.proofs.run.Goals as goal

pub returns-clause-report : goal.returns-clause-report
returns-clause-report g c =
    let e = c.run_within-end.ensures in
    let run : IsRun g.R.Input.can_fail (g.H.Horizon.is_open c.args.feed.horizon) c.args.config.now c.args.zone.now (count_of (λ post. post.lane.0) c.args.posts.items) (AreTold g.C.Channel.account g.C.Channel.offered (λ cs. cs.items) c.args.settings.tries c.args.config.now (λ l. channels_on (λ post. post.lane.0) (λ post. post.channel) l c.args.posts.items) c.run_within-end.result.1.items) (g.R.Read.remaining c.args.feed.reader) c.run_within-end.result.0 =
    (e.run, e.read (ahead_in c.run_within-end.result.0.refused.items) (λ line. refl), e.near, e.channels) in
    if_told g.R.Input.can_fail (g.H.Horizon.is_open c.args.feed.horizon) c.args.config.now c.args.zone.now (count_of (λ post. post.lane.0) c.args.posts.items) (AreTold g.C.Channel.account g.C.Channel.offered (λ cs. cs.items) c.args.settings.tries c.args.config.now (λ l. channels_on (λ post. post.lane.0) (λ post. post.channel) l c.args.posts.items) c.run_within-end.result.1.items) (g.R.Read.remaining c.args.feed.reader)
    (g.W.Write.contents c.args.writer.now) (g.W.Write.contents c.tell-told.new.writer) c.run_within-end.result.0 c.tell-told.result c.outcome_of.result run c.tell-told.ensures.ok c.outcome_of.ensures.ok

pub returns-clause-front : goal.returns-clause-front
returns-clause-front g c =
    let e = c.run_within-end.ensures in
    let end = c.run_within-end.result.0 in
    let run : IsRun g.R.Input.can_fail (g.H.Horizon.is_open c.args.feed.horizon) c.args.config.now c.args.zone.now (count_of (λ post. post.lane.0) c.args.posts.items) (AreTold g.C.Channel.account g.C.Channel.offered (λ cs. cs.items) c.args.settings.tries c.args.config.now (λ l. channels_on (λ post. post.lane.0) (λ post. post.channel) l c.args.posts.items) c.run_within-end.result.1.items) (g.R.Read.remaining c.args.feed.reader) end =
    (e.run, e.read (ahead_in end.refused.items) (λ line. refl), e.near, e.channels) in
    let before = g.W.Write.contents c.args.writer.now in
    let after = g.W.Write.contents c.tell-told.new.writer in
    if_cut (IsRun g.R.Input.can_fail (g.H.Horizon.is_open c.args.feed.horizon) c.args.config.now c.args.zone.now (count_of (λ post. post.lane.0) c.args.posts.items) (AreTold g.C.Channel.account g.C.Channel.offered (λ cs. cs.items) c.args.settings.tries c.args.config.now (λ l. channels_on (λ post. post.lane.0) (λ post. post.channel) l c.args.posts.items) c.run_within-end.result.1.items) (g.R.Read.remaining c.args.feed.reader))
    (λ e. WritesFront before after (report_text c.args.config.now e)) (after ≡ before) end c.outcome_of.result run c.outcome_of.ensures.output c.tell-told.ensures.front
