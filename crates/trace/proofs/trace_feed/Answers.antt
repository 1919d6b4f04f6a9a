use Rattle.std.proofs.Common.{◌≡◌, ◌+◌, ◌≤◌, false, List, ℕ, length, replicate, refl, ap, ◌∙◌, arith}
use Rattle.std.proofs.lemmas.List.Elements.{All-same, All-replicate}
use Rattle.event_feed.specs.claims.Feed.{Feed}
use Rattle.steps.specs.Settings.{max_channels}
use Rattle.text_lines.specs.LineReader.{to_come}
use Rattle.text_lines.specs.claims.Lines.{Known}
use Rattle.world_steps.specs.Runs.{new_world}
use Rattle.trace.specs.declared.run.Run.{Run}
use Rattle.trace.specs.FeedRun.{ReadsFeed}
use Rattle.trace.specs.Trace.{trace_setup}
use Rattle.lemmas.proofs.Results.{on_err_always}
use Rattle.trace.proofs.EndLaws.{HasBegun, IsFed, IsFresh, fed, feed_traced, front_of_end, front_of_feed, front_of_flush, front_of_none}
use Rattle.trace.proofs.trace_feed.Given.{Over}
use Rattle.trace.proofs.trace_feed.Goals.{After-into_lines-source, After-new-feeder}
use Rattle.trace.proofs.trace_feed.Goals as goal

-- the run with which the trace begins
abbrev first : (g : Over) → After-new-feeder g → Run
first g c = record { config = c.args.config; deciders = c.args.settings.deciders; world = c.in_ok-new.field-0; events = c.new-2.result; posted = 0; is_over = false }

fresh : (g : Over) (c : After-new-feeder g) → IsFresh c.args.config.now (first g c) c.in_ok-lines.lines
fresh g c = record { config = refl; events = c.new-2.ensures.items; over = refl; text = c.in_ok-lines.ensures }

-- the same run with what its feed gave
begun : (g : Over) (c : After-into_lines-source g) → HasBegun c.args.config.now c.args.zone.now c.args.settings c.args.standbys c.read_feed.new.run
begun g c =
    let unmoved = c.in_ok-after.ensures.unmoved in
    let setup = trace_setup c.args.config.now c.args.zone.now c.args.settings in
    let served : c.deref.result.now ≡ replicate (length c.args.config.now.lanes) (c.args.standbys + 1) =
    c.deref.ensures.value ∙ c.in_ok-served.ensures.items_if_clones_equal (λ y e. e) ∙ ap (λ (n : ℕ). replicate n (c.args.standbys + 1)) c.len.ensures in
    record {
      config = ap (λ r. r.now) unmoved.config;
      deciders = unmoved.deciders;
      setup = unmoved.setup ∙ c.in_ok-new.ensures.setup;
      posted = unmoved.posted;
      world = unmoved.world ∙ c.in_ok-new.ensures.state ∙ ap (λ (all : List ℕ). new_world setup all) served;
    }

read : (g : Over) (c : After-into_lines-source g) (run : Run) → IsFresh c.args.config.now run c.in_ok-lines.lines
    → Known c.new-feeder.result.bytes c.read_feed.new.feeder.bytes (λ bytes rest. ReadsFeed g.R.Input.can_fail run c.new-feeder.result bytes c.in_ok-after.after c.read_feed.new.run rest
    (g.W.Write.contents c.args.writer.now) (g.W.Write.contents c.read_feed.new.writer) c.in_ok-lines.lines c.read_feed.new.lines)
    → IsFed g.R.Input.can_fail c.args.config.now c.args.source (to_come c.into_lines-source.result) c.in_ok-after.after c.read_feed.new.run
    (g.W.Write.contents c.args.writer.now) (g.W.Write.contents c.read_feed.new.writer) c.read_feed.new.lines
read g c run fresh h =
    fed g.R.Input.can_fail c.args.config.now c.args.source c.new-feeder.result (to_come c.into_lines-source.result) c.read_feed.new.feeder.bytes c.in_ok-after.after run c.read_feed.new.run
    (g.W.Write.contents c.args.writer.now) (g.W.Write.contents c.read_feed.new.writer) c.in_ok-lines.lines c.read_feed.new.lines fresh c.new-feeder.ensures
    (ap (λ (f : Feed). f.bytes) c.into_lines-source.ensures) h

pub returns-clause-traces : goal.returns-clause-traces
returns-clause-traces g c =
    let past = goal.at.returns-clause-traces g c in
    let here = past.After-into_lines-source in
    feed_traced g.R.Input.can_fail _ _ _ _ _ _ _ _ _ _ _ (begun g here) (read g here _ (fresh g past.After-new-feeder) c.in_ok-after.ensures.feed)
    c.in_ok-ending.ending _ _ c.write_end.new.lines c.in_ok-flush.ensures.ok c.in_ok-ending.ensures.ok

pub returns-in_err-served-clause-front : goal.returns-in_err-served-clause-front
returns-in_err-served-clause-front g c =
    on_err_always _ (front_of_none g.R.Input.can_fail c.args.config.now c.args.zone.now c.args.settings c.args.standbys c.args.source (g.W.Write.contents c.args.writer.now))

pub returns-in_err-new-clause-front : goal.returns-in_err-new-clause-front
returns-in_err-new-clause-front g c =
    on_err_always _ (front_of_none g.R.Input.can_fail c.args.config.now c.args.zone.now c.args.settings c.args.standbys c.args.source (g.W.Write.contents c.args.writer.now))

pub returns-in_err-lines-clause-front : goal.returns-in_err-lines-clause-front
returns-in_err-lines-clause-front g c =
    on_err_always _ (front_of_none g.R.Input.can_fail c.args.config.now c.args.zone.now c.args.settings c.args.standbys c.args.source (g.W.Write.contents c.args.writer.now))

pub returns-in_err-after-clause-front : goal.returns-in_err-after-clause-front
returns-in_err-after-clause-front g c =
    on_err_always _ (front_of_feed g.R.Input.can_fail c.args.config.now c.args.zone.now c.args.settings c.args.standbys _ c.new-feeder.result c.args.source
    (g.W.Write.contents c.args.writer.now) (g.W.Write.contents c.read_feed.new.writer) c.in_ok-lines.lines
    (fresh g (goal.at.returns-in_err-after-clause-front g c).After-new-feeder) c.new-feeder.ensures c.in_err-after.ensures.front)

pub returns-in_err-ending-clause-front : goal.returns-in_err-ending-clause-front
returns-in_err-ending-clause-front g c =
    let past = goal.at.returns-in_err-ending-clause-front g c in
    let here = past.After-into_lines-source in
    on_err_always _ (front_of_end g.R.Input.can_fail _ _ _ _ _ _ _ _ _ _ _ (begun g here) (read g here _ (fresh g past.After-new-feeder) c.in_ok-after.ensures.feed)
    (g.W.Write.contents c.write_end.new.writer) c.in_err-ending.ensures.front)

pub returns-in_err-flush-clause-front : goal.returns-in_err-flush-clause-front
returns-in_err-flush-clause-front g c =
    let past = goal.at.returns-in_err-flush-clause-front g c in
    let here = past.After-into_lines-source in
    on_err_always _ (front_of_flush g.R.Input.can_fail _ _ _ _ _ _ _ _ _ _ _ (begun g here) (read g here _ (fresh g past.After-new-feeder) c.in_ok-after.ensures.feed)
    c.in_ok-ending.ending _ (g.W.Write.contents c.flush.new.writer) c.write_end.new.lines c.flush.ensures.front c.in_ok-ending.ensures.ok)

pub new-requires-clause-channels : goal.new-requires-clause-channels
new-requires-clause-channels g c =
    let few : c.args.standbys + 1 ≤ max_channels = omega (arith, c.requires.standbys) in
    All-same (λ (n : ℕ). n ≤ max_channels) c.deref.result.now (replicate c.len.result (c.args.standbys + 1)) (c.deref.ensures.value ∙ c.in_ok-served.ensures.items_if_clones_equal (λ y e. e))
    (All-replicate (λ (n : ℕ). n ≤ max_channels) c.len.result (c.args.standbys + 1) few)
