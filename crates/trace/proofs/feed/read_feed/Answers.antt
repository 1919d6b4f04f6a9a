use Rattle.std.proofs.Common.{refl}
use Rattle.lemmas.proofs.Results.{on_err_always}
use Rattle.trace.specs.FeedRun.{ReadsSome}
use Rattle.trace.proofs.FeedLaws.{some_front, some_none, some_more, some_last, unmoved_join}
use Rattle.event_feed.specs.FeedLaws.{known_same, known_then}
use Rattle.trace.proofs.StepLinesLaws.{if_none_is, if_some_is, known_last}
use Rattle.trace.proofs.feed.read_feed.Goals as goal

pub loop-after-init : goal.loop-after-init
loop-after-init g c =
    let w = g.W.Write.contents c.args.writer.now in
    record {
      fits = c.requires.fits;
      unmoved = record { config = refl; deciders = refl; world = refl; setup = refl; posted = refl };
      limit = c.requires.limit;
      open_still = c.requires.open;
      so_far = known_same c.args.feeder.now.bytes (λ bytes rest. ReadsSome c.args.run.now c.args.feeder.now bytes c.args.run.now c.args.feeder.now rest w w c.args.lines.now c.args.lines.now)
          (λ bytes. some_none c.args.run.now c.args.feeder.now bytes w c.args.lines.now);
    }

pub loop-after-preserved : goal.loop-after-preserved
loop-after-preserved g c =
    let run = c.args.run.now in
    let mid = c.loop-after.run in
    let new = c.read_feed_line.new in
    let inv = c.loop-after.invariant in
    let done = c.in_ok-after.ensures in
    record {
      fits = done.fits;
      unmoved = unmoved_join run mid new.run inv.unmoved done.unmoved;
      limit = done.limit;
      open_still = (if_none_is c.in_ok-after.field-0 c.in_default.is done.goes_on).1;
      so_far = known_then c.args.feeder.now.bytes c.loop-after.feeder.bytes new.feeder.bytes _ _ _
          inv.so_far (if_none_is c.in_ok-after.field-0 c.in_default.is done.next)
          (λ x y z h k. some_more run mid new.run c.args.feeder.now c.loop-after.feeder new.feeder x y z
          (g.W.Write.contents c.args.writer.now) (g.W.Write.contents c.loop-after.writer) (g.W.Write.contents new.writer) c.args.lines.now c.loop-after.lines new.lines inv.unmoved.config h k);
    }

pub returns-in_err-after-clause-front : goal.returns-in_err-after-clause-front
returns-in_err-after-clause-front g c =
    let run = c.args.run.now in
    let mid = c.loop-after.run in
    let inv = c.loop-after.invariant in
    on_err_always _ (known_last c.args.feeder.now.bytes c.loop-after.feeder.bytes _ _ _
    (λ x y h k. some_front g.R.Input.can_fail run mid c.args.feeder.now c.loop-after.feeder x y
    (g.W.Write.contents c.args.writer.now) (g.W.Write.contents c.loop-after.writer) (g.W.Write.contents c.read_feed_line.new.writer) c.args.lines.now c.loop-after.lines inv.unmoved.config h k)
    inv.so_far c.in_err-after.ensures.front)

pub returns-in-Some-clause-feed : goal.returns-in-Some-clause-feed
returns-in-Some-clause-feed g c =
    let run = c.args.run.now in
    let mid = c.loop-after.run in
    let new = c.read_feed_line.new in
    let inv = c.loop-after.invariant in
    known_then c.args.feeder.now.bytes c.loop-after.feeder.bytes new.feeder.bytes _ _ _
    inv.so_far (if_some_is _ c.in_ok-after.field-0 c.in-Some.after c.in-Some.is c.in_ok-after.ensures.last)
    (λ x y z h k. some_last g.R.Input.can_fail run mid new.run c.args.feeder.now c.loop-after.feeder x y z c.in-Some.after
    (g.W.Write.contents c.args.writer.now) (g.W.Write.contents c.loop-after.writer) (g.W.Write.contents new.writer) c.args.lines.now c.loop-after.lines new.lines inv.unmoved.config h k)
