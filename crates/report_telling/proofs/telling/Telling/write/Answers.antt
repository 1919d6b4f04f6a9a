use Rattle.std.proofs.Common.{◌<◌, ◌≤◌, ◌+◌, arith, refl, ◌∙◌}
use Rattle.decider.specs.claims.Fits.{core_kept}
use Rattle.event_feed.specs.claims.Feed.{feed_limit}
use Rattle.report_telling.specs.Told.{form_of}
use Rattle.report_telling.specs.Telling.{TellsFeedFront}
use Rattle.report_telling.proofs.TellingLaws.{told_cut, told_front, told_held, told_less, told_on, told_start, told_whole}
use Rattle.report_telling.proofs.telling.Telling.write.Given.{Over}
use Rattle.report_telling.proofs.telling.Telling.write.Goals.{After-finish}
use Rattle.report_telling.proofs.telling.Telling.write.Goals as goal

pub loop-self-init : goal.loop-self-init
loop-self-init g c = record {
  config = refl;
  zone = refl;
  told = told_start (form_of g.T.Teller.told g.T.Teller.after g.T.Teller.ended) c.args.self.now.config.now c.args.self.now.clock c.args.self.now.feeder c.args.self.now.lines.teller
      (g.W.Write.contents c.args.writer.now) (core_kept c.args.self.now.decider) c.args.self.now.lines.buffer c.requires.goes_on c.requires.fits c.requires.held;
}

pub take_line-requires-clause-goes_on : goal.take_line-requires-clause-goes_on
take_line-requires-clause-goes_on g c = c.loop-self.invariant.told.follows.goes_on

pub take_line-requires-clause-fits : goal.take_line-requires-clause-fits
take_line-requires-clause-fits g c = (c.loop-self.invariant.told.past, c.loop-self.invariant.told.fits)

pub loop-self-preserved : goal.loop-self-preserved
loop-self-preserved g c =
    let inv = c.loop-self.invariant in
    let held = told_held _ _ _ _ _ _ _ _ _ _ _ _ _ _ inv.told c.in_ok-write_before_wait.ensures.ok c.write_before_wait.ensures.teller in
    let on = rw (c.in-None.is, inv.config, inv.zone) at c.in_ok-take_line.ensures.goes_on in
    record {
      config = c.take_line.ensures.config ∙ inv.config;
      zone = c.take_line.ensures.zone ∙ inv.zone;
      told = told_on _ _ _ _ _ _ _ _ _ _ _ _ _ _ _ _ held on;
    }

pub loop-self-smaller : goal.loop-self-smaller
loop-self-smaller g c =
    let now = c.loop-self.invariant.told in
    let on = rw c.in-None.is at c.in_ok-take_line.ensures.goes_on in
    let next = on.each now.past now.fits in
    let less : c.loop-self.self.feeder.line < c.take_line.new.self.feeder.line = next.1.line in
    let limit : c.take_line.new.self.feeder.line ≤ feed_limit + 1 = c.take_line.ensures.limit in
    omega (arith, less, limit)

pub returns-in_err-write_before_wait-clause-front : goal.returns-in_err-write_before_wait-clause-front
returns-in_err-write_before_wait-clause-front g c = told_less _ g.R.Input.can_fail _ _ _ _ _ _ _ _ _ _ _ c.loop-self.invariant.told c.in_err-write_before_wait.ensures.front

pub returns-in_err-take_line-clause-front : goal.returns-in_err-take_line-clause-front
returns-in_err-take_line-clause-front g c =
    let inv = c.loop-self.invariant in
    let held = told_held _ _ _ _ _ _ _ _ _ _ _ _ _ _ inv.told c.in_ok-write_before_wait.ensures.ok c.write_before_wait.ensures.teller in
    told_front _ g.R.Input.can_fail _ _ _ _ _ _ _ _ _ _ _ held (rw (inv.config, inv.zone) at c.in_err-take_line.ensures.front)

-- the feed ended, and a front of what is told was written
cut_front : (g : Over) (c : After-finish g) → TellsFeedFront (form_of g.T.Teller.told g.T.Teller.after g.T.Teller.ended) g.R.Input.can_fail c.args.self.now.config.now c.args.self.now.clock c.args.self.now.feeder
    c.args.self.now.lines.teller (g.W.Write.contents c.args.writer.now) (g.W.Write.contents c.finish.new.writer)
cut_front g c =
    let inv = c.loop-self.invariant in
    let held = told_held _ _ _ _ _ _ _ _ _ _ _ _ _ _ inv.told c.in_ok-write_before_wait.ensures.ok c.write_before_wait.ensures.teller in
    let ends = rw (c.in-Some.is, inv.config, inv.zone) at c.in_ok-take_line.ensures.ends in
    let last = rw (c.take_line.ensures.config, c.take_line.ensures.zone, inv.config, inv.zone) at c.finish.ensures.front in
    told_cut _ g.R.Input.can_fail _ _ _ _ _ _ _ _ _ _ _ _ _ _ _ held ends last

pub returns-in_err-finish-in-Some-clause-front : goal.returns-in_err-finish-in-Some-clause-front
returns-in_err-finish-in-Some-clause-front g c = cut_front g (goal.at.returns-in_err-finish-in-Some-clause-front g c).After-finish

pub returns-in-Some-clause-front : goal.returns-in-Some-clause-front
returns-in-Some-clause-front g c = cut_front g (goal.at.returns-in-Some-clause-front g c).After-finish

pub returns-in-Some-clause-ok : goal.returns-in-Some-clause-ok
returns-in-Some-clause-ok g c =
    let inv = c.loop-self.invariant in
    let held = told_held _ _ _ _ _ _ _ _ _ _ _ _ _ _ inv.told c.in_ok-write_before_wait.ensures.ok c.write_before_wait.ensures.teller in
    let ends = rw (c.in-Some.is, inv.config, inv.zone) at c.in_ok-take_line.ensures.ends in
    let last = rw (c.take_line.ensures.config, c.take_line.ensures.zone, inv.config, inv.zone) at c.in_ok-finish-in-Some.ensures.ok in
    told_whole _ g.R.Input.can_fail _ _ _ _ _ _ _ _ _ _ _ _ _ _ _ held ends last
