use Rattle.std.proofs.Common.{◌≡◌, ◌<◌, ◌≤◌, ◌+◌, arith, refl, sym, subst, ◌∙◌}
use Rattle.decider.specs.claims.Fits.{core_kept}
use Rattle.event_feed.specs.claims.Feed.{feed_limit}
use Rattle.written.specs.claims.Written.{Leaves, WritesFront}
use Rattle.written.specs.WrittenLaws.{front_none}
use Rattle.notices_compared.proofs.StreamLaws.{compared_cut, compared_held, compared_last, compared_on, compared_start, compared_whole}
use Rattle.notices_compared.proofs.stream.write_changes.Goals as goal

pub loop-text-init : goal.loop-text-init
loop-text-init g c = record {
  form = refl;
  before = refl;
  after = refl;
  clock = refl;
  zone_before = c.requires.zones.0;
  zone_after = c.requires.zones.1;
  compared = compared_start c.args.both.now.form.form c.args.both.now.before.config.now c.args.both.now.after.config.now c.args.both.now.clock c.args.feed.now.feeder c.args.feed.now.last (g.W.Write.contents c.args.writer.now)
      (core_kept c.args.both.now.before.decider) (core_kept c.args.both.now.after.decider) c.args.both.now.before.ended c.args.both.now.after.ended c.args.both.now.told_before c.args.both.now.told_after c.new-text.result.items
      c.requires.goes_on c.requires.fits_before c.requires.fits_after c.requires.ended.0 c.requires.ended.1 c.requires.told_before c.requires.told_after c.new-text.ensures.items;
}

pub next-requires : goal.next-requires
next-requires g c = record { goes_on = c.loop-text.invariant.compared.one.goes_on }

pub take-requires-clause-fits_before : goal.take-requires-clause-fits_before
take-requires-clause-fits_before g c = (c.loop-text.invariant.compared.past, c.loop-text.invariant.compared.fits)

pub take-requires-clause-fits_after : goal.take-requires-clause-fits_after
take-requires-clause-fits_after g c = (c.loop-text.invariant.compared.past', c.loop-text.invariant.compared.fits')

pub loop-text-preserved : goal.loop-text-preserved
loop-text-preserved g c =
    let inv = c.loop-text.invariant in
    let held = compared_held _ _ _ _ _ _ _ _ _ _ _ _ _ _ _ _ _ _ _ inv.compared c.in_ok-write_before_wait.ensures.ok in
    let gives = rw (inv.before, inv.after) at c.in-Some.ensures.line in
    let took = c.in_ok-take-in-Some.ensures in
    record {
      form = c.take.ensures.form ∙ inv.form;
      before = c.take.ensures.configs.0 ∙ inv.before;
      after = c.take.ensures.configs.1 ∙ inv.after;
      clock = c.take.ensures.zones.0 ∙ inv.clock;
      zone_before = c.take.ensures.zones.1 ∙ inv.zone_before;
      zone_after = c.take.ensures.zones.2 ∙ inv.zone_after;
      compared = compared_on _ _ _ _ _ _ _ _ _ _ _ _ _ _ _ _ _ _ _ _ _ _ _ _ _ _ _ held gives (record { fits = took.fits_before; ended_is = took.ended_before; tallied = rw (inv.before, inv.clock, inv.zone_before) at took.told_before })
          (record { fits = took.fits_after; ended_is = took.ended_after; tallied = rw (inv.after, inv.clock, inv.zone_after) at took.told_after })
          (λ past past' s s'. rw (inv.form, inv.before, inv.after, inv.clock, inv.zone_before, inv.zone_after) at (took.text past past' s s'));
    }

pub loop-text-smaller : goal.loop-text-smaller
loop-text-smaller g c =
    let less : c.loop-text.feed.feeder.line < c.next.new.self.feeder.line = c.in-Some.ensures.line.later in
    let limit : c.next.new.self.feeder.line ≤ feed_limit + 1 = c.next.ensures.limit in
    omega (arith, less, limit)

pub returns-in_err-write_before_wait-clause-front : goal.returns-in_err-write_before_wait-clause-front
returns-in_err-write_before_wait-clause-front g c = compared_cut _ g.R.Input.can_fail _ _ _ _ _ _ _ _ _ _ _ _ _ _ _ _ _ c.loop-text.invariant.compared c.in_err-write_before_wait.ensures.front

pub returns-in_err-take-in-Some-clause-front : goal.returns-in_err-take-in-Some-clause-front
returns-in_err-take-in-Some-clause-front g c =
    let held = compared_held _ _ _ _ _ _ _ _ _ _ _ _ _ _ _ _ _ _ _ c.loop-text.invariant.compared c.in_ok-write_before_wait.ensures.ok in
    compared_cut _ g.R.Input.can_fail _ _ _ _ _ _ _ _ _ _ _ _ _ _ _ _ _ held (front_none _ _)

pub returns-in_err-push_table-in-None-clause-front : goal.returns-in_err-push_table-in-None-clause-front
returns-in_err-push_table-in-None-clause-front g c =
    let held = compared_held _ _ _ _ _ _ _ _ _ _ _ _ _ _ _ _ _ _ _ c.loop-text.invariant.compared c.in_ok-write_before_wait.ensures.ok in
    compared_cut _ g.R.Input.can_fail _ _ _ _ _ _ _ _ _ _ _ _ _ _ _ _ _ held (front_none _ _)

pub returns-in_err-write_all-in-None-clause-front : goal.returns-in_err-write_all-in-None-clause-front
returns-in_err-write_all-in-None-clause-front g c =
    let inv = c.loop-text.invariant in
    let held = compared_held _ _ _ _ _ _ _ _ _ _ _ _ _ _ _ _ _ _ _ inv.compared c.in_ok-write_before_wait.ensures.ok in
    let ends = rw (inv.before, inv.after) at c.in-None.ensures.over in
    let adds = rw (inv.form, inv.before, inv.after, inv.clock) at c.in_ok-push_table-in-None.ensures in
    compared_last _ g.R.Input.can_fail _ _ _ _ _ _ _ _ _ _ _ _ _ _ _ _ _ c.push_table.new.text.items _ held ends adds c.write_all.ensures.front

pub returns-in-None-clause-front : goal.returns-in-None-clause-front
returns-in-None-clause-front g c =
    let inv = c.loop-text.invariant in
    let held = compared_held _ _ _ _ _ _ _ _ _ _ _ _ _ _ _ _ _ _ _ inv.compared c.in_ok-write_before_wait.ensures.ok in
    let ends = rw (inv.before, inv.after) at c.in-None.ensures.over in
    let adds = rw (inv.form, inv.before, inv.after, inv.clock) at c.in_ok-push_table-in-None.ensures in
    compared_last _ g.R.Input.can_fail _ _ _ _ _ _ _ _ _ _ _ _ _ _ _ _ _ c.push_table.new.text.items _ held ends adds c.write_all.ensures.front

pub returns-in-None-clause-ok : goal.returns-in-None-clause-ok
returns-in-None-clause-ok g c =
    let inv = c.loop-text.invariant in
    let held = compared_held _ _ _ _ _ _ _ _ _ _ _ _ _ _ _ _ _ _ _ inv.compared c.in_ok-write_before_wait.ensures.ok in
    let ends = rw (inv.before, inv.after) at c.in-None.ensures.over in
    let adds = rw (inv.form, inv.before, inv.after, inv.clock) at c.in_ok-push_table-in-None.ensures in
    let all = rw c.write_all.ensures.empty at c.in_ok-write_all-in-None.ensures.ok in
    compared_whole _ g.R.Input.can_fail _ _ _ _ _ _ _ _ _ _ _ _ _ _ _ _ _ c.push_table.new.text.items _ _ held ends adds all (rw c.stop.ensures at c.ending.ensures)
