use Rattle.std.proofs.Common.{◌≡◌, ◌<◌, ◌≤◌, ◌+◌, Err, arith, refl, rules, sym, ◌∙◌}
use Rattle.event_feed.specs.claims.Feed.{feed_limit}
use Rattle.due_feed.proofs.SearchLaws.{same_fault, seen_all, seen_more, seen_start, seen_stopped}
use Rattle.due_feed.proofs.search.Search.look.Goals as goal

pub loop-count-init : goal.loop-count-init
loop-count-init g c = record {
  config = refl;
  zone = refl;
  seen = seen_start g.L.Looker.saw g.L.Looker.stays g.L.Looker.follows c.args.self.now.config.now c.args.self.now.zone.now c.args.self.now.feeder _ _ _
      c.requires.goes_on c.requires.fits c.requires.count;
}

pub take_line-requires-clause-goes_on : goal.take_line-requires-clause-goes_on
take_line-requires-clause-goes_on g c = c.loop-count.invariant.seen.follows.goes_on

pub take_line-requires-clause-fits : goal.take_line-requires-clause-fits
take_line-requires-clause-fits g c = let seen = c.loop-count.invariant.seen in (seen.past, seen.fits, seen.count_is)

pub loop-count-preserved : goal.loop-count-preserved
loop-count-preserved g c =
    let inv = c.loop-count.invariant in
    let on = rw (c.in-None.is, inv.config, inv.zone) at c.in_ok-take_line.ensures.goes_on in
    record {
      config = c.take_line.ensures.config ∙ inv.config;
      zone = c.take_line.ensures.zone ∙ inv.zone;
      seen = seen_more g.L.Looker.saw g.L.Looker.stays g.L.Looker.follows _ _ _ _ _ _ _ _ _ _ _ _ inv.seen on;
    }

pub loop-count-smaller : goal.loop-count-smaller
loop-count-smaller g c =
    let now = c.loop-count.invariant.seen in
    let on = rw c.in-None.is at c.in_ok-take_line.ensures.goes_on in
    let next = on.each now.past now.fits now.count_is in
    let less : c.loop-count.self.feeder.line < c.take_line.new.self.feeder.line = next.1.line in
    let limit : c.take_line.new.self.feeder.line ≤ feed_limit + 1 = c.take_line.ensures.limit in
    omega (arith, less, limit)

pub returns-in-Some-clause-seen : goal.returns-in-Some-clause-seen
returns-in-Some-clause-seen g c =
    let inv = c.loop-count.invariant in
    let ends = rw (c.in-Some.is, inv.config) at c.in_ok-take_line.ensures.ends in
    seen_all g.L.Looker.saw g.L.Looker.stays g.L.Looker.follows _ _ _ _ g.R.Input.can_fail _ _ _ _ _ _ inv.seen ends

pub returns-in_err-take_line-clause-stopped : goal.returns-in_err-take_line-clause-stopped
returns-in_err-take_line-clause-stopped g c = λ is.
    let given : c.from_residual.result ≡ Err c.in_err-take_line.field-0.0 = search rules in
    let inv = c.loop-count.invariant in
    let stopped = rw (inv.config, inv.zone) at (c.in_err-take_line.ensures.stopped (same_fault _ _ (sym given ∙ is))) in
    seen_stopped g.L.Looker.saw g.L.Looker.stays g.L.Looker.follows _ _ _ _ g.R.Input.can_fail _ _ _ g.L.Looker.stops _ _ inv.seen stopped
