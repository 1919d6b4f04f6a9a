use Rattle.std.proofs.Common.{◌<◌, List, length, min, subst}
use Rattle.std.specs.Arc.{arc_value}
use Rattle.due_feed.specs.Seen.{due_of, past_of, unread}
use Rattle.due_model.specs.declared.config.Config.{Config}
use Rattle.due_model.specs.declared.config.LaneId.{LaneId}
use Rattle.event_feed.specs.claims.Feed.{Answer, AreGivenBy}
use Rattle.earlier_runs.specs.FromNow.{HasGivenUp}
use Rattle.earlier_runs.proofs.GivenLaws.{gives_up}
use Rattle.earlier_runs.proofs.from_now.give_up_all.Goals as goal

pub returns : goal.returns
returns g c =
    let states = c.in_ok-states.states.items in
    let begun = c.in_ok-states.begun.items in
    let after = c.in_ok-give_up_due.field-0.items in
    let given =
    subst (λ (x : Config). (given : List Answer) × AreGivenBy g.R.Input.can_fail x.objects (unread (g.R.Read.remaining c.args.feed)) given
    × HasGivenUp g.J.Journal.wrote states c.args.from begun (due_of x c.args.zone.now (past_of given)) states c.args.from after) c.deref.ensures c.in_ok-give_up_due.ensures in
    let done = subst (λ (x : Config). (lane : LaneId) → lane.0 < min (length x.lanes) 256 → g.F.Journals.replaced c.args.journals.now x lane) c.deref-2.ensures c.in_ok-finish_all.ensures in (
      given.0,
      given.1,
      gives_up g.F.Journals.knows g.F.Journals.begins g.F.Journals.replaced g.J.Journal.wrote c.args.journals.now (arc_value c.args.config.now) c.args.from
          (due_of (arc_value c.args.config.now) c.args.zone.now (past_of given.0)) states begun after c.in_ok-states.ensures given.2 done,
    )
