use Rattle.std.proofs.Common.{[], length, ap, subst, sym, ◌∙◌}
use Rattle.contact_tallies.specs.Tallies.{AreTallies}
use Rattle.due_model.specs.declared.config.Config.{Config}
use Rattle.event_feed.specs.claims.Feed.{Feed}
use Rattle.notices_compared.proofs.CompareLaws.{compared_of_feed, front_of_feed, front_of_nothing}
use Rattle.notices_compared.proofs.compare.Goals as goal

pub write_changes-requires-clause-goes_on : goal.write_changes-requires-clause-goes_on
write_changes-requires-clause-goes_on g c = ap (λ (feed : Feed). feed.stop) c.new-paired.ensures.feeder

pub write_changes-requires-clause-zones : goal.write_changes-requires-clause-zones
write_changes-requires-clause-zones g c =
    (c.in_ok-both.ensures.zones.1 ∙ sym c.in_ok-both.ensures.zones.0, c.in_ok-both.ensures.zones.2 ∙ sym c.in_ok-both.ensures.zones.0)

pub write_changes-requires-clause-told_before : goal.write_changes-requires-clause-told_before
write_changes-requires-clause-told_before g c =
    let both = c.in_ok-both.both in
    subst (λ (config : Config). AreTallies both.clock (length config.contacts) [] both.told_before) (sym c.in_ok-both.ensures.before) (c.in_ok-both.ensures.told_before both.clock)

pub write_changes-requires-clause-told_after : goal.write_changes-requires-clause-told_after
write_changes-requires-clause-told_after g c =
    let both = c.in_ok-both.both in
    subst (λ (config : Config). AreTallies both.clock (length config.contacts) [] both.told_after) (sym c.in_ok-both.ensures.after) (c.in_ok-both.ensures.told_after both.clock)

pub returns-in_err-lines-clause-front : goal.returns-in_err-lines-clause-front
returns-in_err-lines-clause-front g c =
    front_of_nothing c.args.form g.R.Input.can_fail c.args.before.now c.args.after.now c.args.zone.now (g.R.Read.remaining c.args.feed) (g.W.Write.contents c.args.writer.now)

pub returns-in_err-both-clause-front : goal.returns-in_err-both-clause-front
returns-in_err-both-clause-front g c =
    front_of_nothing c.args.form g.R.Input.can_fail c.args.before.now c.args.after.now c.args.zone.now (g.R.Read.remaining c.args.feed) (g.W.Write.contents c.args.writer.now)

pub returns-clause-changes : goal.returns-clause-changes
returns-clause-changes g c =
    let made = c.in_ok-both.ensures in
    compared_of_feed c.args.form g.R.Input.can_fail c.args.before.now c.args.after.now c.args.zone.now c.in_ok-lines.lines _ _ (g.R.Read.remaining c.args.feed) c.in_ok-lines.ensures c.write_changes.result
    (rw (made.form, made.before, made.after, made.zones.0, c.new-paired.ensures.feeder, c.new-paired.ensures.last) at c.write_changes.ensures.ok)

pub returns-clause-front : goal.returns-clause-front
returns-clause-front g c =
    let made = c.in_ok-both.ensures in
    front_of_feed c.args.form g.R.Input.can_fail c.args.before.now c.args.after.now c.args.zone.now c.in_ok-lines.lines _ _ (g.R.Read.remaining c.args.feed) c.in_ok-lines.ensures
    (rw (made.form, made.before, made.after, made.zones.0, c.new-paired.ensures.feeder, c.new-paired.ensures.last) at c.write_changes.ensures.front)
