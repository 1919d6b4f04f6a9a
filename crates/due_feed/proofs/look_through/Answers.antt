use Rattle.std.proofs.Common.{◌≡◌, None, IfOk, IsErrOf, ap, subst, ◌∙◌}
use Rattle.due_model.specs.declared.config.Config.{Config}
use Rattle.due_model.specs.declared.zone.Zone.{Zone}
use Rattle.event_feed.specs.claims.Feed.{Feed}
use Rattle.event_feed.specs.Feed.{feed_of}
use Rattle.text_lines.specs.LineReader.{Reading}
use Rattle.due_feed.specs.Seen.{IsSeen, IsStopped, unread}
use Rattle.due_feed.specs.declared.looker.LookFault.TheVariants.{Stopped}
use Rattle.due_feed.proofs.SearchLaws.{no_memory, same_all}
use Rattle.due_feed.proofs.look_through.Goals as goal

pub look-requires-clause-goes_on : goal.look-requires-clause-goes_on
look-requires-clause-goes_on g c = ap (λ (feed : Feed). feed.stop) c.in_ok-search.ensures.feed

pub returns-in_err-lines-clause-stopped : goal.returns-in_err-lines-clause-stopped
returns-in_err-lines-clause-stopped g c = λ is. absurd (no_memory c.from_residual.result c.from_residual.ensures.1 is)

pub returns-in_err-search-clause-stopped : goal.returns-in_err-search-clause-stopped
returns-in_err-search-clause-stopped g c = λ is. absurd (no_memory c.from_residual-in_err-search.result c.from_residual-in_err-search.ensures.1 is)

pub returns-clause-seen : goal.returns-clause-seen
returns-clause-seen g c =
    let feed : c.in_ok-search.search.feeder ≡ unread (g.R.Read.remaining c.args.feed) =
    c.in_ok-search.ensures.feed ∙ ap (λ (r : Reading). feed_of r 0 0 None) c.in_ok-lines.ensures in
    subst (λ (t : Config × Zone × Feed). IfOk c.look.result (λ count. IsSeen g.R.Input.can_fail t.0 t.1 t.2 g.L.Looker.saw count c.args.looker.now c.look.new.looker))
    (same_all _ _ _ _ _ _ c.in_ok-search.ensures.config c.in_ok-search.ensures.zone feed) c.look.ensures.seen

pub returns-clause-stopped : goal.returns-clause-stopped
returns-clause-stopped g c =
    let feed : c.in_ok-search.search.feeder ≡ unread (g.R.Read.remaining c.args.feed) =
    c.in_ok-search.ensures.feed ∙ ap (λ (r : Reading). feed_of r 0 0 None) c.in_ok-lines.ensures in
    subst (λ (t : Config × Zone × Feed). IsErrOf c.look.result Stopped
    → IsStopped g.R.Input.can_fail t.0 t.1 t.2 g.L.Looker.saw g.L.Looker.stops c.args.looker.now c.look.new.looker)
    (same_all _ _ _ _ _ _ c.in_ok-search.ensures.config c.in_ok-search.ensures.zone feed) c.look.ensures.stopped
