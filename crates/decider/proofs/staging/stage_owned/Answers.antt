use Rattle.std.proofs.Common.{Bool, cond, [], sym, ap, ◌∙◌}
use Rattle.std.proofs.lemmas.Result.{on_ok_weaker}
use Rattle.lemmas.proofs.Lists.{some_at}
use Rattle.messages.specs.claims.Entries.{object_entries}
use Rattle.decider.specs.Books.{new_books}
use Rattle.decider.specs.Events.{values}
use Rattle.decider.proofs.BookLaws.{touched_books}
use Rattle.decider.proofs.StagingLaws.{adds_same}
use Rattle.decider.proofs.staging.stage_owned.Goals as goal

pub returns-clause-staged : goal.returns-clause-staged
returns-clause-staged c = on_ok_weaker c.stage_touched.result (λ adds e past is.
    let v = values c.args.reading.now c.args.dependencies.now c.args.statuses.now in
    let o = c.args.object.0 in
    let owned = sym c.owns.ensures ∙ c.if-not-owns.false in
    let settings = some_at v.config.objects o c.requires.object in
    let touched = c.requires.touched e past settings.0 is settings.1 in
    adds_same _ _ _ _ c.args.staged.now c.stage_touched.new.staged
    (sym (ap (λ (b : Bool). cond b (object_entries v.config v.zone e past o) []) owned))
    (sym (ap (λ (b : Bool). cond b (new_books v.config v.zone e past o) []) owned ∙ touched_books c.fit_on.ensures.untouched v.config v.zone e past o settings.0 settings.1 touched))
    (adds e past is)) c.stage_touched.ensures.staged
