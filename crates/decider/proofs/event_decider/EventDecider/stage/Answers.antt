use Rattle.std.proofs.Common.{◌≡◌, ap, arith, subst}
use Rattle.due_model.specs.declared.zone.Zone.{Zone}
use Rattle.decider.specs.declared.reading.EventContext.{EventContext}
use Rattle.decider.specs.Books.{share_books}
use Rattle.decider.specs.Entries.{share_entries}
use Rattle.decider.specs.claims.Fits.{core_kept}
use Rattle.decider.proofs.FitLaws.{at_with, has_room, is_at}
use Rattle.decider.proofs.event_decider.EventDecider.stage.Goals as goal

pub move_to-requires : goal.move_to-requires
move_to-requires c =
    let k = core_kept c.args.self.now in
    let at = is_at k c.args.event c.requires.fits.0 c.requires.fits.1 c.requires.proper in
    omega (arith, at.in_time, ap (λ (context : EventContext). context.moment) c.context-context.ensures)

pub stage_event-requires : goal.stage_event-requires
stage_event-requires c =
    let k = core_kept c.args.self.now in
    let past = c.requires.fits.0 in
    record {
      at = (
        c.args.event,
        past,
        at_with k c.args.event past c.move_to.new.self c.deref.result.now c.context-context.result c.deref-2.result.now c.move_to.ensures c.deref.ensures.value c.context-context.ensures c.deref-2.ensures.value
            (is_at k c.args.event past c.requires.fits.1 c.requires.proper),
      );
    }

pub returns-clause-books : goal.returns-clause-books
returns-clause-books c = λ past fits.
    let k = core_kept c.args.self.now in
    subst (λ (zone : Zone). c.stage_event.new.staged.books.items ≡ share_books k.config zone k.share c.args.event past) c.move_to.ensures
    (c.in_ok-stage_event.ensures.books c.args.event past
    (at_with k c.args.event past c.move_to.new.self c.deref.result.now c.context-context.result c.deref-2.result.now c.move_to.ensures c.deref.ensures.value c.context-context.ensures c.deref-2.ensures.value
    (is_at k c.args.event past fits c.requires.proper)))

pub returns-clause-staged : goal.returns-clause-staged
returns-clause-staged c = λ past fits.
    let k = core_kept c.args.self.now in
    subst (λ (zone : Zone). c.stage_event.new.staged.entries.items ≡ share_entries k.config zone k.share c.args.event past) c.move_to.ensures
    (c.in_ok-stage_event.ensures.entries c.args.event past
    (at_with k c.args.event past c.move_to.new.self c.deref.result.now c.context-context.result c.deref-2.result.now c.move_to.ensures c.deref.ensures.value c.context-context.ensures c.deref-2.ensures.value
    (is_at k c.args.event past fits c.requires.proper)))

pub returns-clause-room : goal.returns-clause-room
returns-clause-room c =
    let past = c.requires.fits.0 in
    has_room (core_kept c.args.self.now) c.args.event past c.requires.fits.1 c.requires.proper c.stage_event.new.staged.books.items (returns-clause-books c past c.requires.fits.1)
