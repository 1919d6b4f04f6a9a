use Rattle.std.proofs.Common.{◌<◌, List, [], ◌∷◌, ◌++◌, length, slice_index_or, subst, sym, ap, ◌∙◌, arith}
use Rattle.due_model.specs.declared.event.Event.{Event}
use Rattle.due_model.specs.declared.notice.Notice.{Notice}
use Rattle.due_model.specs.declared.notice.Suppression.{Suppression}
use Rattle.due_model.specs.claims.Limits.{max_events}
use Rattle.due_model.specs.claims.Proper.{IsProper}
use Rattle.messages.specs.declared.entries.Entry.{Entry}
use Rattle.messages.specs.Entries.{notices_on, suppressions_in}
use Rattle.decider.specs.declared.staging.NewBook.{NewBook}
use Rattle.decider.specs.Books.{share_books}
use Rattle.decider.specs.claims.Fits.{Kept, Fits, core_kept, kept}
use Rattle.decider.specs.Fits.{context_of, kept_after}
use Rattle.decider.specs.claims.Outbox.{lists, waiting_at}
use Rattle.decider.specs.Ready.{IsIndexAfter}
use Rattle.decider.proofs.FitLaws.{fits_after, fits_with_log, judged_after}
use Rattle.decider.proofs.LaneLaws.{share_notices, share_suppressions}
use Rattle.decider.proofs.decider.Decider.decide.Goals as goal

pub stage-requires : goal.stage-requires
stage-requires c = record {
  proper = c.requires.proper;
  fits = (c.requires.fits.0, fits_with_log (kept c.args.self.now) [] c.requires.fits.0 c.requires.fits.1);
}

pub commit-requires : goal.commit-requires
commit-requires c =
    let same = sym c.in_ok-stage.ensures.kept in
    record {
      proper = subst (λ (k : Kept). IsProper k.config c.args.event) same c.requires.proper;
      fits = (c.requires.fits.0, subst (λ (k : Kept). Fits k c.requires.fits.0) same (fits_with_log (kept c.args.self.now) [] c.requires.fits.0 c.requires.fits.1));
      room = c.in_ok-stage.ensures.room;
    }

-- the index after the event
marked : (c : goal.After-note) (past : List Event) → Fits (kept c.args.self.now) past
    → IsIndexAfter c.args.event.kind (context_of (core_kept c.args.self.now.core) c.args.event).moment
    (share_books (kept c.args.self.now).config (kept c.args.self.now).zone (kept c.args.self.now).share c.args.event past) (kept c.args.self.now).index (core_kept c.commit.new.self).index
marked c past fits =
    let k = core_kept c.args.self.now.core in
    let e = c.args.event in
    subst (λ (books : List NewBook). IsIndexAfter e.kind (context_of k e).moment books k.index (core_kept c.commit.new.self).index)
    (c.in_ok-stage.ensures.books past (fits_with_log (kept c.args.self.now) [] past fits))
    (subst (λ (k' : Kept). IsIndexAfter e.kind (context_of k' e).moment c.stage.new.self.staged.books.items k'.index (core_kept c.commit.new.self).index) c.in_ok-stage.ensures.kept c.commit.ensures.index)

short : (c : goal.After-note) (past : List Event) → Fits (kept c.args.self.now) past → length past < max_events
short c past fits = omega (arith, fits.count, c.in_ok-stage.ensures.number)

pub returns-clause-fits : goal.returns-clause-fits
returns-clause-fits c = λ past fits.
    let k = core_kept c.args.self.now.core in
    let e = c.args.event in
    let before = fits_with_log (kept c.args.self.now) [] past fits in
    fits_with_log (core_kept c.commit.new.self) c.note.new.log.lines (e ∷ past)
    (subst (λ (k : Kept). Fits k (e ∷ past))
    (sym (c.commit.ensures.kept
    ∙ ap (λ (k : Kept). kept_after k e c.stage.new.self.staged.books.items (core_kept c.commit.new.self).index) c.in_ok-stage.ensures.kept
    ∙ ap (λ (books : List NewBook). kept_after k e books (core_kept c.commit.new.self).index) (c.in_ok-stage.ensures.books past before)))
    (fits_after k e past before c.requires.proper c.fit_on.ensures.untouched (short c past fits) (core_kept c.commit.new.self).index (marked c past fits)))

pub returns-clause-examined : goal.returns-clause-examined
returns-clause-examined c = λ past fits.
    judged_after (core_kept c.args.self.now.core) c.args.event past (fits_with_log (kept c.args.self.now) [] past fits) c.requires.proper (short c past fits) _ (core_kept c.commit.new.self).index (marked c past fits)

pub returns-clause-notices : goal.returns-clause-notices
returns-clause-notices c = λ past fits l h.
    let k = core_kept c.args.self.now.core in
    let there : l < length (lists c.reserve.new.self) = subst (λ (now : List (List Notice)). l < length now) (sym c.in_ok-reserve.ensures.waiting) h in
    c.deliver.ensures.waiting l there
    ∙ ap (λ (now : List (List Notice)). slice_index_or now l [] ++ notices_on l c.entries.result.now) c.in_ok-reserve.ensures.waiting
    ∙ ap (λ (entries : List Entry). waiting_at c.args.outbox.now l ++ notices_on l entries)
    (c.entries.ensures ∙ c.commit.ensures.entries ∙ c.in_ok-stage.ensures.staged past (fits_with_log (kept c.args.self.now) [] past fits))
    ∙ ap (λ (more : List Notice). waiting_at c.args.outbox.now l ++ more) (share_notices k.config k.zone k.share c.args.event past l (omega (arith, c.requires.lanes, h)))

pub returns-clause-suppressions : goal.returns-clause-suppressions
returns-clause-suppressions c = λ past fits.
    let k = core_kept c.args.self.now.core in
    c.note.ensures
    ∙ ap (λ (lines : List Suppression). lines ++ suppressions_in c.entries-2.result.now) c.in_ok-reserve-2.ensures.lines
    ∙ ap (λ (entries : List Entry). c.args.self.now.log.lines ++ suppressions_in entries)
    (c.entries-2.ensures ∙ c.commit.ensures.entries ∙ c.in_ok-stage.ensures.staged past (fits_with_log (kept c.args.self.now) [] past fits))
    ∙ ap (λ (more : List Suppression). c.args.self.now.log.lines ++ more) (share_suppressions k.config k.zone k.share c.args.event past)
