use Rattle.std.proofs.Common.{◌<◌, List, ◌∷◌, length, subst, sym, ap, ◌∙◌, arith}
use Rattle.due_model.specs.declared.event.Event.{Event}
use Rattle.due_model.specs.claims.Limits.{max_events}
use Rattle.due_model.specs.claims.Proper.{IsProper}
use Rattle.decider.specs.declared.staging.NewBook.{NewBook}
use Rattle.decider.specs.Books.{share_books}
use Rattle.decider.specs.claims.Fits.{Kept, Fits, core_kept}
use Rattle.decider.specs.Fits.{context_of, kept_after}
use Rattle.decider.specs.Ready.{IsIndexAfter}
use Rattle.decider.proofs.FitLaws.{fits_after, judged_after}
use Rattle.decider.proofs.LaneLaws.{all_entries}
use Rattle.decider.proofs.event_decider.EventDecider.decide.Goals as goal

pub commit-requires : goal.commit-requires
commit-requires c =
    let same = sym c.in_ok-stage.ensures.kept in
    record {
      proper = subst (λ (k : Kept). IsProper k.config c.args.event) same c.requires.proper;
      fits = (c.requires.fits.0, subst (λ (k : Kept). Fits k c.requires.fits.0) same c.requires.fits.1);
      room = c.in_ok-stage.ensures.room;
    }

-- the index after the event
marked : (c : goal.After-commit) (past : List Event) → Fits (core_kept c.args.self.now) past
    → IsIndexAfter c.args.event.kind (context_of (core_kept c.args.self.now) c.args.event).moment
    (share_books (core_kept c.args.self.now).config (core_kept c.args.self.now).zone (core_kept c.args.self.now).share c.args.event past) (core_kept c.args.self.now).index (core_kept c.commit.new.self).index
marked c past fits =
    let k = core_kept c.args.self.now in
    let e = c.args.event in
    subst (λ (books : List NewBook). IsIndexAfter e.kind (context_of k e).moment books k.index (core_kept c.commit.new.self).index) (c.in_ok-stage.ensures.books past fits)
    (subst (λ (k' : Kept). IsIndexAfter e.kind (context_of k' e).moment c.stage.new.self.staged.books.items k'.index (core_kept c.commit.new.self).index) c.in_ok-stage.ensures.kept c.commit.ensures.index)

short : (c : goal.After-commit) (past : List Event) → Fits (core_kept c.args.self.now) past → length past < max_events
short c past fits = omega (arith, fits.count, c.in_ok-stage.ensures.number)

pub returns-clause-fits : goal.returns-clause-fits
returns-clause-fits c = λ past fits.
    let k = core_kept c.args.self.now in
    let e = c.args.event in
    subst (λ (k : Kept). Fits k (e ∷ past))
    (sym (c.commit.ensures.kept
    ∙ ap (λ (k : Kept). kept_after k e c.stage.new.self.staged.books.items (core_kept c.commit.new.self).index) c.in_ok-stage.ensures.kept
    ∙ ap (λ (books : List NewBook). kept_after k e books (core_kept c.commit.new.self).index) (c.in_ok-stage.ensures.books past fits)))
    (fits_after k e past fits c.requires.proper c.fit_on.ensures.untouched (short c past fits) (core_kept c.commit.new.self).index (marked c past fits))

pub returns-clause-examined : goal.returns-clause-examined
returns-clause-examined c = λ past fits.
    let k = core_kept c.args.self.now in
    judged_after k c.args.event past fits c.requires.proper (short c past fits) _ (core_kept c.commit.new.self).index (marked c past fits)

pub returns-clause-entries : goal.returns-clause-entries
returns-clause-entries c = λ past fits. c.commit.ensures.entries ∙ c.in_ok-stage.ensures.staged past fits

pub returns-clause-all : goal.returns-clause-all
returns-clause-all c = λ past fits alone.
    let k = core_kept c.args.self.now in
    returns-clause-entries c past fits ∙ all_entries k.config k.zone k.share c.args.event past fits.share alone
