-- What is kept after an event fits the past with the event.
use Rattle.std.proofs.Common.{◌≡◌, ℕ, ◌+◌, ◌<◌, ◌^◌, max, List, ◌∷◌, length, Option, Some, None, IfSome, refl, sym, ap, subst, ◌∙◌, arith}
use Rattle.std.proofs.lemmas.List.Elements.{All-cons}
use Rattle.lemmas.proofs.Beginnings.{moment_in_range}
use Rattle.due_model.specs.declared.config.ObjectId.{ObjectId}
use Rattle.due_model.specs.declared.event.Event.{Event}
use Rattle.due_model.specs.declared.notice.Suppression.{Suppression}
use Rattle.due_model.specs.declared.rules.ObjectStatus.{ObjectStatus}
use Rattle.due_model.specs.declared.zone.Zone.{Zone}
use Rattle.due_model.specs.claims.Limits.{max_events}
use Rattle.due_model.specs.claims.Proper.{IsProper}
use Rattle.due_model.specs.claims.Readings.{moment, switch_after}
use Rattle.due_times.specs.claims.Index.{Due}
use Rattle.problem_count.specs.claims.Book.{BookValues}
use Rattle.problem_count.specs.Laws.{UntouchedFit}
use Rattle.time_period.specs.claims.Days.{Worked}
use Rattle.decider.specs.Books.{share_books}
use Rattle.decider.specs.declared.reading.EventContext.{EventContext}
use Rattle.decider.specs.declared.staging.NewBook.{NewBook}
use Rattle.decider.specs.Events.{IsAt, Values}
use Rattle.decider.specs.claims.Fits.{Fits, Kept}
use Rattle.decider.specs.Fits.{context_of, kept_after, values_at}
use Rattle.decider.specs.claims.Ready.{judged}
use Rattle.decider.specs.Ready.{HasRoom, IsIndexAfter}
use Rattle.decider.proofs.BookLaws.{books_fit}
use Rattle.decider.proofs.ReadyLaws.{handed, index_after, room_for}
use Rattle.decider.specs.claims.Statuses.{status_at}
use Rattle.decider.specs.Statuses.{named_by}
use Rattle.decider.proofs.StatusLaws.{depth_few, named_within, statuses_fit}

module _ (k : Kept) (e : Event) (past : List Event) (fits : Fits k past) (proper : IsProper k.config e) where
  moment_is : (context_of k e).moment ≡ moment (e ∷ past)
  moment_is = ap (λ (t : ℕ). max t e.moment) fits.moment

  -- what is read to decide an event is of that event
  pub is_at : IsAt (values_at k e) e past
  is_at = record {
    accepted = fits.accepted;
    worked_out = fits.worked_out;
    deciders = omega (arith, fits.share.decider);
    proper = proper;
    short = fits.short;
    number = fits.count;
    says = refl;
    at = ap (λ (t : ℕ). max t e.moment) fits.moment;
    in_time = omega (arith, moment_in_range k.config past fits.proper, fits.moment, proper.stamp);
    switch = ap (switch_after e.kind) fits.program;
    known = fits.statuses;
    kept = fits.books;
    indexed = fits.index;
  }

  -- the event can be counted
  pub countable : IfSome (named_by e.kind) (λ p. (p.0 < length k.statuses.states) × ((status_at k.statuses p.0).depth + 1 < 2 ^ 64))
  countable = by_named (named_by e.kind) refl
    where
      by_named : (named : Option ObjectId) → named_by e.kind ≡ named
          → IfSome named (λ p. (p.0 < length k.statuses.states) × ((status_at k.statuses p.0).depth + 1 < 2 ^ 64))
      by_named None is = tt
      by_named (Some p) is = (
        omega (arith, named_within k.config e.kind proper.kind p is, fits.statuses.states),
        omega (arith, ap (λ (s : ObjectStatus). s.depth) (fits.statuses.each p.0), depth_few p.0 past, fits.short),
      )

  -- what is kept after the event fits the past with it
  pub fits_after : UntouchedFit → length past < max_events
      → (index : Due) → IsIndexAfter e.kind (context_of k e).moment (share_books k.config k.zone k.share e past) k.index index
      → Fits (kept_after k e (share_books k.config k.zone k.share e past) index) (e ∷ past)
  fits_after laws room index after = record {
    accepted = fits.accepted;
    share = fits.share;
    worked_out = fits.worked_out;
    proper = All-cons (IsProper k.config) e past proper fits.proper;
    short = omega arith;
    count = omega (arith, fits.count);
    moment = ap (λ (t : ℕ). max t e.moment) fits.moment;
    program = ap (switch_after e.kind) fits.program;
    statuses = statuses_fit k.config e past k.statuses fits.statuses proper;
    books = books_fit laws k.config k.zone e past k.share k.books fits.books;
    index = index_after k.config k.zone k.share e past fits.accepted k.index fits.index (context_of k e).moment moment_is laws room index after;
  }

  -- and so many problems were judged
  pub judged_after : length past < max_events → (decided : List NewBook) (index : Due) → IsIndexAfter e.kind (context_of k e).moment decided k.index index
      → index.examined ≡ k.index.examined + judged k.config k.zone k.share e past
  judged_after room decided index after = after.examined ∙ handed k.config k.zone k.share e past fits.accepted k.index fits.index (context_of k e).moment moment_is room

  -- there is room for the entries of the books that were staged
  pub has_room : (decided : List NewBook) → decided ≡ share_books k.config k.zone k.share e past → HasRoom k.index decided
  has_room decided is = subst (λ (xs : List NewBook). HasRoom k.index xs) (sym is) (room_for k.config k.zone k.share e past k.index fits.index.room)

-- what is read of a decider, with this zone, these periods and books and in this context
abbrev pub values_with : Kept → Zone → List Worked → EventContext → List BookValues → Values
values_with k zone periods context books = record {
  config = k.config;
  zone = zone;
  share = k.share;
  tables = record { periods = periods; searched = k.tables.searched };
  context = context;
  statuses = k.statuses;
  books = books;
  index = k.index;
}

-- those that it keeps
pub at_with : (k : Kept) (e : Event) (past : List Event) (zone : Zone) (periods : List Worked) (context : EventContext) (books : List BookValues)
    → zone ≡ k.zone → periods ≡ k.tables.periods → context ≡ context_of k e → books ≡ k.books → IsAt (values_at k e) e past
    → IsAt (values_with k zone periods context books) e past
at_with k e past zone periods context books same_zone same_periods same_context same_books is =
    subst (λ (x : Zone). IsAt (values_with k x periods context books) e past) (sym same_zone)
    (subst (λ (x : List Worked). IsAt (values_with k k.zone x context books) e past) (sym same_periods)
    (subst (λ (x : EventContext). IsAt (values_with k k.zone k.tables.periods x books) e past) (sym same_context)
    (subst (λ (x : List BookValues). IsAt (values_with k k.zone k.tables.periods (context_of k e) x) e past) (sym same_books) is)))

-- what a decider fits doesn't hang on its log
pub fits_with_log : (k : Kept) (lines : List Suppression) (past : List Event) → Fits k past → Fits (record k { log = lines }) past
fits_with_log k lines past fits = record {
  accepted = fits.accepted;
  share = fits.share;
  worked_out = fits.worked_out;
  proper = fits.proper;
  short = fits.short;
  count = fits.count;
  moment = fits.moment;
  program = fits.program;
  statuses = fits.statuses;
  books = fits.books;
  index = fits.index;
}
