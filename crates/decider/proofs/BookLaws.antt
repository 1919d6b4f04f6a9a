-- The books after an event, and the objects that it doesn't touch.
use Rattle.std.proofs.Common.{◌≡◌, ◌≢◌, ℕ, zero, suc, ◌<◌, Bool, true, false, cond, List, [], ◌∷◌, length, replicate, get_or, slice_get, Option, Some, None, refl, sym, ap, subst, ◌∙◌, arith, inl, inr}
use Rattle.std.specs.Option.{option_map_or}
use Rattle.std.proofs.lemmas.Bool.{eq-eqb, ne_eqb, or_parts}
use Rattle.std.proofs.lemmas.List.{length-replicate}
use Rattle.std.proofs.lemmas.Option.{same_Some, slice_get_within}
use Rattle.due_model.specs.declared.config.Config.{Config}
use Rattle.due_model.specs.declared.config.Object.{Object}
use Rattle.due_model.specs.declared.config.ObjectId.{ObjectId}
use Rattle.due_model.specs.declared.event.Event.{Event}
use Rattle.due_model.specs.declared.event.EventKind.{EventKind}
use Rattle.due_model.specs.declared.event.EventKind.TheVariants as event
use Rattle.due_model.specs.declared.zone.Zone.{Zone}
use Rattle.due_model.specs.declared.notice.Outcome.TheVariants.{Nothing}
use Rattle.due_model.specs.claims.Histories.{hist, repeats}
use Rattle.due_model.specs.claims.Readings.{moment}
use Rattle.messages.specs.claims.Entries.{object_entries, outcome_entries}
use Rattle.problem_count.specs.claims.Book.{BookValues, new_book}
use Rattle.problem_count.specs.claims.Fits.{BookFits, book_of}
use Rattle.problem_count.specs.Fits.{outcome_at}
use Rattle.problem_count.specs.Laws.{UntouchedFit, touches}
use Rattle.decider.specs.declared.share.Share.{Share}
use Rattle.decider.specs.declared.staging.NewBook.{NewBook}
use Rattle.decider.specs.claims.Books.{BooksFit}
use Rattle.decider.specs.Books.{book_after, is_touched, new_books, settled, share_books}
use Rattle.decider.specs.claims.Share.{is_owned}
use Rattle.decider.specs.Statuses.{named_by}
use Rattle.decider.proofs.SettleLaws.{AtMostOne, book_decided, length-settled, settled_at}

-- ---- what an event touches

-- of the objects, one that names an object touches that one alone
pub touches_other : (k : EventKind) (p : ObjectId) → named_by k ≡ Some p → (o : ℕ) → o ≢ p.0 → (due : Option ℕ) (t : ℕ) → touches o k due t ≡ false
touches_other event.Clock p is o ne due t = cc
touches_other (event.Program on) p is o ne due t = cc
touches_other (event.Hard q state) p is o ne due t = ne_eqb q.0 o (λ e. ne (sym e ∙ ap (λ (i : ObjectId). i.0) (same_Some q p is)))
touches_other (event.Downtime q change) p is o ne due t = ne_eqb q.0 o (λ e. ne (sym e ∙ ap (λ (i : ObjectId). i.0) (same_Some q p is)))
touches_other (event.Flapping q starts) p is o ne due t = ne_eqb q.0 o (λ e. ne (sym e ∙ ap (λ (i : ObjectId). i.0) (same_Some q p is)))
touches_other (event.Ack q ack) p is o ne due t = ne_eqb q.0 o (λ e. ne (sym e ∙ ap (λ (i : ObjectId). i.0) (same_Some q p is)))
touches_other (event.AckRemoved q) p is o ne due t = ne_eqb q.0 o (λ e. ne (sym e ∙ ap (λ (i : ObjectId). i.0) (same_Some q p is)))
touches_other (event.OwnSwitch q on) p is o ne due t = ne_eqb q.0 o (λ e. ne (sym e ∙ ap (λ (i : ObjectId). i.0) (same_Some q p is)))

-- and that one it touches
pub touches_own : (k : EventKind) (p : ObjectId) → named_by k ≡ Some p → (due : Option ℕ) (t : ℕ) → touches p.0 k due t ≡ true
touches_own event.Clock p is due t = cc
touches_own (event.Program on) p is due t = cc
touches_own (event.Hard q state) p is due t = eq-eqb q.0 p.0 (ap (λ (i : ObjectId). i.0) (same_Some q p is))
touches_own (event.Downtime q change) p is due t = eq-eqb q.0 p.0 (ap (λ (i : ObjectId). i.0) (same_Some q p is))
touches_own (event.Flapping q starts) p is due t = eq-eqb q.0 p.0 (ap (λ (i : ObjectId). i.0) (same_Some q p is))
touches_own (event.Ack q ack) p is due t = eq-eqb q.0 p.0 (ap (λ (i : ObjectId). i.0) (same_Some q p is))
touches_own (event.AckRemoved q) p is due t = eq-eqb q.0 p.0 (ap (λ (i : ObjectId). i.0) (same_Some q p is))
touches_own (event.OwnSwitch q on) p is due t = eq-eqb q.0 p.0 (ap (λ (i : ObjectId). i.0) (same_Some q p is))

module _ (c : Config) (zone : Zone) (e : Event) (past : List Event) where
  pub after_is : (o : ℕ) (settings : Object) → slice_get c.objects o ≡ Some settings → book_after c zone e past o ≡ record { object = record { 0 = o }; book = book_of c zone o settings (e ∷ past) } ∷ []
  after_is o settings at =
      ap (λ (found : Option Object). option_map_or (λ settings. let new : NewBook = record { object = record { 0 = o }; book = book_of c zone o settings (e ∷ past) } in new ∷ []) found []) at

  -- at most one book is new for each object
  pub one : (o : ℕ) → AtMostOne o (new_books c zone e past o)
  one o = by_object (slice_get c.objects o) refl
    where
      by_test : (settings : Object) (b : Bool) → slice_get c.objects o ≡ Some settings → AtMostOne o (cond b (book_after c zone e past o) [])
      by_test settings true at = inr (_, after_is o settings at, refl)
      by_test settings false at = inl refl

      by_object : (found : Option Object) → slice_get c.objects o ≡ found
          → AtMostOne o (option_map_or (λ settings. cond (is_touched c zone e past o settings) (book_after c zone e past o) []) found [])
      by_object None h = inl refl
      by_object (Some settings) h = by_test settings (is_touched c zone e past o settings) h

module _ (laws : UntouchedFit) (c : Config) (zone : Zone) (e : Event) (past : List Event) where
  -- of an object that an event doesn't touch nothing becomes, and its book fits on
  pub untouched : (o : ℕ) (settings : Object) → is_touched c zone e past o settings ≡ false
      → (outcome_at c zone o settings e past ≡ Nothing) × BookFits c zone o settings (e ∷ past) (book_of c zone o settings past)
  untouched o settings quiet =
      let parts = or_parts (repeats c o e.kind past) (touches o e.kind (book_of c zone o settings past).due (moment (e ∷ past))) quiet in
      laws c zone o settings e past (book_of c zone o settings past) refl parts.1 parts.0

  -- an object that an event doesn't touch has no entries, and no new book
  pub no_entries : (o : ℕ) → ((settings : Object) → slice_get c.objects o ≡ Some settings → is_touched c zone e past o settings ≡ false) → object_entries c zone e past o ≡ []
  no_entries o quiet = by_object (slice_get c.objects o) refl
    where
      by_object : (found : Option Object) → slice_get c.objects o ≡ found
          → option_map_or (λ object. outcome_entries c zone o object (length past) (outcome_at c zone o object e past)) found [] ≡ []
      by_object None h = refl
      by_object (Some settings) h =
          ap (outcome_entries c zone o settings (length past)) (untouched o settings (quiet settings h)).0

  pub no_books : (o : ℕ) → ((settings : Object) → slice_get c.objects o ≡ Some settings → is_touched c zone e past o settings ≡ false) → new_books c zone e past o ≡ []
  no_books o quiet = by_object (slice_get c.objects o) refl
    where
      by_object : (found : Option Object) → slice_get c.objects o ≡ found
          → option_map_or (λ settings. cond (is_touched c zone e past o settings) (book_after c zone e past o) []) found [] ≡ []
      by_object None h = refl
      by_object (Some settings) h = ap (λ (b : Bool). cond b (book_after c zone e past o) []) (quiet settings h)

  -- the new book of an object that it touches
  pub touched_books : (o : ℕ) (settings : Object) → slice_get c.objects o ≡ Some settings → is_touched c zone e past o settings ≡ true
      → new_books c zone e past o ≡ book_after c zone e past o
  touched_books o settings at touched =
      ap (λ (found : Option Object). option_map_or (λ settings. cond (is_touched c zone e past o settings) (book_after c zone e past o) []) found []) at
      ∙ ap (λ (b : Bool). cond b (book_after c zone e past o) []) touched

  -- the book of an object after the event is the new one, or still fits
  decided_book : (o : ℕ) (settings : Object) (old : BookValues) → slice_get c.objects o ≡ Some settings → BookFits c zone o settings past old
      → book_decided (new_books c zone e past o) old ≡ book_of c zone o settings (e ∷ past)
  decided_book o settings old at fits = by_test (is_touched c zone e past o settings) refl
    where
      by_test : (b : Bool) → is_touched c zone e past o settings ≡ b → book_decided (new_books c zone e past o) old ≡ book_of c zone o settings (e ∷ past)
      by_test true is = ap (λ decided. book_decided decided old) (touched_books o settings at is ∙ after_is c zone e past o settings at)
      by_test false is =
          ap (λ decided. book_decided decided old) (no_books o (λ other h. subst (λ (x : Object). is_touched c zone e past o x ≡ false) (same_Some settings other (sym at ∙ h)) is))
          ∙ fits ∙ (untouched o settings is).1

  -- the books after the event fit the past with it
  pub books_fit : (share : Share) (books : List BookValues) → BooksFit c zone share past books
      → BooksFit c zone share (e ∷ past) (settled (share_books c zone share e past) books)
  books_fit share books fit = record {
    count = length-settled (share_books c zone share e past) books ∙ fit.count;
    each = λ o settings at owned.
        let within : o < length c.objects = slice_get_within c.objects o settings at in
        settled_at (new_books c zone e past) (is_owned share) (one c zone e past) (length c.objects) o books new_book within (omega (arith, fit.count, within)) owned
        ∙ decided_book o settings (get_or books o new_book) at (fit.each o settings at owned);
  }

-- the books of objects of which nothing is known yet
all_new : (n o : ℕ) → get_or (replicate n new_book) o new_book ≡ new_book
all_new zero o = refl
all_new (suc n) zero = refl
all_new (suc n) (suc o) = all_new n o

nothing_known : (c : Config) (zone : Zone) (o : ℕ) (settings : Object) → new_book ≡ book_of c zone o settings []
unfolding hist
nothing_known c zone o settings = refl

pub new_fit : (c : Config) (zone : Zone) (share : Share) (books : List BookValues) (n : ℕ) → books ≡ replicate n new_book → n ≡ length c.objects → BooksFit c zone share [] books
new_fit c zone share books n are count = record {
  count = ap (λ (xs : List BookValues). length xs) are ∙ length-replicate n new_book ∙ count;
  each = λ o settings at owned. ap (λ (xs : List BookValues). get_or xs o new_book) are ∙ all_new n o ∙ nothing_known c zone o settings;
}
