-- The index after an event, what the clock finds in it, and how much it hands out.
use Rattle.std.proofs.Common.{◌≡◌, ◌≢◌, ◌⊎◌, ℕ, zero, suc, ◌+◌, ◌%◌, ◌^◌, ◌<◌, ◌≤◌, Bool, true, false, cond, ◌==◌, ◌&&◌, ◌||◌, List, [], ◌∷◌, ◌++◌, length, filter, drop, slice_get, get_or, All, Option, Some, None, refl, sym, ap, subst, ◌∙◌, arith, inl, inr, length-append}
use Rattle.std.specs.List.{range_with_len}
use Rattle.std.specs.Option.{option_map_or}
use Rattle.std.proofs.Math.Nat.{mod-eq_of_lt}
use Rattle.std.proofs.Math.Seq.{drop-cons}
use Rattle.std.proofs.lemmas.Bool.{cases_eq, cases_lt, eq-eqb, false≢true, ne_eqb, or_parts}
use Rattle.std.proofs.lemmas.List.{append-nil}
use Rattle.std.proofs.lemmas.List.Elements.{All-append, filter-append}
use Rattle.std.proofs.lemmas.List.FromFn.{length-range_with_len}
use Rattle.std.proofs.lemmas.List.Sums.{count_by-le-length, length-filter}
use Rattle.std.proofs.lemmas.Option.{same_Some, slice_get_past}
use Rattle.due_model.specs.declared.config.Config.{Config}
use Rattle.due_model.specs.declared.config.Object.{Object}
use Rattle.due_model.specs.declared.event.Event.{Event}
use Rattle.due_model.specs.declared.event.EventKind.{EventKind}
use Rattle.due_model.specs.declared.event.EventKind.TheVariants as event
use Rattle.due_model.specs.declared.zone.Zone.{Zone}
use Rattle.due_model.specs.claims.Accepted.{IsAccepted}
use Rattle.due_model.specs.claims.Histories.{ready, ready_or, repeats}
use Rattle.due_model.specs.claims.Limits.{max_events}
use Rattle.due_model.specs.claims.Changes.{delayed}
use Rattle.due_model.specs.claims.Readings.{hard, is_problem_state, moment}
use Rattle.due_model.specs.claims.Rules.{has_come}
use Rattle.due_times.specs.claims.Index.{Due, at}
use Rattle.due_times.specs.Index.{IsNextDue, NoneIsDueFrom, Sets, due_count}
use Rattle.lemmas.proofs.Numbers.{below_more, flat_below, flat_more}
use Rattle.messages.specs.claims.Entries.{object_entries}
use Rattle.problem_count.specs.claims.Fits.{book_of, problem, released_after}
use Rattle.problem_count.specs.Laws.{UntouchedFit, touches}
use Rattle.decider.specs.declared.share.Share.{Share}
use Rattle.decider.specs.declared.staging.NewBook.{NewBook}
use Rattle.decider.specs.Books.{book_after, is_touched, new_books, share_books}
use Rattle.decider.specs.declared.staging.Staged.{Staged}
use Rattle.decider.specs.Entries.{share_entries}
use Rattle.decider.specs.Events.{IsAt, Values}
use Rattle.decider.specs.Staging.{Adds}
use Rattle.decider.specs.claims.Ready.{IndexFits, is_clock, is_ready, judged, ready_of}
use Rattle.decider.specs.Ready.{HasRoom, IsIndexAfter, entry_decided, handed_after, left_after}
use Rattle.decider.specs.claims.Share.{is_owned, owned_numbers}
use Rattle.decider.proofs.BookLaws.{after_is, no_books, no_entries, one, touched_books, untouched}
use Rattle.decider.proofs.SettleLaws.{AtMostOne}
use Rattle.lemmas.proofs.Lists.{some_at}
use Rattle.decider.proofs.StagingLaws.{adds_next, adds_same}

-- ---- entries that books set

-- an entry that was set, and the others
pub entry_set : (old new : List (Option ℕ)) (p : ℕ) (m : Option ℕ) → Sets old new p m → (o : ℕ) → at new o ≡ cond (p == o) m (at old o)
entry_set old new p m sets o = elim (cases_eq p o) [
  | inl e ↦ subst (λ (i : ℕ). at new i ≡ cond (p == i) m (at old i)) e (sets.set ∙ sym (ap (λ (b : Bool). cond b m (at old p)) (eq-eqb p p refl)))
  | inr ne ↦ sets.others o (λ e. ne (sym e)) ∙ sym (ap (λ (b : Bool). cond b m (at old o)) (ne_eqb p o ne))
]

entry_append : (decided more : List NewBook) (o : ℕ) (m : Option ℕ) → entry_decided (decided ++ more) o m ≡ entry_decided more o (entry_decided decided o m)
entry_append [] more o m = refl
entry_append (new ∷ decided) more o m = entry_append decided more o (cond (new.object.0 == o) new.book.due m)

module _ (f : ℕ → List NewBook) (p : ℕ → Bool) (one : (o : ℕ) → AtMostOne o (f o)) where
  -- a new book of object n leaves the entries of the others
  entry_other : (n o : ℕ) (m : Option ℕ) → o ≢ n → entry_decided (cond (p n) (f n) []) o m ≡ m
  entry_other n o m ne = by_test (p n) (one n)
    where
      by_test : (b : Bool) → AtMostOne n (f n) → entry_decided (cond b (f n) []) o m ≡ m
      by_test true (inl e) = ap (λ decided. entry_decided decided o m) e
      by_test true (inr h) =
          ap (λ decided. entry_decided decided o m) h.1
          ∙ ap (λ (b : Bool). cond b h.0.book.due m) (ne_eqb h.0.object.0 o (λ e. ne (sym e ∙ h.2)))
      by_test false h = refl

  -- those of the objects that come later stay
  entry_later : (n o : ℕ) (m : Option ℕ) → n ≤ o → entry_decided (flat_below f p n) o m ≡ m
  entry_later zero o m h = refl
  entry_later (suc n) o m h =
      ap (λ decided. entry_decided decided o m) (flat_more f p n)
      ∙ entry_append (flat_below f p n) (cond (p n) (f n) []) o m
      ∙ entry_other n o (entry_decided (flat_below f p n) o m) (omega arith)
      ∙ entry_later n o m (omega arith)

  -- the entry of an object is set by its own new book
  entry_own : (n o : ℕ) (m : Option ℕ) → o < n → entry_decided (flat_below f p n) o m ≡ entry_decided (cond (p o) (f o) []) o m
  entry_own zero o m h = absurd (omega arith)
  entry_own (suc n) o m h =
      ap (λ decided. entry_decided decided o m) (flat_more f p n)
      ∙ entry_append (flat_below f p n) (cond (p n) (f n) []) o m
      ∙ elim (cases_eq o n) [
        | inl e ↦ subst (λ (k : ℕ). entry_decided (cond (p k) (f k) []) o (entry_decided (flat_below f p k) o m) ≡ entry_decided (cond (p o) (f o) []) o m) e
            (ap (entry_decided (cond (p o) (f o) []) o) (entry_later o o m (omega arith)))
        | inr ne ↦ entry_other n o (entry_decided (flat_below f p n) o m) ne ∙ entry_own n o m (omega arith)
      ]

  -- the new books are of the objects below that number
  books_below : (n m : ℕ) → n ≤ m → All (λ (new : NewBook). new.object.0 < m) (flat_below f p n)
  books_below zero m h = All-none
    where
      All-none : All (λ (new : NewBook). new.object.0 < m) []
      All-none = grind arith
  books_below (suc n) m h =
      subst (λ (decided : List NewBook). All (λ (new : NewBook). new.object.0 < m) decided) (sym (flat_more f p n))
      (All-append (λ (new : NewBook). new.object.0 < m) (flat_below f p n) (cond (p n) (f n) []) (books_below n m (omega arith)) (by_test (p n) (one n)))
    where
      by_test : (b : Bool) → AtMostOne n (f n) → All (λ (new : NewBook). new.object.0 < m) (cond b (f n) [])
      by_test true (inl e) = subst (λ (decided : List NewBook). All (λ (new : NewBook). new.object.0 < m) decided) (sym e) (grind arith)
      by_test true (inr h') = subst (λ (decided : List NewBook). All (λ (new : NewBook). new.object.0 < m) decided) (sym h'.1) (let less : h'.0.object.0 < m = omega (arith, h, h'.2) in grind (arith, less))
      by_test false h' = grind arith

-- ---- the ready moments after an event

none_left : (k : EventKind) (t : ℕ) → left_after k t None ≡ None
none_left event.Clock t = refl
none_left (event.Program on) t = refl
none_left (event.Hard p state) t = refl
none_left (event.Downtime p change) t = refl
none_left (event.Flapping p starts) t = refl
none_left (event.Ack p ack) t = refl
none_left (event.AckRemoved p) t = refl
none_left (event.OwnSwitch p on) t = refl

-- what is left of the entry of an object that the event doesn't touch is all of it
untouched_left : (k : EventKind) (o : ℕ) (due : Option ℕ) (t : ℕ) → touches o k due t ≡ false → left_after k t due ≡ due
untouched_left event.Clock o due t h = ap (λ (b : Bool). cond b None due) h
untouched_left (event.Program on) o due t h = refl
untouched_left (event.Hard p state) o due t h = refl
untouched_left (event.Downtime p change) o due t h = refl
untouched_left (event.Flapping p starts) o due t h = refl
untouched_left (event.Ack p ack) o due t h = refl
untouched_left (event.AckRemoved p) o due t h = refl
untouched_left (event.OwnSwitch p on) o due t h = refl

module _ (c : Config) (zone : Zone) (share : Share) (past : List Event) where
  -- the ready moment of an object of the share
  pub ready_at : (o : ℕ) (settings : Object) → slice_get c.objects o ≡ Some settings → is_owned share o ≡ true → ready_of c zone share past o ≡ (book_of c zone o settings past).due
  ready_at o settings at owned =
      ap (λ (b : Bool). cond b (option_map_or (λ s. (book_of c zone o s past).due) (slice_get c.objects o) None) None) owned
      ∙ ap (λ (found : Option Object). option_map_or (λ s. (book_of c zone o s past).due) found None) at

  -- none of an object of another share
  ready_other : (o : ℕ) → is_owned share o ≡ false → ready_of c zone share past o ≡ None
  ready_other o other = ap (λ (b : Bool). cond b (option_map_or (λ s. (book_of c zone o s past).due) (slice_get c.objects o) None) None) other

  -- nor of one that isn't there
  ready_beyond : (o : ℕ) → length c.objects ≤ o → ready_of c zone share past o ≡ None
  ready_beyond o far =
      ap (λ (found : Option Object). cond (is_owned share o) (option_map_or (λ s. (book_of c zone o s past).due) found None) None) (slice_get_past c.objects o far)
      ∙ same (is_owned share o)
    where
      same : (b : Bool) → cond {A = Option ℕ} b None None ≡ None
      same true = refl
      same false = refl

  -- an object whose ready moment has come is of the share, and there
  pub come_is : (o t : ℕ) → has_come (ready_of c zone share past o) t ≡ true
      → (is_owned share o ≡ true) × ((settings : Object) × (slice_get c.objects o ≡ Some settings) × (has_come (book_of c zone o settings past).due t ≡ true))
  come_is o t come = by_share (is_owned share o) refl
    where
      by_place : is_owned share o ≡ true → (o < length c.objects) ⊎ (length c.objects ≤ o)
          → (settings : Object) × (slice_get c.objects o ≡ Some settings) × (has_come (book_of c zone o settings past).due t ≡ true)
      by_place owned (inl within) =
          let settings = some_at c.objects o within in
          (settings.0, settings.1, sym (ap (λ (x : Option ℕ). has_come x t) (ready_at o settings.0 settings.1 owned)) ∙ come)
      by_place owned (inr far) = absurd (false≢true (sym (ap (λ (x : Option ℕ). has_come x t) (ready_beyond o far)) ∙ come))

      by_share : (b : Bool) → is_owned share o ≡ b
          → (is_owned share o ≡ true) × ((settings : Object) × (slice_get c.objects o ≡ Some settings) × (has_come (book_of c zone o settings past).due t ≡ true))
      by_share true e = (e, by_place e (cases_lt o (length c.objects)))
      by_share false e = absurd (false≢true (sym (ap (λ (x : Option ℕ). has_come x t) (ready_other o e)) ∙ come))

module _ (laws : UntouchedFit) (c : Config) (zone : Zone) (share : Share) (e : Event) (past : List Event) where
  -- the entry of an object of the share, once the new books have set theirs
  entry_of_owned : (o : ℕ) (settings : Object) → slice_get c.objects o ≡ Some settings → is_owned share o ≡ true
      → entry_decided (new_books c zone e past o) o (left_after e.kind (moment (e ∷ past)) (ready_of c zone share past o)) ≡ ready_of c zone share (e ∷ past) o
  entry_of_owned o settings at owned = by_test (is_touched c zone e past o settings) refl
    where
      old : Option ℕ
      old = left_after e.kind (moment (e ∷ past)) (ready_of c zone share past o)

      by_test : (b : Bool) → is_touched c zone e past o settings ≡ b → entry_decided (new_books c zone e past o) o old ≡ ready_of c zone share (e ∷ past) o
      by_test true is =
          ap (λ decided. entry_decided decided o old) (touched_books laws c zone e past o settings at is ∙ after_is c zone e past o settings at)
          ∙ ap (λ (b : Bool). cond b (book_of c zone o settings (e ∷ past)).due old) (eq-eqb o o refl)
          ∙ sym (ready_at c zone share (e ∷ past) o settings at owned)
      by_test false is =
          ap (λ decided. entry_decided decided o old) (no_books laws c zone e past o (λ other h. subst (λ (x : Object). is_touched c zone e past o x ≡ false) (same_settings other h) is))
          ∙ ap (left_after e.kind (moment (e ∷ past))) (ready_at c zone share past o settings at owned)
          ∙ untouched_left e.kind o (book_of c zone o settings past).due (moment (e ∷ past)) (or_parts (repeats c o e.kind past) (touches o e.kind (book_of c zone o settings past).due (moment (e ∷ past))) is).1
          ∙ ap (λ (b : _). b.due) (untouched laws c zone e past o settings is).1
          ∙ sym (ready_at c zone share (e ∷ past) o settings at owned)
        where
          same_settings : (other : Object) → slice_get c.objects o ≡ Some other → settings ≡ other
          same_settings other h = same_Some settings other (sym at ∙ h)

  entry_after : (o : ℕ) → entry_decided (share_books c zone share e past) o (left_after e.kind (moment (e ∷ past)) (ready_of c zone share past o)) ≡ ready_of c zone share (e ∷ past) o
  entry_after o = elim (cases_lt o (length c.objects)) [
    | inl within ↦ entry_own f p (one c zone e past) (length c.objects) o old within ∙ by_share (is_owned share o) refl (some_at c.objects o within)
    | inr far ↦ entry_later f p (one c zone e past) (length c.objects) o old far
        ∙ ap (left_after e.kind (moment (e ∷ past))) (ready_beyond c zone share past o far) ∙ none_left e.kind (moment (e ∷ past)) ∙ sym (ready_beyond c zone share (e ∷ past) o far)
  ]
    where
      f : ℕ → List NewBook
      f = new_books c zone e past

      p : ℕ → Bool
      p = is_owned share

      old : Option ℕ
      old = left_after e.kind (moment (e ∷ past)) (ready_of c zone share past o)

      by_share : (b : Bool) → is_owned share o ≡ b → (settings : Object) × (slice_get c.objects o ≡ Some settings) → entry_decided (cond (p o) (f o) []) o old ≡ ready_of c zone share (e ∷ past) o
      by_share true owned settings = ap (λ (b : Bool). entry_decided (cond b (f o) []) o old) owned ∙ entry_of_owned o settings.0 settings.1 owned
      by_share false other settings =
          ap (λ (b : Bool). entry_decided (cond b (f o) []) o old) other
          ∙ ap (left_after e.kind (moment (e ∷ past))) (ready_other c zone share past o other) ∙ none_left e.kind (moment (e ∷ past)) ∙ sym (ready_other c zone share (e ∷ past) o other)

-- there is room for the entries of the new books
pub room_for : (c : Config) (zone : Zone) (share : Share) (e : Event) (past : List Event) (index : Due) → length c.objects ≤ length index.moments → HasRoom index (share_books c zone share e past)
room_for c zone share e past index room = books_below (new_books c zone e past) (is_owned share) (one c zone e past) (length c.objects) (length index.moments) room

-- the entries, once one book more has set its own
pub marked_more : (decided : List NewBook) (i : ℕ) (x : NewBook) (old new : List (Option ℕ)) (o : ℕ) → i < length decided → x ≡ get_or decided i x → Sets old new x.object.0 x.book.due
    → entry_decided (drop (i + 1) decided) o (at new o) ≡ entry_decided (drop i decided) o (at old o)
marked_more decided i x old new o within read sets =
    let next : suc i ≡ i + 1 = omega arith in
    let rest : drop i decided ≡ x ∷ drop (i + 1) decided =
    drop-cons decided i x within ∙ ap (λ (y : NewBook). y ∷ drop (suc i) decided) (sym read) ∙ ap (λ (n : ℕ). x ∷ drop n decided) next
    in
    ap (entry_decided (drop (i + 1) decided) o) (entry_set old new x.object.0 x.book.due sets o)
    ∙ sym (ap (λ (ds : List NewBook). entry_decided ds o (at old o)) rest)

-- ---- how many are ready

-- how many entries pass a test is how many places do
count_places : (q : Option ℕ → Bool) (p : ℕ → Bool) (moments : List (Option ℕ)) (a n : ℕ) → n ≡ length moments → ((i j : ℕ) → j ≡ a + i → p j ≡ q (at moments i))
    → length (filter q moments) ≡ length (filter p (range_with_len a n))
count_places q p [] a zero long same = refl
count_places q p [] a (suc n) long same = absurd (omega (arith, long))
count_places q p (x ∷ xs) a zero long same = absurd (omega (arith, long))
count_places q p (x ∷ xs) a (suc n) long same =
    by_test (q x) (p a) (same 0 a (omega arith)) (count_places q p xs (a + 1) n (omega (arith, long)) (λ i j e. same (suc i) j (omega (arith, e))))
  where
    by_test : (b b' : Bool) → b' ≡ b → length (filter q xs) ≡ length (filter p (range_with_len (a + 1) n))
        → length (cond b (x ∷ filter q xs) (filter q xs)) ≡ length (cond b' (a ∷ filter p (range_with_len (a + 1) n)) (filter p (range_with_len (a + 1) n)))
    by_test true true e rest = omega (arith, rest)
    by_test true false e rest = absurd (false≢true e)
    by_test false true e rest = absurd (false≢true (sym e))
    by_test false false e rest = rest

count_more : (p : ℕ → Bool) (n : ℕ) → length (filter p (range_with_len 0 (suc n))) ≡ length (filter p (range_with_len 0 n)) + length (filter p (n ∷ []))
count_more p n =
    let next : suc n ≡ n + 1 = omega arith in
    ap (λ (m : ℕ). length (filter p (range_with_len 0 m))) next
    ∙ ap (λ xs. length (filter p xs)) (below_more n)
    ∙ ap length (filter-append p (range_with_len 0 n) (n ∷ []))
    ∙ length-append (filter p (range_with_len 0 n)) (filter p (n ∷ []))

-- numbers that don't pass don't count
count_gap : (p : ℕ → Bool) (n m : ℕ) → n ≤ m → ((k : ℕ) → n ≤ k → p k ≡ false) → length (filter p (range_with_len 0 m)) ≡ length (filter p (range_with_len 0 n))
count_gap p n zero h none = ap (λ (k : ℕ). length (filter p (range_with_len 0 k))) (let e : 0 ≡ n = omega (arith, h) in e)
count_gap p n (suc m) h none = elim (cases_eq n (suc m)) [
  | inl e ↦ ap (λ (k : ℕ). length (filter p (range_with_len 0 k))) (sym e)
  | inr ne ↦
      let last : length (filter p (m ∷ [])) ≡ 0 = ap (λ (b : Bool). length (cond b (m ∷ []) [])) (none m (omega (arith, h, ne))) in
      omega (arith, count_more p m, last, count_gap p n m (omega (arith, h, ne)) none)
]

-- a test after another
filter_both : (w r : ℕ → Bool) (xs : List ℕ) → filter r (filter w xs) ≡ filter (λ x. w x && r x) xs
filter_both w r [] = refl
filter_both w r (x ∷ xs) = by_test (w x) (filter_both w r xs)
  where
    by_test : (b : Bool) → filter r (filter w xs) ≡ filter (λ y. w y && r y) xs
        → filter r (cond b (x ∷ filter w xs) (filter w xs)) ≡ cond (b && r x) (x ∷ filter (λ y. w y && r y) xs) (filter (λ y. w y && r y) xs)
    by_test true rest = ap (λ ys. cond (r x) (x ∷ ys) ys) rest
    by_test false rest = rest

filter_alike : (p q : ℕ → Bool) → ((k : ℕ) → p k ≡ q k) → (xs : List ℕ) → filter p xs ≡ filter q xs
filter_alike p q alike [] = refl
filter_alike p q alike (x ∷ xs) =
    ap (λ (b : Bool). cond b (x ∷ filter p xs) (filter p xs)) (alike x) ∙ ap (λ ys. cond (q x) (x ∷ ys) ys) (filter_alike p q alike xs)

length_filter : (p : ℕ → Bool) (xs : List ℕ) → length (filter p xs) ≤ length xs
length_filter p xs = omega (arith, length-filter p xs, count_by-le-length p xs)

module _ (c : Config) (zone : Zone) (share : Share) (e : Event) (past : List Event) where
  -- what has come is ready
  ready_test : (o : ℕ) → has_come (ready_of c zone share past o) (moment (e ∷ past)) ≡ (is_owned share o && is_ready c zone e past o)
  ready_test o = by_share (is_owned share o)
    where
      by_state : (settings : Object) (b : Bool) → has_come (cond b (ready_or (released_after c zone o settings past) (ready c zone settings (delayed c o past) (problem c zone o settings past))) None) (moment (e ∷ past))
          ≡ (b && has_come (ready_or (released_after c zone o settings past) (ready c zone settings (delayed c o past) (problem c zone o settings past))) (moment (e ∷ past)))
      by_state settings true = refl
      by_state settings false = refl

      by_object : (found : Option Object) → has_come (option_map_or (λ s. (book_of c zone o s past).due) found None) (moment (e ∷ past))
          ≡ option_map_or (λ s. is_problem_state (hard o past) && has_come (ready_or (released_after c zone o s past) (ready c zone s (delayed c o past) (problem c zone o s past))) (moment (e ∷ past))) found false
      by_object None = refl
      by_object (Some settings) = by_state settings (is_problem_state (hard o past))

      by_share : (b : Bool) → has_come (cond b (option_map_or (λ s. (book_of c zone o s past).due) (slice_get c.objects o) None) None) (moment (e ∷ past)) ≡ (b && is_ready c zone e past o)
      by_share true = by_object (slice_get c.objects o)
      by_share false = refl

  -- so many entries have come
  count_is : (index : Due) → IndexFits c zone share past index
      → due_count (moment (e ∷ past)) index.moments ≡ length (filter (is_ready c zone e past) (owned_numbers share (length c.objects)))
  count_is index fit =
      let t = moment (e ∷ past) in
      let test : ℕ → Bool = λ o. is_owned share o && is_ready c zone e past o in
      count_places (λ m. has_come m t) test index.moments 0 (length index.moments) refl
      (λ i j same. sym (ready_test j) ∙ ap (λ (x : Option ℕ). has_come x t) (sym (fit.each j)) ∙ ap (λ (k : ℕ). has_come (at index.moments k) t) (let plain : j ≡ i = omega (arith, same) in plain))
      ∙ count_gap test (length c.objects) (length index.moments) fit.room (λ k far. sym (ready_test k) ∙ ap (λ (x : Option ℕ). has_come x t) (ready_beyond c zone share past k far))
      ∙ ap length (sym (filter_both (is_owned share) (is_ready c zone e past) (range_with_len 0 (length c.objects))))

  ready_few : length (filter (is_ready c zone e past) (owned_numbers share (length c.objects))) ≤ length c.objects
  ready_few = omega (
    arith,
    length_filter (is_ready c zone e past) (owned_numbers share (length c.objects)),
    length_filter (is_owned share) (range_with_len 0 (length c.objects)),
    length-range_with_len 0 (length c.objects),
  )

  judged_few : judged c zone share e past ≤ length c.objects
  judged_few = by_clock (is_clock e.kind)
    where
      by_clock : (b : Bool) → cond b (length (filter (is_ready c zone e past) (owned_numbers share (length c.objects)))) 0 ≤ length c.objects
      by_clock true = ready_few
      by_clock false = omega arith

  module _ (accepted : IsAccepted c) (index : Due) (fit : IndexFits c zone share past index) (t : ℕ) (is_at : t ≡ moment (e ∷ past)) where
    -- and are handed out at the clock's event
    pub handed : length past < max_events → handed_after e.kind t index ≡ index.examined + judged c zone share e past
    handed short = by_clock (is_clock e.kind)
      where
        ready_count : ℕ
        ready_count = length (filter (is_ready c zone e past) (owned_numbers share (length c.objects)))

        count : due_count t index.moments ≡ ready_count
        count = ap (λ (u : ℕ). due_count u index.moments) is_at ∙ count_is index fit

        small : index.examined + due_count t index.moments < 2 ^ 64
        small = omega (arith, count, ready_few, fit.few, accepted.few_objects, short)

        by_clock : (b : Bool) → cond b ((index.examined + due_count t index.moments) % 2 ^ 64) index.examined ≡ index.examined + cond b ready_count 0
        by_clock true = mod-eq_of_lt small ∙ ap (λ (n : ℕ). index.examined + n) count
        by_clock false = omega arith

    -- the index after the event fits the past with it
    pub index_after : UntouchedFit → length past < max_events → (new : Due) → IsIndexAfter e.kind t (share_books c zone share e past) index new → IndexFits c zone share (e ∷ past) new
    index_after laws short new after = record {
      room = omega (arith, fit.room, after.room);
      each = λ o.
          after.each o
          ∙ ap (λ (m : Option ℕ). entry_decided (share_books c zone share e past) o (left_after e.kind t m)) (fit.each o)
          ∙ ap (λ (u : ℕ). entry_decided (share_books c zone share e past) o (left_after e.kind u (ready_of c zone share past o))) is_at
          ∙ entry_after laws c zone share e past o;
      few = omega (arith, after.examined, handed short, judged_few, fit.few, accepted.few_objects);
    }

-- ---- nothing has happened

no_ready : (c : Config) (zone : Zone) (share : Share) (o : ℕ) → ready_of c zone share [] o ≡ None
no_ready c zone share o = by_share (is_owned share o) (slice_get c.objects o)
  where
    by_share : (b : Bool) (found : Option Object) → cond b (option_map_or (λ s. (book_of c zone o s []).due) found None) None ≡ None
    by_share true None = refl
    by_share true (Some s) = refl
    by_share false found = refl

pub new_index_fits : (c : Config) (zone : Zone) (share : Share) (index : Due) (n : ℕ) → n ≡ length c.objects → n ≤ length index.moments → ((o : ℕ) → at index.moments o ≡ None) → index.examined ≡ 0
    → IndexFits c zone share [] index
new_index_fits c zone share index n count room none zero_handed = record {
  room = omega (arith, count, room);
  each = λ o. none o ∙ sym (no_ready c zone share o);
  few = omega (arith, zero_handed);
}

-- ---- what the clock finds

-- numbers of which nothing comes add nothing
flat_gap : {A : Type 0} (f : ℕ → List A) (p : ℕ → Bool) (n m : ℕ) → n ≤ m → ((k : ℕ) → n ≤ k → k < m → p k ≡ true → f k ≡ []) → flat_below f p m ≡ flat_below f p n
flat_gap f p n zero h none = ap (flat_below f p) (let e : 0 ≡ n = omega (arith, h) in e)
flat_gap {A} f p n (suc m) h none = elim (cases_eq n (suc m)) [
  | inl e ↦ ap (flat_below f p) (sym e)
  | inr ne ↦ flat_more f p m ∙ ap (λ xs. xs ++ cond (p m) (f m) []) (flat_gap f p n m (omega (arith, h, ne)) (λ k more less. none k more (omega (arith, less))))
      ∙ last (p m) refl (none m (omega (arith, h, ne)) (omega arith))
]
  where
    last : (b : Bool) → p m ≡ b → (p m ≡ true → f m ≡ []) → flat_below f p n ++ cond b (f m) [] ≡ flat_below f p n
    last true e nothing = ap (λ (xs : List A). flat_below f p n ++ xs) (nothing e) ∙ append-nil _
    last false e nothing = append-nil _

module _ (laws : UntouchedFit) (v : Values) (e : Event) (past : List Event) (is : IsAt v e past) (clock : v.context.kind ≡ event.Clock) where
  kind_is : e.kind ≡ event.Clock
  kind_is = sym is.says ∙ clock

  -- an object of the share is touched if its entry has come
  touched_by : (o : ℕ) (settings : Object) → slice_get v.config.objects o ≡ Some settings → is_owned v.share o ≡ true
      → is_touched v.config v.zone e past o settings ≡ has_come (at v.index.moments o) v.context.moment
  touched_by o settings at' owned =
      ap (λ (k : EventKind). repeats v.config o k past || touches o k (book_of v.config v.zone o settings past).due (moment (e ∷ past))) kind_is
      ∙ ap (λ (x : Option ℕ). has_come x (moment (e ∷ past))) (sym (ready_at v.config v.zone v.share past o settings at' owned) ∙ sym (is.indexed.each o))
      ∙ ap (λ (t : ℕ). has_come (at v.index.moments o) t) (sym is.at)

  -- what the clock finds in the index is of the share, there, and touched
  pub found_due : (o : ℕ) → has_come (at v.index.moments o) v.context.moment ≡ true
      → (is_owned v.share o ≡ true) × ((settings : Object) × (slice_get v.config.objects o ≡ Some settings) × (is_touched v.config v.zone e past o settings ≡ true))
  found_due o come =
      let found = come_is v.config v.zone v.share past o v.context.moment (ap (λ (x : Option ℕ). has_come x v.context.moment) (sym (is.indexed.each o)) ∙ come) in
      (found.0, (found.1.0, found.1.1, touched_by o found.1.0 found.1.1 found.0 ∙ come))

  module _ (n m : ℕ) (more : n ≤ m) (quiet : (k : ℕ) → n ≤ k → k < m → has_come (at v.index.moments k) v.context.moment ≡ false) where
    -- of objects of which no entry has come nothing is said
    pub gap_entries : flat_below (object_entries v.config v.zone e past) (is_owned v.share) m ≡ flat_below (object_entries v.config v.zone e past) (is_owned v.share) n
    gap_entries = flat_gap (object_entries v.config v.zone e past) (is_owned v.share) n m more
        (λ k far near owned. no_entries laws v.config v.zone e past k (λ settings at'. touched_by k settings at' owned ∙ quiet k far near))

    pub gap_books : flat_below (new_books v.config v.zone e past) (is_owned v.share) m ≡ flat_below (new_books v.config v.zone e past) (is_owned v.share) n
    gap_books = flat_gap (new_books v.config v.zone e past) (is_owned v.share) n m more
        (λ k far near owned. no_books laws v.config v.zone e past k (λ settings at'. touched_by k settings at' owned ∙ quiet k far near))

  -- the next that is due adds what it has to what the objects before it had
  pub adds_due : (n o : ℕ) → IsNextDue v.index.moments n v.context.moment o → (first mid last : Staged)
      → Adds (flat_below (object_entries v.config v.zone e past) (is_owned v.share) n) (flat_below (new_books v.config v.zone e past) (is_owned v.share) n) first mid
      → Adds (object_entries v.config v.zone e past o) (book_after v.config v.zone e past o) mid last
      → Adds (flat_below (object_entries v.config v.zone e past) (is_owned v.share) (o + 1)) (flat_below (new_books v.config v.zone e past) (is_owned v.share) (o + 1)) first last
  adds_due n o next first mid last before own =
      let found = found_due o next.due in
      adds_next (object_entries v.config v.zone e past) (new_books v.config v.zone e past) (is_owned v.share) o first mid last
      (adds_same _ _ _ _ first mid (sym (gap_entries n o next.reached next.before)) (sym (gap_books n o next.reached next.before)) before)
      (adds_same _ _ _ _ mid last
      (sym (ap (λ (b : Bool). cond b (object_entries v.config v.zone e past o) []) found.0))
      (sym (ap (λ (b : Bool). cond b (new_books v.config v.zone e past o) []) found.0 ∙ touched_books laws v.config v.zone e past o found.1.0 found.1.1 found.1.2))
      own)

  -- where no more is due, that is all
  pub adds_all : (n : ℕ) → n ≤ length v.config.objects → NoneIsDueFrom v.index.moments n v.context.moment → (first last : Staged)
      → Adds (flat_below (object_entries v.config v.zone e past) (is_owned v.share) n) (flat_below (new_books v.config v.zone e past) (is_owned v.share) n) first last
      → Adds (share_entries v.config v.zone v.share e past) (share_books v.config v.zone v.share e past) first last
  adds_all n within none first last before =
      adds_same _ _ _ _ first last
      (sym (gap_entries n (length v.config.objects) within (λ k far near. none k far)))
      (sym (gap_books n (length v.config.objects) within (λ k far near. none k far)))
      before
