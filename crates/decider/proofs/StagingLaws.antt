-- What is staged is what the definitions say.
use Rattle.std.proofs.Common.{◌≡◌, ◌≢◌, ℕ, ◌+◌, ◌^◌, ◌<◌, ◌≤◌, ◌==◌, ◌||◌, Bool, true, false, cond, inl, inr, is_some, refl, None, IfSome, List, [], ◌∷◌, ◌++◌, length, get_or, slice_get, slice_index_or, Option, Some, sym, ap, subst, ◌∙◌, arith, append_assoc, add-one}
use Rattle.std.specs.Option.{option_map_or}
use Rattle.std.proofs.lemmas.Bool.{and_parts, eq-eqb, eqb-true, false≢true, ne_eqb}
use Rattle.std.proofs.lemmas.List.{append-nil, get_or_default}
use Rattle.std.proofs.lemmas.Option.{same_Some, slice_get_within}
use Rattle.due_model.specs.declared.config.Object.{Object}
use Rattle.due_model.specs.declared.config.ObjectId.{ObjectId}
use Rattle.due_model.specs.declared.event.Event.{Event}
use Rattle.due_model.specs.declared.event.EventKind.{EventKind}
use Rattle.due_model.specs.declared.event.EventKind.TheVariants as event
use Rattle.due_model.specs.declared.notice.Outcome.{Outcome}
use Rattle.due_model.specs.declared.rules.ObjectStatus.{ObjectStatus}
use Rattle.due_model.specs.claims.Limits.{last_moment}
use Rattle.due_model.specs.declared.config.Config.{Config}
use Rattle.due_model.specs.declared.notice.Outcome.TheVariants.{Nothing, Sent, Suppressed}
use Rattle.due_model.specs.declared.state.State.{State}
use Rattle.due_model.specs.claims.Accepted.{IsAccepted, IsHost, ObjectFits}
use Rattle.due_model.specs.claims.Histories.{repeats}
use Rattle.due_model.specs.claims.Readings.{hard, hard_after, is_problem_state, moment}
use Rattle.due_model.specs.claims.Rules.{same_state}
use Rattle.lemmas.proofs.Numbers.{flat_below, flat_more, flat_none, flat_one, flat_two}
use Rattle.lemmas.proofs.Lists.{All-slice_get}
use Rattle.messages.specs.declared.entries.Entry.{Entry}
use Rattle.messages.specs.claims.Entries.{object_entries, outcome_entries}
use Rattle.outcomes.specs.declared.found.Found.{Found}
use Rattle.outcomes.specs.Found.{IsFound}
use Rattle.outcomes.specs.Outcome.{with_heard}
use Rattle.problem_count.specs.claims.Book.{BookValues, new_book}
use Rattle.problem_count.specs.claims.Fits.{BookFits, book_of}
use Rattle.problem_count.specs.Fits.{outcome_at}
use Rattle.problem_count.specs.Laws.{CountsAreFew, RepeatsRun, UntouchedFit, touches}
use Rattle.decider.specs.declared.reading.Reading.{Reading}
use Rattle.decider.specs.declared.staging.NewBook.{NewBook}
use Rattle.decider.specs.declared.staging.Staged.{Staged}
use Rattle.decider.specs.Books.{book_after, is_touched, new_books, share_books}
use Rattle.decider.specs.Entries.{share_entries}
use Rattle.decider.specs.Events.{IsAt, Values, values}
use Rattle.decider.specs.claims.Share.{is_owned}
use Rattle.decider.specs.Staging.{Adds, ArePair}
use Rattle.decider.specs.claims.Statuses.{StatusLists}
use Rattle.decider.specs.Statuses.{hard_by, named_by}
use Rattle.decider.proofs.BookLaws.{no_books, no_entries, touches_other, touches_own}
use Rattle.decider.proofs.StatusLaws.{depth_few, named_within}

module _ (v : Values) (e : Event) (past : List Event) (is : IsAt v e past) (o : ℕ) (settings : Object) (at : slice_get v.config.objects o ≡ Some settings) where
  -- the book that is kept of an object of the share fits
  module _ (owned : is_owned v.share o ≡ true) (book : BookValues) (kept : book ≡ slice_index_or v.books o new_book) where
    pub book_fits : BookFits v.config v.zone o settings past book
    book_fits = kept ∙ is.kept.each o settings at owned

    pub number_fits : CountsAreFew → book.sent + 2 < 2 ^ 64
    number_fits few = omega (arith, few v.config v.zone o settings past book book_fits, is.short)

    pub state_fits : (found : Found) → IsFound v.config v.zone o settings e past found → book.state ≡ found.before.state
    state_fits found finds = ap (λ (b : BookValues). b.state) book_fits ∙ sym (ap (λ (s : ObjectStatus). s.state) finds.before)

  -- what is found is within the bounds that deciding asks for
  module _ (found : Found) (finds : IsFound v.config v.zone o settings e past found) where
    pub moment_fits : found.moment ≤ last_moment
    moment_fits = omega (arith, finds.at, is.at, is.in_time)

    pub depth_fits : found.before.depth + 1 < 2 ^ 64
    depth_fits = omega (arith, ap (λ (s : ObjectStatus). s.depth) finds.before, depth_few o past, is.short)

  -- an event that attempts its problem again leaves it a problem
  pub repeats_fits : (found : Found) → IsFound v.config v.zone o settings e past found → RepeatsRun
      → found.repeats ≡ true → is_problem_state found.before.state ≡ true → is_problem_state (hard_after o found.event found.before.state) ≡ true
  repeats_fits found finds run again runs =
      let state : found.before.state ≡ hard o past = ap (λ (s : ObjectStatus). s.state) finds.before in
      ap (λ (k : EventKind). is_problem_state (hard_after o k found.before.state)) finds.event
      ∙ ap (λ (s : State). is_problem_state (hard_after o e.kind s)) state
      ∙ run v.config o e.kind past (sym finds.repeats ∙ again) (ap is_problem_state (sym state) ∙ runs)

  -- its entries don't tell whether a notice counts
  entries_heard : (heard : Bool) (outcome : Outcome)
      → outcome_entries v.config v.zone o settings (length past) outcome ≡ outcome_entries v.config v.zone o settings (length past) (with_heard heard outcome)
  entries_heard heard Nothing = refl
  entries_heard heard (Sent k s n t gap reach) = refl
  entries_heard heard (Suppressed k s n t why) = refl

  -- the entries of the outcome are the object's
  pub entries_are : (heard : Bool) (outcome : Outcome) → outcome_at v.config v.zone o settings e past ≡ with_heard heard outcome
      → outcome_entries v.config v.zone o settings v.context.number outcome ≡ object_entries v.config v.zone e past o
  entries_are heard outcome same =
      ap (λ (n : ℕ). outcome_entries v.config v.zone o settings n outcome) is.number
      ∙ entries_heard heard outcome
      ∙ ap (outcome_entries v.config v.zone o settings (length past)) (sym same)
      ∙ sym (ap (λ (found : Option Object). option_map_or (λ object. outcome_entries v.config v.zone o object (length past) (outcome_at v.config v.zone o object e past)) found []) at)

  -- the new book is the object's
  pub book_is : (i : ObjectId) (book : BookValues) → i.0 ≡ o → BookFits v.config v.zone o settings (e ∷ past) book
      → (let new : NewBook = record { object = i; book = book } in new ∷ []) ≡ book_after v.config v.zone e past o
  book_is i book number fits =
      ap (λ (n : ℕ). let new : NewBook = record { object = record { 0 = n }; book = book } in new ∷ []) number
      ∙ ap (λ (b : BookValues). let new : NewBook = record { object = record { 0 = o }; book = b } in new ∷ []) fits
      ∙ sym (ap (λ (found : Option Object). option_map_or (λ object. let new : NewBook = record { object = record { 0 = o }; book = book_of v.config v.zone o object (e ∷ past) } in new ∷ []) found []) at)

-- the book of an object, as it is read
pub book_read : (books : List BookValues) (o i : ℕ) (d : BookValues) → i ≡ o → o < length books → get_or books i d ≡ slice_index_or books o new_book
book_read books o i d place within = ap (λ (k : ℕ). get_or books k d) place ∙ get_or_default books o d new_book within

-- ---- all objects of the share

either : (a b : Bool) → b ≡ true → (a || b) ≡ true
either true b is = refl
either false b is = is

neither : (a b : Bool) → a ≡ false → b ≡ false → (a || b) ≡ false
neither true b known none = known
neither false b known none = none

-- the object that an event names is touched by it
pub named_touched : (v : Values) (e : Event) (past : List Event) → IsAt v e past → (p : ObjectId) (settings : Object) → named_by v.context.kind ≡ Some p
    → is_touched v.config v.zone e past p.0 settings ≡ true
named_touched v e past is p settings named =
    either (repeats v.config p.0 e.kind past) (touches p.0 e.kind (book_of v.config v.zone p.0 settings past).due (moment (e ∷ past)))
    (touches_own e.kind p (sym (ap named_by is.says) ∙ named) (book_of v.config v.zone p.0 settings past).due (moment (e ∷ past)))

-- and so is one whose problem it attempts again
repeated_touched : (v : Values) (e : Event) (past : List Event) (o : ℕ) (settings : Object) → repeats v.config o e.kind past ≡ true
    → is_touched v.config v.zone e past o settings ≡ true
repeated_touched v e past o settings again =
    ap (λ (b : Bool). b || touches o e.kind (book_of v.config v.zone o settings past).due (moment (e ∷ past))) again

-- the host of a service is there, and another object
other_host : (c : Config) (h p : ℕ) (service : Object) (host : ObjectId) → IsAccepted c → slice_get c.objects p ≡ Some service → service.host ≡ Some host → host.0 ≡ h
    → (h < length c.objects) × (h ≢ p)
other_host c h p service host accepted at is same =
    let here : IsHost c host.0 = subst (λ (found : Option ObjectId). IfSome found (λ x. IsHost c x.0)) is (All-slice_get (ObjectFits c) c.objects p service accepted.objects at).host in (
      subst (λ (n : ℕ). n < length c.objects) same (slice_get_within c.objects host.0 here.0 here.1),
      λ e. false≢true (ap is_some (sym here.2) ∙ ap (λ (x : Object). is_some x.host) (same_Some here.0 service (sym here.1 ∙ ap (slice_get c.objects) (same ∙ e) ∙ at)) ∙ ap is_some is),
    )

repeats_other : (c : Config) (h : ℕ) (k : EventKind) (past : List Event) (p : ObjectId) → IsAccepted c → named_by k ≡ Some p → repeats c h k past ≡ true
    → (h < length c.objects) × (h ≢ p.0)
repeats_other c h event.Clock past p accepted named again = cc
repeats_other c h (event.Program on) past p accepted named again = cc
repeats_other c h (event.Hard q s) past p accepted named again =
    by_service (slice_get c.objects q.0) refl (and_parts c.choices.host_repeats _ (and_parts _ (is_problem_state s) (and_parts _ (same_state s (hard q.0 past)) again).0).0).1
  where
    by_host : (service : Object) → slice_get c.objects q.0 ≡ Some service → (found : Option ObjectId) → service.host ≡ found
        → elim found as (λ _. Bool) [ None ↦ false | Some host ↦ host.0 == h ] ≡ true → (h < length c.objects) × (h ≢ p.0)
    by_host service at None is so = absurd (false≢true so)
    by_host service at (Some host) is so =
        subst (λ (i : ℕ). (h < length c.objects) × (h ≢ i)) (ap (λ (x : ObjectId). x.0) (same_Some q p named))
        (other_host c h q.0 service host accepted at is (eqb-true host.0 h so))

    by_service : (found : Option Object) → slice_get c.objects q.0 ≡ found
        → elim found as (λ _. Bool) [ None ↦ false | Some service ↦ elim service.host as (λ _. Bool) [ None ↦ false | Some host ↦ host.0 == h ] ] ≡ true
        → (h < length c.objects) × (h ≢ p.0)
    by_service None at so = absurd (false≢true so)
    by_service (Some service) at so = by_host service at service.host refl so
repeats_other c h (event.Downtime q change) past p accepted named again = cc
repeats_other c h (event.Flapping q starts) past p accepted named again = cc
repeats_other c h (event.Ack q ack) past p accepted named again = cc
repeats_other c h (event.AckRemoved q) past p accepted named again = cc
repeats_other c h (event.OwnSwitch q on) past p accepted named again = cc

-- an event that gives no hard state attempts no problem again
pub none_again : (c : Config) (k : EventKind) (past : List Event) → hard_by k ≡ None → (o : ℕ) → repeats c o k past ≡ false
none_again c event.Clock past none o = refl
none_again c (event.Program on) past none o = refl
none_again c (event.Hard p s) past none o = cc
none_again c (event.Downtime p change) past none o = refl
none_again c (event.Flapping p starts) past none o = refl
none_again c (event.Ack p ack) past none o = refl
none_again c (event.AckRemoved p) past none o = refl
none_again c (event.OwnSwitch p on) past none o = refl

module _ (laws : UntouchedFit) (v : Values) (e : Event) (past : List Event) (is : IsAt v e past) where
  names_is : (p : ObjectId) → named_by v.context.kind ≡ Some p → named_by e.kind ≡ Some p
  names_is p named = sym (ap named_by is.says) ∙ named

  -- an event that names an object touches no other but one whose problem it attempts again
  quiet : (p : ObjectId) → named_by e.kind ≡ Some p → (o : ℕ) → o ≢ p.0 → repeats v.config o e.kind past ≡ false → (settings : Object) → is_touched v.config v.zone e past o settings ≡ false
  quiet p names o ne none settings =
      neither (repeats v.config o e.kind past) (touches o e.kind (book_of v.config v.zone o settings past).due (moment (e ∷ past))) none
      (touches_other e.kind p names o ne (book_of v.config v.zone o settings past).due (moment (e ∷ past)))

  -- one that attempts no problem again gives entries and books of the object alone that it names
  pub named_entries : (p : ObjectId) → named_by v.context.kind ≡ Some p → ((o : ℕ) → repeats v.config o e.kind past ≡ false)
      → share_entries v.config v.zone v.share e past ≡ cond (is_owned v.share p.0) (object_entries v.config v.zone e past p.0) []
  named_entries p named none =
      let names : named_by e.kind ≡ Some p = names_is p named in
      flat_one (object_entries v.config v.zone e past) (is_owned v.share) (length v.config.objects) p.0 (named_within v.config e.kind is.proper.kind p names)
      (λ o below ne. no_entries laws v.config v.zone e past o (λ settings at. quiet p names o ne (none o) settings))

  pub named_books : (p : ObjectId) → named_by v.context.kind ≡ Some p → ((o : ℕ) → repeats v.config o e.kind past ≡ false)
      → share_books v.config v.zone v.share e past ≡ cond (is_owned v.share p.0) (new_books v.config v.zone e past p.0) []
  named_books p named none =
      let names : named_by e.kind ≡ Some p = names_is p named in
      flat_one (new_books v.config v.zone e past) (is_owned v.share) (length v.config.objects) p.0 (named_within v.config e.kind is.proper.kind p names)
      (λ o below ne. no_books laws v.config v.zone e past o (λ settings at. quiet p names o ne (none o) settings))

  -- one that attempts the problem of a host again
  module _ (p h : ObjectId) (named : named_by v.context.kind ≡ Some p) (again : (o : ℕ) → repeats v.config o e.kind past ≡ (h.0 == o)) where
    host_again : repeats v.config h.0 e.kind past ≡ true
    host_again = again h.0 ∙ eq-eqb h.0 h.0 refl

    host_there : (h.0 < length v.config.objects) × (h.0 ≢ p.0)
    host_there = repeats_other v.config h.0 e.kind past p is.accepted (names_is p named) host_again

    not_again : (o : ℕ) → o ≢ h.0 → repeats v.config o e.kind past ≡ false
    not_again o ne = again o ∙ ne_eqb h.0 o (λ e'. ne (sym e'))

    module _ (first second : ObjectId) (are : ArePair h p (record { first = first; second = second })) where
      -- touches those two
      pub pair_touched : ((settings : Object) → is_touched v.config v.zone e past first.0 settings ≡ true) × ((settings : Object) → is_touched v.config v.zone e past second.0 settings ≡ true)
      pair_touched = elim are [
        | inl same ↦ (
          λ settings. rw same.0 (repeated_touched v e past h.0 settings host_again),
          λ settings. rw same.1 (named_touched v e past is p settings named),
        )
        | inr same ↦ (
          λ settings. rw same.0 (named_touched v e past is p settings named),
          λ settings. rw same.1 (repeated_touched v e past h.0 settings host_again),
        )
      ]

      -- which are there, and not one
      pub pair_within : first.0 ≤ second.0 → (first.0 < second.0) × ((first.0 < length v.config.objects) × (second.0 < length v.config.objects))
      pair_within order =
          let named_there : p.0 < length v.config.objects = named_within v.config e.kind is.proper.kind p (names_is p named) in
          elim are [
            | inl same ↦
                let least : h.0 ≤ p.0 = rw (same.0, same.1) at order in
                let less : h.0 < p.0 = omega (arith, least, host_there.1) in
                rw (same.0, same.1) (less, (host_there.0, named_there))
            | inr same ↦
                let least : p.0 ≤ h.0 = rw (same.0, same.1) at order in
                let less : p.0 < h.0 = omega (arith, least, host_there.1) in
                rw (same.0, same.1) (less, (named_there, host_there.0))
          ]

      others_quiet : (o : ℕ) → o ≢ first.0 → o ≢ second.0 → (settings : Object) → is_touched v.config v.zone e past o settings ≡ false
      others_quiet o ne other settings = elim are [
        | inl same ↦ quiet p (names_is p named) o (λ e'. other (e' ∙ ap (λ (x : ObjectId). x.0) (sym same.1))) (not_again o (λ e'. ne (e' ∙ ap (λ (x : ObjectId). x.0) (sym same.0)))) settings
        | inr same ↦ quiet p (names_is p named) o (λ e'. ne (e' ∙ ap (λ (x : ObjectId). x.0) (sym same.0))) (not_again o (λ e'. other (e' ∙ ap (λ (x : ObjectId). x.0) (sym same.1)))) settings
      ]

      -- and gives entries and books of the two, in order
      pub pair_entries : first.0 < second.0 → second.0 < length v.config.objects
          → share_entries v.config v.zone v.share e past
          ≡ cond (is_owned v.share first.0) (object_entries v.config v.zone e past first.0) [] ++ cond (is_owned v.share second.0) (object_entries v.config v.zone e past second.0) []
      pair_entries order within =
          flat_two (object_entries v.config v.zone e past) (is_owned v.share) (length v.config.objects) first.0 second.0 order within
          (λ o below ne other. no_entries laws v.config v.zone e past o (λ settings at. others_quiet o ne other settings))

      pub pair_books : first.0 < second.0 → second.0 < length v.config.objects
          → share_books v.config v.zone v.share e past
          ≡ cond (is_owned v.share first.0) (new_books v.config v.zone e past first.0) [] ++ cond (is_owned v.share second.0) (new_books v.config v.zone e past second.0) []
      pair_books order within =
          flat_two (new_books v.config v.zone e past) (is_owned v.share) (length v.config.objects) first.0 second.0 order within
          (λ o below ne other. no_books laws v.config v.zone e past o (λ settings at. others_quiet o ne other settings))

  -- the program switch touches none
  pub switch_entries : (on : Bool) → v.context.kind ≡ event.Program on → share_entries v.config v.zone v.share e past ≡ []
  switch_entries on says =
      flat_none (object_entries v.config v.zone e past) (is_owned v.share) (length v.config.objects)
      (λ o below. no_entries laws v.config v.zone e past o (λ settings at.
      ap (λ (k : EventKind). repeats v.config o k past || touches o k (book_of v.config v.zone o settings past).due (moment (e ∷ past))) (sym is.says ∙ says)))

  pub switch_books : (on : Bool) → v.context.kind ≡ event.Program on → share_books v.config v.zone v.share e past ≡ []
  switch_books on says =
      flat_none (new_books v.config v.zone e past) (is_owned v.share) (length v.config.objects)
      (λ o below. no_books laws v.config v.zone e past o (λ settings at.
      ap (λ (k : EventKind). repeats v.config o k past || touches o k (book_of v.config v.zone o settings past).due (moment (e ∷ past))) (sym is.says ∙ says)))

-- ---- one object after the other

-- the same, read with statuses and dependencies that are the same
pub at_same : (r : Reading) (d d' : ℕ) (s s' : StatusLists) (e : Event) (past : List Event) → d' ≡ d → s' ≡ s → IsAt (values r d s) e past → IsAt (values r d' s') e past
at_same r d d' s s' e past same_d same_s is =
    subst (λ (x : ℕ). IsAt (values r x s') e past) (sym same_d) (subst (λ (x : StatusLists). IsAt (values r d x) e past) (sym same_s) is)

-- what is added to what was added
pub adds_more : (xs ys : List Entry) (bs cs : List NewBook) (first mid last : Staged) → Adds xs bs first mid → Adds ys cs mid last → Adds (xs ++ ys) (bs ++ cs) first last
adds_more xs ys bs cs first mid last a b = record {
  entries = b.entries ∙ ap (λ (zs : List Entry). zs ++ ys) a.entries ∙ append_assoc first.entries.items xs ys;
  books = b.books ∙ ap (λ (zs : List NewBook). zs ++ cs) a.books ∙ append_assoc first.books.items bs cs;
}

-- what is added where nothing was
pub first_entries : (xs : List Entry) (bs : List NewBook) (a b : Staged) → a.entries.items ≡ [] → Adds xs bs a b → b.entries.items ≡ xs
first_entries xs bs a b empty h = h.entries ∙ ap (λ (zs : List Entry). zs ++ xs) empty

pub first_books : (xs : List Entry) (bs : List NewBook) (a b : Staged) → a.books.items ≡ [] → Adds xs bs a b → b.books.items ≡ bs
first_books xs bs a b empty h = h.books ∙ ap (λ (zs : List NewBook). zs ++ bs) empty

-- nothing is added
pub adds_nothing : (a b : Staged) → b.entries.items ≡ a.entries.items → b.books.items ≡ a.books.items → Adds [] [] a b
adds_nothing a b entries books = record {
  entries = entries ∙ sym (append-nil a.entries.items);
  books = books ∙ sym (append-nil a.books.items);
}

-- the same lists, written otherwise
pub adds_same : (xs ys : List Entry) (bs cs : List NewBook) (a b : Staged) → xs ≡ ys → bs ≡ cs → Adds xs bs a b → Adds ys cs a b
adds_same xs ys bs cs a b entries books h = record {
  entries = h.entries ∙ ap (λ (zs : List Entry). a.entries.items ++ zs) entries;
  books = h.books ∙ ap (λ (zs : List NewBook). a.books.items ++ zs) books;
}

-- the objects of the share below a number, and the one of that number
pub adds_next : (f : ℕ → List Entry) (g : ℕ → List NewBook) (p : ℕ → Bool) (n : ℕ) (first mid last : Staged)
    → Adds (flat_below f p n) (flat_below g p n) first mid → Adds (cond (p n) (f n) []) (cond (p n) (g n) []) mid last
    → Adds (flat_below f p (n + 1)) (flat_below g p (n + 1)) first last
adds_next f g p n first mid last a b =
    adds_same _ _ _ _ first last
    (sym (flat_more f p n) ∙ ap (λ (m : ℕ). flat_below f p m) (sym (add-one n)))
    (sym (flat_more g p n) ∙ ap (λ (m : ℕ). flat_below g p m) (sym (add-one n)))
    (adds_more _ _ _ _ first mid last a b)
