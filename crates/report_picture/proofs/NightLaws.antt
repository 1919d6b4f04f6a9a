-- What a picture keeps of a feed is of the report's notices and suppressions.
use Rattle.std.proofs.Common.{◌≡◌, ℕ, ◌+◌, ◌<◌, min, Bool, true, false, cond, All, List, [], ◌∷◌, ◌++◌, length, map, nat_lt, slice_set, Option, None, Some, IfSome, Result, Ok, Err, refl, sym, ap, subst, ◌∙◌, append_assoc, arith}
use Rattle.std.specs.Option.{option_map_or}
use Rattle.std.proofs.lemmas.Bool.{ltb-false, ltb-true}
use Rattle.std.proofs.lemmas.Grind.{flat_map-append}
use Rattle.std.proofs.lemmas.List.{append-nil, length-append}
use Rattle.std.proofs.lemmas.List.Elements.{All-cons, All-head, All-nil, All-tail}
use Rattle.due_model.specs.declared.config.Config.{Config}
use Rattle.due_model.specs.declared.config.ObjectId.{ObjectId}
use Rattle.due_model.specs.declared.event.Event.{Event}
use Rattle.due_model.specs.declared.event.EventKind.{EventKind}
use Rattle.due_model.specs.declared.zone.Zone.{Zone}
use Rattle.event_feed.specs.declared.fault.FeedFault.{FeedFault}
use Rattle.event_feed.specs.declared.fault.FeedFault.TheVariants.{Ended}
use Rattle.event_feed.specs.claims.Feed.{Answer}
use Rattle.line_forms.specs.declared.report_line.ReportLine.{ReportLine}
use Rattle.line_forms.specs.declared.report_line.ReportLine.TheVariants.{Decided}
use Rattle.messages.specs.declared.entries.Entry.{Entry}
use Rattle.messages.specs.claims.Entries.{event_entries}
use Rattle.night_marks.specs.declared.conditions.Change.{Change}
use Rattle.night_marks.specs.declared.conditions.Condition.{Condition}
use Rattle.night_marks.specs.declared.night.Night.{Night}
use Rattle.night_marks.specs.declared.night.Span.{Span}
use Rattle.night_marks.specs.Conditions.{condition_after, condition_at, event_object, is_drawn}
use Rattle.night_marks.specs.Kept.{AreFit, IsFitMark, KeepsThem, kept_change}
use Rattle.night_marks.specs.Night.{change_of, changed, heard_event, nothing_heard, span_after, told_entries, told_entry}
use Rattle.replay.specs.claims.Report.{is_ended, past_after}
use Rattle.report_telling.specs.Lines.{given_lines, lines_from, refusal_line}
use Rattle.report_picture.specs.Nights.{IsFitAnswer, IsFitEvent, KeepsOf, KeepsTheReport, entries_in, entry_in, night_given, night_on}

all_left : {X : Type 0} (P : X → Type 0) (xs ys : List X) → All P (xs ++ ys) → All P xs
all_left P [] ys h = All-nil P
all_left P (x ∷ xs) ys h = All-cons P x xs (All-head P x (xs ++ ys) h) (all_left P xs ys (All-tail P x (xs ++ ys) h))

all_right : {X : Type 0} (P : X → Type 0) (xs ys : List X) → All P (xs ++ ys) → All P ys
all_right P [] ys h = h
all_right P (x ∷ xs) ys h = all_right P xs ys (All-tail P x (xs ++ ys) h)

-- the lines of entries have those entries
entries_of : (entries : List Entry) → entries_in (map Decided entries) ≡ entries
entries_of [] = refl
entries_of (e ∷ entries) = ap (λ (rest : List Entry). e ∷ rest) (entries_of entries)

-- one more was told
counted : (told count : ℕ) (b : Bool) → nat_lt told 18446744073709551615 ≡ b → told ≡ min count 18446744073709551615 → cond b (told + 1) told ≡ min (count + 1) 18446744073709551615
counted told count true e h = omega (arith, ltb-true told 18446744073709551615 e, h)
counted told count false e h = omega (arith, ltb-false told 18446744073709551615 e, h)

last_fits : (span : Option Span) (moment : ℕ) → moment < 18446744073709551615 → IfSome span (λ s. s.last < 18446744073709551615) → (span_after span moment).last < 18446744073709551615
last_fits None moment h k = h
last_fits (Some span) moment h k =
    let last : span.last < 18446744073709551615 = k in
    omega (arith, h, last)

none_told : 0 ≡ min 0 18446744073709551615
none_told = omega arith

-- what is kept is of these entries
record Keeps (n : Night) (entries : List Entry) : Type 0 where
  are : KeepsOf n.kept n.told entries
  last : IfSome n.span (λ span. span.last < 18446744073709551615)

module _ (keeps : KeepsThem) where
  -- ---- an event

  drawn_kept : (n : Night) (entries : List Entry) (moment : ℕ) (o : ObjectId) (before now : Condition) → AreFit o moment → Keeps n entries → (b : Bool)
      → Keeps (cond b (record n { kept = kept_change n.kept (change_of moment o before now); conditions = slice_set n.conditions o.0 now }) (record n { conditions = slice_set n.conditions o.0 now })) entries
  drawn_kept n entries moment o before now fit h true =
      let change : Change = change_of moment o before now in record {
        are = record { changes = h.are.changes ++ change ∷ []; are = keeps.change n.kept entries h.are.changes change fit h.are.are; count = h.are.count };
        last = h.last;
      }
  drawn_kept n entries moment o before now fit h false = record { are = h.are; last = h.last }

  found_kept : (n : Night) (entries : List Entry) (k : EventKind) (moment : ℕ) → moment < 18446744073709551615 → Keeps n entries
      → (found : Option ObjectId) → ((o : ObjectId) → found ≡ Some o → o.0 < 65536) → Keeps (option_map_or (λ o. changed n k o moment) found n) entries
  found_kept n entries k moment fit h None small = h
  found_kept n entries k moment fit h (Some o) small =
      let before : Condition = condition_at n.conditions o.0 in
      let now : Condition = condition_after k o.0 before in
      drawn_kept n entries moment o before now (small o refl, fit) h (is_drawn before now)

  event_kept : (n : Night) (entries : List Entry) (e : Event) → IsFitEvent e → Keeps n entries → Keeps (heard_event n e) entries
  event_kept n entries e fit h =
      let last = last_fits n.span e.moment fit.moment h.last in
      let here : Keeps (record n { span = Some (span_after n.span e.moment) }) entries = record { are = h.are; last = last } in
      found_kept (record n { span = Some (span_after n.span e.moment) }) entries e.kind (span_after n.span e.moment).last last here (event_object e.kind) fit.object

  -- ---- what became of its messages

  entry_kept : (n : Night) (entries : List Entry) (e : Entry) → IsFitMark e → Keeps n entries → Keeps (told_entry n e) (entries ++ e ∷ [])
  entry_kept n entries e fit h = record {
    are = record {
      changes = h.are.changes;
      are = keeps.mark n.kept entries h.are.changes e fit h.are.are;
      count = counted n.told (length entries) (nat_lt n.told 18446744073709551615) refl h.are.count ∙ sym (ap (λ (k : ℕ). min k 18446744073709551615) (length-append entries (e ∷ [])));
    };
    last = h.last;
  }

  entries_kept : (n : Night) (before entries : List Entry) → All IsFitMark entries → Keeps n before → Keeps (told_entries n entries) (before ++ entries)
  entries_kept n before [] all h = subst (λ (xs : List Entry). Keeps n xs) (sym (append-nil before)) h
  entries_kept n before (e ∷ entries) all h =
      subst (λ (xs : List Entry). Keeps (told_entries (told_entry n e) entries) xs) (append_assoc before (e ∷ []) entries)
      (entries_kept (told_entry n e) (before ++ e ∷ []) entries (All-tail IsFitMark e entries all) (entry_kept n before e (All-head IsFitMark e entries all) h))

  -- ---- a line of the feed, and all of them

  given_kept : (c : Config) (zone : Zone) (past : List Event) (n : Night) (before : List Entry) (line : ℕ) (given : Result Event FeedFault) → ((e : Event) → given ≡ Ok e → IsFitEvent e)
      → All IsFitMark (entries_in (given_lines c zone past line given)) → Keeps n before → Keeps (night_given c zone past n given) (before ++ entries_in (given_lines c zone past line given))
  given_kept c zone past n before line (Ok e) fit all h =
      let entries : List Entry = event_entries c zone e past in
      let are : entries_in (map Decided entries) ≡ entries = entries_of entries in
      subst (λ (xs : List Entry). Keeps (told_entries (heard_event n e) entries) (before ++ xs)) (sym are)
      (entries_kept (heard_event n e) before entries (subst (λ (xs : List Entry). All IsFitMark xs) are all) (event_kept n before e (fit e refl) h))
  given_kept c zone past n before line (Err fault) fit all h = subst (λ (xs : List Entry). Keeps n xs) (sym (append-nil before)) h

  -- one line, and those after it
  one_more_kept : (n after : Night) (before : List Entry) (line given others : List ReportLine) (b : Bool) → entries_in line ≡ []
      → (All IsFitMark (entries_in given) → All IsFitMark (entries_in others) → Keeps after ((before ++ entries_in given) ++ entries_in others)) → Keeps n before
      → All IsFitMark (entries_in (cond b line given ++ cond b [] others))
      → Keeps (cond b n after) (before ++ entries_in (cond b line given ++ cond b [] others))
  one_more_kept n after before line given others true none on h all =
      subst (λ (xs : List Entry). Keeps n xs) (sym (append-nil before) ∙ ap (λ (xs : List Entry). before ++ xs) (sym (flat_map-append entry_in line [] ∙ append-nil (entries_in line) ∙ none))) h
  one_more_kept n after before line given others false none on h all =
      let both : entries_in (given ++ others) ≡ entries_in given ++ entries_in others = flat_map-append entry_in given others in
      let fit : All IsFitMark (entries_in given ++ entries_in others) = subst (λ (xs : List Entry). All IsFitMark xs) both all in
      subst (λ (xs : List Entry). Keeps after xs) (append_assoc before (entries_in given) (entries_in others) ∙ ap (λ (xs : List Entry). before ++ xs) (sym both))
      (on (all_left IsFitMark (entries_in given) (entries_in others) fit) (all_right IsFitMark (entries_in given) (entries_in others) fit))

  answers_kept : (c : Config) (zone : Zone) (past : List Event) (n : Night) (before : List Entry) (answers : List Answer) → All IsFitAnswer answers
      → All IsFitMark (entries_in (lines_from c zone past answers)) → Keeps n before → Keeps (night_on c zone past n answers) (before ++ entries_in (lines_from c zone past answers))
  answers_kept c zone past n before [] fit all h = subst (λ (xs : List Entry). Keeps n xs) (sym (append-nil before)) h
  answers_kept c zone past n before (answer ∷ answers) fit all h =
      let given : List ReportLine = given_lines c zone past answer.line answer.given in
      one_more_kept n (night_on c zone (past_after past answer.given) (night_given c zone past n answer.given) answers) before (refusal_line answer.line Ended ∷ []) given
      (lines_from c zone (past_after past answer.given) answers) (is_ended past answer.given) refl
      (λ first others. answers_kept c zone (past_after past answer.given) (night_given c zone past n answer.given) (before ++ entries_in given) answers (All-tail IsFitAnswer answer answers fit) others
      (given_kept c zone past n before answer.line answer.given (All-head IsFitAnswer answer answers fit) first h))
      h all

  pub keeps_the_report : KeepsTheReport
  keeps_the_report c zone given fit all =
      (answers_kept c zone [] nothing_heard [] given fit all (record { are = record { changes = []; are = keeps.first; count = none_told }; last = tt })).are
