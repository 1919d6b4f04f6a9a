-- What a feed gives by one configuration, from what it gives by another: the same lines answer, and end it alike.
use Rattle.std.proofs.Common.{◌≡◌, ℕ, zero, suc, ◌+◌, ◌<◌, true, false, cond, ltb, eqb, List, [], ◌∷◌, ◌++◌, length, replicate, take, Option, None, Some, Bool, IfSome, IsSome, Result, Ok, Err, refl, sym, ap, ap₂, subst, ◌∙◌, inl, inr, arith, one-add}
use Rattle.std.specs.List.{prefix_len}
use Rattle.std.specs.Prelude.{is_some}
use Rattle.std.proofs.lemmas.Bool.{ne_eqb, true≢false}
use Rattle.std.proofs.lemmas.List.Elements.{All-nil}
use Rattle.due_model.specs.declared.config.Config.{Config}
use Rattle.due_model.specs.declared.config.Object.{Object}
use Rattle.due_model.specs.declared.event.Event.{Event}
use Rattle.event_feed.specs.declared.fault.FeedFault.{FeedFault}
use Rattle.event_feed.specs.declared.fault.FeedFault.TheVariants.{BadStamp, UnknownKind, UnknownObject, BadState, LineTooLong, NotUtf8, Ahead, Cut, Read, NoMemory, Ended}
use Rattle.event_feed.specs.declared.fault.RefusedLine.{RefusedLine}
use Rattle.event_feed.specs.claims.Fault.{stop_fault}
use Rattle.event_feed.specs.claims.Feed.{Answer, AreFromLine, AreGiven, AreGivenBy, ComesNext, FaultFits, Feed, GivesEvent, GivesFault, GivesNone, RefusesLineWithin, answers, ends_feed, is_stopped, moment_after, no_line, refusal, text_reading}
use Rattle.event_feed.specs.Feed.{AnswersNext, AnswersNone, FaultComesTo, PassesLines, answers_from}
use Rattle.event_feed.specs.FeedLaws.{event_passes, fault_last, fault_next, fault_passes, known_weaker, none_given}
use Rattle.text_lines.specs.declared.line_reader.Stop.{Stop}
use Rattle.text_lines.specs.declared.line_reader.Stop.TheVariants.{InputEnded, CutLine, ReaderFailed, TooManyCalls, TooManyBytes, TooManyLines}
use Rattle.text_lines.specs.claims.Lines.{Known, is_newline, pieces}
use Rattle.lemmas.proofs.Lists.{HasFirst, slice_split-first}
use Rattle.paired_feed.specs.declared.paired.PairedLine.{PairedLine}
use Rattle.paired_feed.specs.Paired.{EndsPair, GivesPair, is_cut, other_reading, since}
use Rattle.paired_feed.proofs.TextFaults.{long_for_each, reads_on}

-- ---- the answers at the first piece

stopped : (objects : List Object) (from last : ℕ) (text : List ℕ) (others : List (List ℕ)) → is_stopped from text ≡ true
    → answers objects from last (text ∷ others) ≡ record { line = from + 1; given = Err Read } ∷ []
stopped objects from last text [] is = rw is refl
stopped objects from last text (next ∷ more) is = rw is refl

empty : (objects : List Object) (from last : ℕ) (others : List (List ℕ)) → HasFirst others → is_stopped from [] ≡ false
    → answers objects from last ([] ∷ others) ≡ answers objects (from + 1) last others
empty objects from last others first on = rw first.are (rw on refl)

text_next : (objects : List Object) (from last : ℕ) (text : List ℕ) (others : List (List ℕ)) → HasFirst others → is_stopped from text ≡ false → 0 < length text
    → answers objects from last (text ∷ others)
    ≡ record { line = from + 1; given = text_reading objects last text }
    ∷ answers objects (from + 1) (moment_after last (text_reading objects last text)) others
text_next objects from last text others first on some =
    let something : eqb (length text) 0 ≡ false = ne_eqb (length text) 0 (λ none. absurd (omega (arith, none, some))) in rw first.are (rw (on, something) refl)

-- an answer that doesn't end the feed isn't of a line at which the reading stops
goes_on : (objects : List Object) (from last : ℕ) (text : List ℕ) (others : List (List ℕ)) (answer : Answer) (more : List Answer)
    → answers objects from last (text ∷ others) ≡ answer ∷ more → ends_feed answer.given ≡ false → is_stopped from text ≡ false
goes_on objects from last text others answer more e on = by (is_stopped from text) refl
  where
    by : (b : Bool) → is_stopped from text ≡ b → is_stopped from text ≡ false
    by false is = is
    by true is =
        let here : record { line = from + 1; given = Err Read } ∷ [] ≡ answer ∷ more = sym (stopped objects from last text others is) ∙ e in
        let same : record { line = from + 1; given = Err Read } ≡ answer = cc in
        absurd (true≢false (ap (λ (a : Answer). ends_feed a.given) same ∙ on))

replicate-first : (n : ℕ) (text : List ℕ) (others : List (List ℕ)) → HasFirst (replicate n [] ++ text ∷ others)
replicate-first zero text others = record { first = text; others = others; are = refl }
replicate-first (suc n) text others = record { first = []; others = replicate n [] ++ text ∷ others; are = refl }

-- By another configuration the line of a text gives what that says of its objects.
pub other_next : (a b : List Object) (from before last : ℕ) (n : ℕ) (text : List ℕ) (others : List (List ℕ)) (answer : Answer) (more : List Answer)
    → HasFirst others → 0 < length text → ends_feed answer.given ≡ false
    → answers a from before (replicate n [] ++ text ∷ others) ≡ answer ∷ more
    → answers b from last (replicate n [] ++ text ∷ others)
    ≡ record { line = from + n + 1; given = text_reading b last text }
    ∷ answers b (from + n + 1) (moment_after last (text_reading b last text)) others
other_next a b from before last zero text others answer more first some on e =
    let number : from + 0 + 1 ≡ from + 1 = omega arith in
    rw number (text_next b from last text others first (goes_on a from before text others answer more e on) some)
other_next a b from before last (suc n) text others answer more first some on e =
    let rest : List (List ℕ) = replicate n [] ++ text ∷ others in
    let is : HasFirst rest = replicate-first n text others in
    let running : is_stopped from [] ≡ false = goes_on a from before [] rest answer more e on in
    let number : from + suc n + 1 ≡ from + 1 + n + 1 = omega arith in
    empty b from last rest is running
    ∙ rw number (other_next a b (from + 1) before last n text others answer more first some on (sym (empty a from before rest is running) ∙ e))

-- ---- a feed that gives nothing more

none_at : (a b : List Object) (from before last : ℕ) (texts : List (List ℕ)) → answers a from before texts ≡ [] → answers b from last texts ≡ []
none_at a b from before last [] e = refl
none_at a b from before last (text ∷ []) e = e
none_at a b from before last (text ∷ next ∷ more) e = by (is_stopped from text) (eqb (length text) 0) (none_at a b (from + 1) before last (next ∷ more)) e
  where
    by : (s z : Bool) → (answers a (from + 1) before (next ∷ more) ≡ [] → answers b (from + 1) last (next ∷ more) ≡ [])
        → cond s (record { line = from + 1; given = Err Read } ∷ []) (cond z (answers a (from + 1) before (next ∷ more))
        (record { line = from + 1; given = text_reading a before text } ∷ answers a (from + 1) (moment_after before (text_reading a before text)) (next ∷ more))) ≡ []
        → cond s (record { line = from + 1; given = Err Read } ∷ []) (cond z (answers b (from + 1) last (next ∷ more))
        (record { line = from + 1; given = text_reading b last text } ∷ answers b (from + 1) (moment_after last (text_reading b last text)) (next ∷ more))) ≡ []
    by true z skipped e = e
    by false true skipped e = skipped e
    by false false skipped e = absurd (cc)

-- ---- a feed that ends at a line

-- the only answer, which ends the feed, is the other's too
last_at : (a b : List Object) (from before last : ℕ) (texts : List (List ℕ)) (answer : Answer) → ends_feed answer.given ≡ true
    → answer ∷ [] ≡ answers a from before texts → answer ∷ [] ≡ answers b from last texts
last_at a b from before last [] answer ends e = e
last_at a b from before last (text ∷ []) answer ends e = e
last_at a b from before last (text ∷ next ∷ more) answer ends e = by (is_stopped from text) (eqb (length text) 0) (last_at a b (from + 1) before last (next ∷ more) answer ends) e
  where
    by : (s z : Bool) → (answer ∷ [] ≡ answers a (from + 1) before (next ∷ more) → answer ∷ [] ≡ answers b (from + 1) last (next ∷ more))
        → answer ∷ [] ≡ cond s (record { line = from + 1; given = Err Read } ∷ []) (cond z (answers a (from + 1) before (next ∷ more))
        (record { line = from + 1; given = text_reading a before text } ∷ answers a (from + 1) (moment_after before (text_reading a before text)) (next ∷ more)))
        → answer ∷ [] ≡ cond s (record { line = from + 1; given = Err Read } ∷ []) (cond z (answers b (from + 1) last (next ∷ more))
        (record { line = from + 1; given = text_reading b last text } ∷ answers b (from + 1) (moment_after last (text_reading b last text)) (next ∷ more)))
    by true z skipped e = e
    by false true skipped e = skipped e
    by false false skipped e =
        let same : answer ≡ record { line = from + 1; given = text_reading a before text } = cc in
        absurd (true≢false (sym ends ∙ ap (λ (x : Answer). ends_feed x.given) same ∙ reads_on a before text))

-- no answer of a later line is of the first
from_first : (b : Bool) (n n' : ℕ) (x y : Answer) (more more' : List Answer) → take (cond b (1 + n) 0) (x ∷ more) ≡ [] → take (cond b (1 + n') 0) (y ∷ more') ≡ []
from_first true n n' x y more more' e = let some : take (suc n) (x ∷ more) ≡ [] = rw one-add at e in absurd (cc)
from_first false n n' x y more more' e = refl

later_at : (a b : List Object) (from before last : ℕ) (texts : List (List ℕ)) (line : ℕ) → AreFromLine line (answers a from before texts) → AreFromLine line (answers b from last texts)
later_at a b from before last [] line h = h
later_at a b from before last (text ∷ []) line h = h
later_at a b from before last (text ∷ next ∷ more) line h = by (is_stopped from text) (eqb (length text) 0) (later_at a b (from + 1) before last (next ∷ more) line) h
  where
    by : (s z : Bool) → (AreFromLine line (answers a (from + 1) before (next ∷ more)) → AreFromLine line (answers b (from + 1) last (next ∷ more)))
        → AreFromLine line (cond s (record { line = from + 1; given = Err Read } ∷ []) (cond z (answers a (from + 1) before (next ∷ more))
        (record { line = from + 1; given = text_reading a before text } ∷ answers a (from + 1) (moment_after before (text_reading a before text)) (next ∷ more))))
        → AreFromLine line (cond s (record { line = from + 1; given = Err Read } ∷ []) (cond z (answers b (from + 1) last (next ∷ more))
        (record { line = from + 1; given = text_reading b last text } ∷ answers b (from + 1) (moment_after last (text_reading b last text)) (next ∷ more))))
    by true z skipped h = h
    by false true skipped h = skipped h
    by false false skipped h =
        from_first (ltb (from + 1) line)
        (prefix_len (λ (answer : Answer). ltb answer.line line) (answers a (from + 1) (moment_after before (text_reading a before text)) (next ∷ more)))
        (prefix_len (λ (answer : Answer). ltb answer.line line) (answers b (from + 1) (moment_after last (text_reading b last text)) (next ∷ more)))
        (record { line = from + 1; given = text_reading a before text }) (record { line = from + 1; given = text_reading b last text })
        (answers a (from + 1) (moment_after before (text_reading a before text)) (next ∷ more))
        (answers b (from + 1) (moment_after last (text_reading b last text)) (next ∷ more)) h

-- before the only answer there is none
only : (front : List Answer) (answer last : Answer) → answer ∷ [] ≡ front ++ last ∷ [] → front ≡ []
only [] answer last e = refl
only (x ∷ []) answer last e = absurd (cc)
only (x ∷ y ∷ front) answer last e = absurd (cc)

-- the refusal of the line at which the feed ends is given by each
over_at : (can_fail : Bool) (a b : List Object) (from before last : ℕ) (texts : List (List ℕ)) (answer : Answer) → ends_feed answer.given ≡ true
    → AreGiven can_fail (answer ∷ []) (answers a from before texts) from texts → AreGiven can_fail (answer ∷ []) (answers b from last texts) from texts
over_at can_fail a b from before last texts answer ends (inl same) = inl (last_at a b from before last texts answer ends same)
over_at can_fail a b from before last texts answer ends (inr off) =
    let none : off.front ≡ [] = only off.front answer (record { line = off.line; given = Err Read }) off.whole in
    let all : answers a from before texts ≡ off.others = off.begins ∙ ap (λ (front : List Answer). front ++ off.others) none in
    inr (record {
      front = [];
      line = off.line;
      others = answers b from last texts;
      begins = refl;
      place = off.place;
      earlier = All-nil (λ (x : Answer). x.line < off.line);
      read_on = All-nil (λ (x : Answer). ends_feed x.given ≡ false);
      later = later_at a b from before last texts off.line (subst (AreFromLine off.line) (sym all) off.later);
      whole = off.whole ∙ ap (λ (front : List Answer). front ++ record { line = off.line; given = Err Read } ∷ []) none;
    })

-- ---- the same of a feed that is being read

over_by : (can_fail : Bool) (a b : List Object) (feed : Feed) (last : ℕ) (stop : Option Stop) (bytes : Option (List ℕ)) (answer : Answer) → stop ≡ None → feed.stop ≡ stop → ends_feed answer.given ≡ true
    → IfSome bytes (λ known. AreGiven can_fail (answer ∷ []) (answers_from a feed known) feed.line (pieces known))
    → IfSome bytes (λ known. AreGiven can_fail (answer ∷ []) (answers_from b (since feed last) known) feed.line (pieces known))
over_by can_fail a b feed last stop None answer none is ends h = tt
over_by can_fail a b feed last stop (Some known) answer none is ends h =
    let runs : feed.stop ≡ None = is ∙ none in
    let h' : AreGiven can_fail (answer ∷ []) (answers a feed.line feed.last (pieces known)) feed.line (pieces known) =
    subst (λ s. AreGiven can_fail (answer ∷ []) (cond (is_some s) [] (answers a feed.line feed.last (pieces known))) feed.line (pieces known)) runs h in
    subst (λ s. AreGiven can_fail (answer ∷ []) (cond (is_some s) [] (answers b feed.line last (pieces known))) feed.line (pieces known)) (sym runs)
    (over_at can_fail a b feed.line feed.last last (pieces known) answer ends h')

pub over_for_each : (can_fail : Bool) (a b : List Object) (feed : Feed) (last : ℕ) (answer : Answer) → feed.stop ≡ None → ends_feed answer.given ≡ true
    → AreGivenBy can_fail a feed (answer ∷ []) → AreGivenBy can_fail b (since feed last) (answer ∷ [])
over_for_each can_fail a b feed last answer none ends h = over_by can_fail a b feed last None feed.bytes answer refl none ends h

none_by : (can_fail : Bool) (a b : List Object) (feed new : Feed) (last : ℕ) (bytes rest : Option (List ℕ)) → feed.stop ≡ None
    → Known bytes rest (λ known after. answers_from a feed known ≡ [])
    → IfSome bytes (λ known. AreGiven can_fail [] (answers_from b (since feed last) known) feed.line (pieces known))
none_by can_fail a b feed new last None rest runs h = tt
none_by can_fail a b feed new last (Some known) None runs h = absurd h
none_by can_fail a b feed new last (Some known) (Some after) runs h =
    let h' : answers a feed.line feed.last (pieces known) ≡ [] = subst (λ s. cond (is_some s) [] (answers a feed.line feed.last (pieces known)) ≡ []) runs h in
    inl (sym (subst (λ s. cond (is_some s) [] (answers b feed.line last (pieces known)) ≡ []) (sym runs) (none_at a b feed.line feed.last last (pieces known) h')))

pub none_for_each : (can_fail : Bool) (a b : List Object) (feed new : Feed) (last : ℕ) → feed.stop ≡ None → AnswersNone a feed new → AreGivenBy can_fail b (since feed last) []
none_for_each can_fail a b feed new last runs h = none_by can_fail a b feed new last feed.bytes new.bytes runs h

-- ---- the line that both read

-- the next line of these bytes is one of a text that gives this by the second
record Placed (b : List Object) (last from : ℕ) (known : List ℕ) (line : ℕ) (given : Result Event FeedFault) (after : List ℕ) : Type 0 where
  pub text : List ℕ
  pub next : ComesNext from (pieces known) line text (pieces after)
  pub some : 0 < length text
  pub says : text_reading b last text ≡ given

next_at : (a b : List Object) (old new : Feed) (last line : ℕ) (answer : Answer) (given : Result Event FeedFault) (known after : List ℕ) → old.stop ≡ None → new.stop ≡ None → new.line ≡ line
    → ends_feed answer.given ≡ false → answers_from a old known ≡ answer ∷ answers_from a new after → Placed b last old.line known line given after
    → answers_from b (since old last) known ≡ record { line = line; given = given } ∷ answers_from b (since new (moment_after last given)) after
next_at a b old new last line answer given known after runs goes_on number on e place =
    let e' : answers a old.line old.last (pieces known) ≡ answer ∷ answers_from a new after =
    subst (λ s. cond (is_some s) [] (answers a old.line old.last (pieces known)) ≡ answer ∷ answers_from a new after) runs e in
    let at : answers a old.line old.last (replicate place.next.empty [] ++ place.text ∷ pieces after) ≡ answer ∷ answers_from a new after =
    ap (λ (texts : List (List ℕ)). answers a old.line old.last texts) (sym place.next.are) ∙ e' in
    let said : answers b old.line last (pieces known)
    ≡ record { line = old.line + place.next.empty + 1; given = text_reading b last place.text }
    ∷ answers b (old.line + place.next.empty + 1) (moment_after last (text_reading b last place.text)) (pieces after) =
    ap (λ (texts : List (List ℕ)). answers b old.line last texts) place.next.are
    ∙ other_next a b old.line old.last last place.next.empty place.text (pieces after) answer (answers_from a new after) (slice_split-first is_newline after) place.some on at in
    let next : answers b old.line last (pieces known) ≡ record { line = line; given = given } ∷ answers b line (moment_after last given) (pieces after) =
    said
    ∙ ap (λ n. record { line = n; given = text_reading b last place.text } ∷ answers b n (moment_after last (text_reading b last place.text)) (pieces after)) (sym place.next.number)
    ∙ ap (λ (r : Result Event FeedFault). record { line = line; given = r } ∷ answers b line (moment_after last r) (pieces after)) place.says in
    let start : answers_from b (since old last) known ≡ answers b old.line last (pieces known) =
    ap (λ s. cond (is_some s) [] (answers b old.line last (pieces known))) runs in
    let end : answers b line (moment_after last given) (pieces after) ≡ answers_from b (since new (moment_after last given)) after =
    ap (λ n. answers b n (moment_after last given) (pieces after)) (sym number)
    ∙ sym (ap (λ s. cond (is_some s) [] (answers b new.line (moment_after last given) (pieces after))) goes_on) in
    start ∙ next ∙ ap (λ (more : List Answer). record { line = line; given = given } ∷ more) end

next_by : (a b : List Object) (old new : Feed) (last line : ℕ) (answer : Answer) (given : Result Event FeedFault) (bytes rest : Option (List ℕ)) → old.stop ≡ None → new.stop ≡ None → new.line ≡ line
    → ends_feed answer.given ≡ false
    → Known bytes rest (λ known after. answers_from a old known ≡ answer ∷ answers_from a new after)
    → Known bytes rest (λ known after. Placed b last old.line known line given after)
    → Known bytes rest (λ known after. answers_from b (since old last) known ≡ record { line = line; given = given } ∷ answers_from b (since new (moment_after last given)) after)
next_by a b old new last line answer given None rest runs goes_on number on e place = tt
next_by a b old new last line answer given (Some known) None runs goes_on number on e place = absurd e
next_by a b old new last line answer given (Some known) (Some after) runs goes_on number on e place =
    next_at a b old new last line answer given known after runs goes_on number on e place

abbrev answer_of : ℕ → Result Event FeedFault → Answer
answer_of line given = record { line = line; given = given }

answer_same : (line line' : ℕ) (given given' : Result Event FeedFault) → line ≡ line' → given ≡ given' → answer_of line given ≡ answer_of line' given'
answer_same line line' given given' e f = ap₂ answer_of e f

-- both answers of a line
both : (a b : Config) (old new : Feed) (last last' : ℕ) (first second : Result Event FeedFault) (pair : PairedLine) → old.stop ≡ None → new.stop ≡ None → old.line < new.line
    → AnswersNext a.objects old (record { line = new.line; given = first }) new → PassesLines old new → ends_feed first ≡ false → ends_feed second ≡ false
    → Known old.bytes new.bytes (λ known after. Placed b.objects last old.line known new.line second after)
    → pair.line ≡ new.line → pair.first ≡ first → pair.second ≡ second → last' ≡ moment_after last pair.second
    → GivesPair a b old last pair new last'
both a b old new last last' first second pair runs goes_on later answers lines on on' place number is is' moves =
    let answer : Answer = record { line = new.line; given = first } in
    let next : AnswersNext b.objects (since old last) (record { line = new.line; given = second }) (since new (moment_after last second)) =
    next_by a.objects b.objects old new last new.line answer second old.bytes new.bytes runs goes_on refl on answers place in
    record {
      first = subst (λ (x : Answer). AnswersNext a.objects old x new) (sym (answer_same pair.line new.line pair.first first number is)) answers;
      second =
          subst (λ (x : Answer). AnswersNext b.objects (since old last) x (since new last')) (sym (answer_same pair.line new.line pair.second second number is'))
          (subst (λ (l : ℕ). AnswersNext b.objects (since old last) (record { line = new.line; given = second }) (since new l)) (sym (moves ∙ ap (moment_after last) is')) next);
      later = later;
      number = number;
      lines = lines;
      read_on_first = ap ends_feed is ∙ on;
      read_on_second = ap ends_feed is' ∙ on';
      goes_on = goes_on;
    }

-- of an event
pub event_pair : (a b : Config) (old new : Feed) (last last' : ℕ) (event : Event) (pair : PairedLine) → old.stop ≡ None → GivesEvent a old event new
    → pair.line ≡ new.line → pair.first ≡ Ok event → pair.second ≡ other_reading b.objects last new.text (Ok event) → last' ≡ moment_after last pair.second
    → GivesPair a b old last pair new last'
event_pair a b old new last last' event pair runs gives number is is' moves =
    both a b old new last last' (Ok event) (text_reading b.objects last new.text) pair runs gives.goes_on gives.line gives.answers (event_passes a old event new gives) refl
    (reads_on b.objects last new.text)
    (known_weaker old.bytes new.bytes _ _ gives.place (λ known after h. record { text = new.text; next = h.0; some = h.1; says = refl }))
    number is is' moves

-- a line that the first refuses
kept_placed : (b : List Object) (last from : ℕ) (known : List ℕ) (line : ℕ) (text kept after : List ℕ) → ComesNext from (pieces known) line text (pieces after) → 0 < length text → kept ≡ text
    → Placed b last from known line (text_reading b last kept) after
kept_placed b last from known line text kept after next some e = record { text = text; next = next; some = some; says = ap (λ (t : List ℕ). text_reading b last t) (sym e) }

refusal_placed : (a b : List Object) (last from : ℕ) (known : List ℕ) (line : ℕ) (fault : FeedFault) (kept after : List ℕ) → RefusesLineWithin no_line a from known (record { line = line; fault = fault }) kept after
    → Placed b last from known line (other_reading b last kept (Err fault)) after
refusal_placed a b last from known line LineTooLong kept after h = record { text = h.text; next = h.next; some = h.some; says = long_for_each a b last h.text h.reading }
refusal_placed a b last from known line BadStamp kept after h = kept_placed b last from known line h.text kept after h.next h.some (h.stays (λ e. absurd (cc)))
refusal_placed a b last from known line UnknownKind kept after h = kept_placed b last from known line h.text kept after h.next h.some (h.stays (λ e. absurd (cc)))
refusal_placed a b last from known line UnknownObject kept after h = kept_placed b last from known line h.text kept after h.next h.some (h.stays (λ e. absurd (cc)))
refusal_placed a b last from known line BadState kept after h = kept_placed b last from known line h.text kept after h.next h.some (h.stays (λ e. absurd (cc)))
refusal_placed a b last from known line NotUtf8 kept after h = kept_placed b last from known line h.text kept after h.next h.some (h.stays (λ e. absurd (cc)))
refusal_placed a b last from known line Ahead kept after h = kept_placed b last from known line h.text kept after h.next h.some (h.stays (λ e. absurd (cc)))
refusal_placed a b last from known line Cut kept after h = kept_placed b last from known line h.text kept after h.next h.some (h.stays (λ e. absurd (cc)))
refusal_placed a b last from known line Read kept after h = kept_placed b last from known line h.text kept after h.next h.some (h.stays (λ e. absurd (cc)))
refusal_placed a b last from known line NoMemory kept after h = kept_placed b last from known line h.text kept after h.next h.some (h.stays (λ e. absurd (cc)))
refusal_placed a b last from known line Ended kept after h = kept_placed b last from known line h.text kept after h.next h.some (h.stays (λ e. absurd (cc)))

-- which ends no feed by the second either
other_on : (b : List Object) (last : ℕ) (kept : List ℕ) (fault : FeedFault) → ends_feed (other_reading b last kept (Err fault)) ≡ false
other_on b last kept LineTooLong = refl
other_on b last kept BadStamp = reads_on b last kept
other_on b last kept UnknownKind = reads_on b last kept
other_on b last kept UnknownObject = reads_on b last kept
other_on b last kept BadState = reads_on b last kept
other_on b last kept NotUtf8 = reads_on b last kept
other_on b last kept Ahead = reads_on b last kept
other_on b last kept Cut = reads_on b last kept
other_on b last kept Read = reads_on b last kept
other_on b last kept NoMemory = reads_on b last kept
other_on b last kept Ended = reads_on b last kept

pub fault_pair : (a b : Config) (old new : Feed) (last last' : ℕ) (fault : RefusedLine) (pair : PairedLine) → old.stop ≡ None → new.stop ≡ None → GivesFault a.objects old fault new
    → pair.line ≡ new.line → pair.first ≡ Err fault.fault → pair.second ≡ other_reading b.objects last new.text (Err fault.fault) → last' ≡ moment_after last pair.second
    → GivesPair a b old last pair new last'
fault_pair a b old new last last' fault pair runs goes_on gives number is is' moves =
    let next = fault_next a.objects old new fault goes_on gives in
    let place : FaultComesTo a.objects old fault None new = subst (λ s. FaultComesTo a.objects old fault s new) goes_on gives.place in
    both a b old new last last' (Err fault.fault) (other_reading b.objects last new.text (Err fault.fault)) pair runs goes_on gives.line
    (subst (λ (n : ℕ). AnswersNext a.objects old (record { line = n; given = Err fault.fault }) new) gives.number next.0)
    (fault_passes a.objects old fault new goes_on gives) next.1 (other_on b.objects last new.text fault.fault)
    (known_weaker old.bytes new.bytes _ _ place
    (λ known after h. subst (λ (n : ℕ). Placed b.objects last old.line known n (other_reading b.objects last new.text (Err fault.fault)) after) gives.number
    (refusal_placed a.objects b.objects last old.line known fault.line fault.fault new.text after h)))
    number is is' moves

-- ---- the end

cut_by : (stop : Stop) (fault : FeedFault) → stop_fault stop ≡ Some fault → is_cut (Some stop) ≡ true
cut_by InputEnded fault e = absurd (cc)
cut_by CutLine fault e = refl
cut_by ReaderFailed fault e = refl
cut_by TooManyCalls fault e = refl
cut_by TooManyBytes fault e = refl
cut_by TooManyLines fault e = refl

pub fault_ends : (can_fail : Bool) (a b : Config) (old new : Feed) (last : ℕ) (fault : RefusedLine) (stop : Stop) → old.stop ≡ None → new.stop ≡ Some stop → GivesFault a.objects old fault new
    → (IsSome new.stop → AreGivenBy can_fail a.objects old (refusal fault ∷ [])) → EndsPair can_fail a.objects b.objects old last new.stop
fault_ends can_fail a b old new last fault stop runs over gives given =
    let end = fault_last can_fail a.objects old new fault stop over gives given in
    let fits : stop_fault stop ≡ Some fault.fault = subst (λ s. FaultFits fault.fault s) over gives.fits in
    record {
      refused = Some fault;
      first = end.0;
      second = over_for_each can_fail a.objects b.objects old last (refusal fault) runs end.1 end.0;
      ends = end.1;
      cut = sym (ap is_cut over ∙ cut_by stop fault.fault fits);
    }

pub none_ends : (can_fail : Bool) (a b : Config) (old new : Feed) (last : ℕ) → old.stop ≡ None → GivesNone a.objects old new → new.stop ≡ Some InputEnded → EndsPair can_fail a.objects b.objects old last new.stop
none_ends can_fail a b old new last runs gives over = record {
  refused = None;
  first = none_given can_fail a.objects old new gives.answers;
  second = none_for_each can_fail a.objects b.objects old new last runs gives.answers;
  ends = tt;
  cut = sym (ap is_cut over);
}
