-- Laws of what the answers of a feeder say of the lines of its feed.
use Rattle.std.proofs.Common.{◌≡◌, ℕ, ◌+◌, ◌<◌, ◌≤◌, true, false, not, All, List, [], ◌∷◌, ◌++◌, length, replicate, Option, None, Some, Bool, IsSome, IfSome, IsTrue, Ok, Err, refl, sym, ap, subst, ◌∙◌, inl, inr, arith, append_assoc, length-append}
use Rattle.std.proofs.lemmas.List.{length-replicate}
use Rattle.std.proofs.lemmas.List.Elements.{All-append, All-push, All-weaker}
use Rattle.due_model.specs.declared.config.Config.{Config}
use Rattle.due_model.specs.declared.config.Object.{Object}
use Rattle.due_model.specs.declared.event.Event.{Event}
use Rattle.event_feed.specs.declared.fault.FeedFault.TheVariants.{Cut, Read}
use Rattle.event_feed.specs.declared.fault.RefusedLine.{RefusedLine}
use Rattle.text_lines.specs.declared.line_reader.Stop.{Stop}
use Rattle.text_lines.specs.declared.line_reader.Stop.TheVariants.{InputEnded, CutLine, ReaderFailed, TooManyCalls, TooManyBytes, TooManyLines}
use Rattle.event_feed.specs.claims.Fault.{is_line_fault, stop_fault}
use Rattle.event_feed.specs.claims.Feed.{Answer, AnswersNextWithin, AnswersNoneWithin, AreGiven, AreGivenBy, AreGivenByWithin, ComesNext, FaultAnswersWithin, FaultComesToWithin, FaultFits, Feed, GivesEvent, GivesEventWithin, GivesFault, GivesFaultWithin, HasLong, answers_from_within, ends_feed, least_at_read, no_line, refusal}
use Rattle.event_feed.specs.Feed.{AnswersNext, AnswersNone, PassesLines, answers_from}
use Rattle.text_lines.specs.claims.Lines.{Known, pieces}

pub known_same : (bytes : Option (List ℕ)) (P : List ℕ → List ℕ → Type 0)
    → ((xs : List ℕ) → P xs xs) → Known bytes bytes P
known_same None P h = tt
known_same (Some bytes) P h = h bytes

pub known_weaker : (a b : Option (List ℕ)) (P Q : List ℕ → List ℕ → Type 0) → Known a b P
    → ((xs ys : List ℕ) → P xs ys → Q xs ys) → Known a b Q
known_weaker None b P Q p f = tt
known_weaker (Some xs) None P Q p f = absurd p
known_weaker (Some xs) (Some ys) P Q p f = f xs ys p

pub known_then : (a b d : Option (List ℕ)) (P Q R : List ℕ → List ℕ → Type 0) → Known a b P
    → Known b d Q → ((xs ys zs : List ℕ) → P xs ys → Q ys zs → R xs zs) → Known a d R
known_then None b d P Q R p q f = tt
known_then (Some xs) None d P Q R p q f = absurd p
known_then (Some xs) (Some ys) None P Q R p q f = q
known_then (Some xs) (Some ys) (Some zs) P Q R p q f = f xs ys zs p q

-- the last of these pieces are the others, and so many come before them
abbrev pub Passed : (from : ℕ) → (texts : List (List ℕ)) → (line : ℕ) → (others : List (List ℕ))
    → Type 0
Passed from texts line others = (before : List (List ℕ)) × (texts ≡ before ++ others)
    × (line ≡ from + length before)

pub passed_more : (from now line : ℕ) (texts mid others : List (List ℕ))
    → Passed from texts now mid → Passed now mid line others → Passed from texts line others
passed_more from now line texts mid others p q = (
  p.0 ++ q.0,
  p.1 ∙ ap (λ (more : List (List ℕ)). p.0 ++ more) q.1
      ∙ sym (append_assoc p.0 q.0 others),
  omega (arith, p.2, q.2, length-append p.0 q.0),
)

-- the pieces after the line that comes
pub passed : (from : ℕ) (texts : List (List ℕ)) (line : ℕ) (text : List ℕ)
    (others : List (List ℕ)) → ComesNext from texts line text others
    → (before : List (List ℕ)) × (texts ≡ before ++ others) × (line ≡ from + length before)
passed from texts line text others next = (
  replicate next.empty [] ++ text ∷ [],
  next.are ∙ sym (append_assoc (replicate next.empty []) (text ∷ []) others),
  omega (
    arith,
    next.number,
    length-append (replicate next.empty []) (text ∷ []),
    length-replicate {A = List ℕ} next.empty [],
  ),
)

pub event_passes_within : (far : ℕ → Bool) (c : Config) (old : Feed) (event : Event) (new : Feed)
    → GivesEventWithin far c old event new → PassesLines old new
event_passes_within far c old event new gives =
    known_weaker old.bytes new.bytes _ _ gives.place
    (λ xs ys h. passed old.line (pieces xs) new.line new.text (pieces ys) h.0)

pub fault_passes_within : (far : ℕ → Bool) (objects : List Object) (old : Feed)
    (fault : RefusedLine) (new : Feed) → new.stop ≡ None
    → GivesFaultWithin far objects old fault new → PassesLines old new
fault_passes_within far objects old fault new e gives =
    let place : FaultComesToWithin far objects old fault None new =
    subst (λ s. FaultComesToWithin far objects old fault s new) e gives.place in
    known_weaker old.bytes new.bytes _ _ place
    (λ xs ys h. let p = passed old.line (pieces xs) fault.line h.text (pieces ys) h.next in
    (p.0, p.1, sym gives.number ∙ p.2))

-- one answer, and those after it
pub next_by : (far : ℕ → Bool) (can_fail : Bool) (objects : List Object) (old new : Feed)
    (answer : Answer) (bytes rest : Option (List ℕ))
    → Known bytes rest (λ before after. answers_from_within far objects old before
    ≡ answer ∷ answers_from_within far objects new after)
    → (more : List Answer) × IfSome bytes (λ before. AreGiven can_fail (answer ∷ more)
    (answers_from_within far objects old before) old.line (pieces before))
next_by far can_fail objects old new answer None rest h = ([], tt)
next_by far can_fail objects old new answer (Some before) None h = absurd h
next_by far can_fail objects old new answer (Some before) (Some after) h =
    (answers_from_within far objects new after, inl (sym h))

pub next_given_within : (far : ℕ → Bool) (can_fail : Bool) (objects : List Object)
    (old new : Feed) (answer : Answer) → AnswersNextWithin far objects old answer new
    → (more : List Answer) × AreGivenByWithin far can_fail objects old (answer ∷ more)
next_given_within far can_fail objects old new answer h =
    next_by far can_fail objects old new answer old.bytes new.bytes h

-- no answer
pub none_by : (far : ℕ → Bool) (can_fail : Bool) (objects : List Object) (old : Feed)
    (bytes rest : Option (List ℕ))
    → Known bytes rest (λ before after. answers_from_within far objects old before ≡ [])
    → IfSome bytes (λ before. AreGiven can_fail [] (answers_from_within far objects old before)
    old.line (pieces before))
none_by far can_fail objects old None rest h = tt
none_by far can_fail objects old (Some before) None h = absurd h
none_by far can_fail objects old (Some before) (Some after) h = inl (sym h)

pub none_given_within : (far : ℕ → Bool) (can_fail : Bool) (objects : List Object)
    (old new : Feed) → AnswersNoneWithin far objects old new
    → AreGivenByWithin far can_fail objects old []
none_given_within far can_fail objects old new h =
    none_by far can_fail objects old old.bytes new.bytes h

-- Cut and Read come with a stop
pub short_by : (fault : RefusedLine) (stop : Stop) → stop_fault stop ≡ Some fault.fault
    → ends_feed (Err fault.fault) ≡ true
short_by fault InputEnded e = absurd (cc)
short_by fault CutLine e = let same : Cut ≡ fault.fault = cc in
    ap (λ f. not (is_line_fault f)) (sym same)
short_by fault ReaderFailed e = let same : Read ≡ fault.fault = cc in
    ap (λ f. not (is_line_fault f)) (sym same)
short_by fault TooManyCalls e = let same : Read ≡ fault.fault = cc in
    ap (λ f. not (is_line_fault f)) (sym same)
short_by fault TooManyBytes e = let same : Read ≡ fault.fault = cc in
    ap (λ f. not (is_line_fault f)) (sym same)
short_by fault TooManyLines e = let same : Read ≡ fault.fault = cc in
    ap (λ f. not (is_line_fault f)) (sym same)

-- the refusal of a line that ends the feed
pub fault_last_within : (far : ℕ → Bool) (can_fail : Bool) (objects : List Object)
    (old new : Feed) (fault : RefusedLine) (stop : Stop) → new.stop ≡ Some stop
    → GivesFaultWithin far objects old fault new
    → (IsSome new.stop → AreGivenByWithin far can_fail objects old (refusal fault ∷ []))
    → AreGivenByWithin far can_fail objects old (refusal fault ∷ [])
    × (ends_feed (Err fault.fault) ≡ true)
fault_last_within far can_fail objects old new fault stop e h last =
    (last (rw e refl), short_by fault stop (subst (λ s. FaultFits fault.fault s) e h.fits))

-- a line that is read over
pub fault_next_within : (far : ℕ → Bool) (objects : List Object) (old new : Feed)
    (fault : RefusedLine) → new.stop ≡ None → GivesFaultWithin far objects old fault new
    → AnswersNextWithin far objects old (refusal fault) new
    × (ends_feed (Err fault.fault) ≡ false)
fault_next_within far objects old new fault e h = (
  subst (λ s. FaultAnswersWithin far objects old fault s new) e h.answers,
  ap not (line_fault (subst (λ s. FaultFits fault.fault s) e h.fits)),
)
  where
    line_fault : IsTrue (is_line_fault fault.fault) → is_line_fault fault.fault ≡ true
    line_fault h = h

-- an event is an answer
pub event_answers_within : (far : ℕ → Bool) (c : Config) (old new : Feed) (event : Event)
    (line : ℕ) → line ≡ new.line → GivesEventWithin far c old event new
    → AnswersNextWithin far c.objects old (record { line = line; given = Ok event }) new
event_answers_within far c old new event line e gives =
    subst
    (λ n. AnswersNextWithin far c.objects old (record { line = n; given = Ok event }) new)
    (sym e) gives.answers

pub earlier_more : (given : List Answer) (answer : Answer) (line line' : ℕ) → line ≤ line'
    → answer.line ≤ line' → All (λ a. a.line ≤ line) given
    → All (λ a. a.line ≤ line') (given ++ answer ∷ [])
earlier_more given answer line line' le at h =
    All-push (λ a. a.line ≤ line') given answer (All-weaker (λ a. a.line ≤ line)
    (λ a. a.line ≤ line') (λ a k. omega (arith, k, le)) given h) at

-- a long line of those after it
pub place_more : (from now : ℕ) (texts others : List (List ℕ)) (line count : ℕ)
    → Passed from texts now others → HasLong now others line count → HasLong from texts line count
place_more from now texts others line count p place = record {
  before = p.0 ++ place.before;
  text = place.text;
  others = place.others;
  are = p.1 ∙ ap (λ (more : List (List ℕ)). p.0 ++ more) place.are
      ∙ sym (append_assoc p.0 place.before (place.text ∷ place.others));
  number = omega (arith, place.number, p.2, length-append p.0 place.before);
  long = place.long;
}

-- all lines up to one are before a later one
pub earlier_below : (given front : List Answer) (line later : ℕ) → line < later
    → All (λ a. a.line ≤ line) given → All (λ a. a.line < later) front
    → All (λ a. a.line < later) (given ++ front)
earlier_below given front line later below h k =
    All-append (λ a. a.line < later) given front (All-weaker (λ a. a.line ≤ line)
    (λ a. a.line < later) (λ a le. omega (arith, le, below)) given h) k

pub then_by_within : (far : ℕ → Bool) (can_fail : Bool) (c : Config) (start now : Feed) (given others : List Answer)
    (bytes rest : Option (List ℕ)) → start.line ≤ now.line → All (λ a. a.line ≤ now.line) given
    → All (λ a. ends_feed a.given ≡ false) given
    → Known bytes rest (λ before after. answers_from_within far c.objects start before
    ≡ given ++ answers_from_within far c.objects now after)
    → Known bytes rest (λ before after. Passed start.line (pieces before) now.line (pieces after))
    → IfSome rest (λ after. AreGiven can_fail others (answers_from_within far c.objects now after) now.line
    (pieces after))
    → IfSome bytes (λ before. AreGiven can_fail (given ++ others)
    (answers_from_within far c.objects start before) start.line (pieces before))
then_by_within far can_fail c start now given others None rest line earlier on f l h = tt
then_by_within far can_fail c start now given others (Some before) None line earlier on f l h = absurd f
then_by_within far can_fail c start now given others (Some before) (Some after) line earlier on f l (inl same) =
    inl (ap (λ more. given ++ more) same ∙ sym f)
then_by_within far can_fail c start now given others (Some before) (Some after) line earlier on f l (inr fails) =
    let first : now.line < fails.line = omega (arith, fails.place.number) in
    inr (record {
      front = given ++ fails.front;
      line = fails.line;
      others = fails.others;
      begins = f ∙ ap (λ more. given ++ more) fails.begins
          ∙ sym (append_assoc given fails.front fails.others);
      place = place_more start.line now.line (pieces before) (pieces after) fails.line
          (least_at_read can_fail) l fails.place;
      earlier = earlier_below given fails.front now.line fails.line first earlier fails.earlier;
      read_on = All-append (λ a. ends_feed a.given ≡ false) given fails.front on fails.read_on;
      later = fails.later;
      whole = ap (λ more. given ++ more) fails.whole
          ∙ sym (append_assoc given fails.front
          (record { line = fails.line; given = Err Read } ∷ []));
    })

-- ---- of a feed of which no line is too far ahead

pub event_passes : (c : Config) (old : Feed) (event : Event) (new : Feed)
    → GivesEvent c old event new → PassesLines old new
event_passes = event_passes_within no_line

pub fault_passes : (objects : List Object) (old : Feed) (fault : RefusedLine) (new : Feed)
    → new.stop ≡ None → GivesFault objects old fault new → PassesLines old new
fault_passes = fault_passes_within no_line

pub next_given : (can_fail : Bool) (objects : List Object) (old new : Feed) (answer : Answer)
    → AnswersNext objects old answer new → (more : List Answer)
    × AreGivenBy can_fail objects old (answer ∷ more)
next_given = next_given_within no_line

pub none_given : (can_fail : Bool) (objects : List Object) (old new : Feed)
    → AnswersNone objects old new → AreGivenBy can_fail objects old []
none_given = none_given_within no_line

pub fault_last : (can_fail : Bool) (objects : List Object) (old new : Feed) (fault : RefusedLine)
    (stop : Stop) → new.stop ≡ Some stop → GivesFault objects old fault new
    → (IsSome new.stop → AreGivenBy can_fail objects old (refusal fault ∷ []))
    → AreGivenBy can_fail objects old (refusal fault ∷ []) × (ends_feed (Err fault.fault) ≡ true)
fault_last = fault_last_within no_line

pub fault_next : (objects : List Object) (old new : Feed) (fault : RefusedLine)
    → new.stop ≡ None → GivesFault objects old fault new
    → AnswersNext objects old (refusal fault) new × (ends_feed (Err fault.fault) ≡ false)
fault_next = fault_next_within no_line

-- either way it is the next that is given
pub fault_given : (can_fail : Bool) (objects : List Object) (old new : Feed)
    (fault : RefusedLine) → GivesFault objects old fault new
    → (IsSome new.stop → AreGivenBy can_fail objects old (refusal fault ∷ []))
    → (more : List Answer) × AreGivenBy can_fail objects old (refusal fault ∷ more)
fault_given can_fail objects old new fault h last = by_stop new.stop refl
  where
    by_stop : (stop : Option Stop) → new.stop ≡ stop
        → (more : List Answer) × AreGivenBy can_fail objects old (refusal fault ∷ more)
    by_stop None e = next_given can_fail objects old new (refusal fault)
        (fault_next objects old new fault e h).0
    by_stop (Some stop) e = ([], last (rw e refl))

pub event_answers : (c : Config) (old new : Feed) (event : Event) (line : ℕ) → line ≡ new.line
    → GivesEvent c old event new
    → AnswersNext c.objects old (record { line = line; given = Ok event }) new
event_answers = event_answers_within no_line

pub then_by : (can_fail : Bool) (c : Config) (start now : Feed) (given others : List Answer)
    (bytes rest : Option (List ℕ)) → start.line ≤ now.line → All (λ a. a.line ≤ now.line) given
    → All (λ a. ends_feed a.given ≡ false) given
    → Known bytes rest (λ before after. answers_from c.objects start before
    ≡ given ++ answers_from c.objects now after)
    → Known bytes rest (λ before after. Passed start.line (pieces before) now.line (pieces after))
    → IfSome rest (λ after. AreGiven can_fail others (answers_from c.objects now after) now.line
    (pieces after))
    → IfSome bytes (λ before. AreGiven can_fail (given ++ others)
    (answers_from c.objects start before) start.line (pieces before))
then_by = then_by_within no_line
